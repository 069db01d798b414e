use Rattle.std.proofs.Common.{◌≡◌, [], length, drop}
use Rattle.std.specs.List.{fold}
use Rattle.manifest_troves.specs.Contents.{put_content}
use Rattle.manifest_troves.specs.Kept.{collision_from}
use Rattle.manifest_troves.proofs.contents.kept_contents.Given as goal

abbrev pub invariant-loop-content : goal.invariant-loop-content
invariant-loop-content l =
    record {
      entries : l.kept.entries ≡ fold put_content [] l.yielded;
      first : collision_from [] l.fn.contents.items ≡ collision_from l.kept.entries (drop (length l.yielded) l.fn.contents.items);
    }
