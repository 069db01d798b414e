use Rattle.std.proofs.Common.{◌≡◌, length, take}
use Rattle.std.specs.Prelude.{flat_map}
use Rattle.change_set.specs.ChangeSet.{content_bytes}
use Rattle.change_set.proofs.writing.contents_size.Given as goal

abbrev pub invariant-loop-content : goal.invariant-loop-content
invariant-loop-content l = l.size ≡ length (flat_map content_bytes (take l.content-index l.contents))
