use Rattle.std.proofs.Common.{◌≡◌, ◌++◌, map}
use Rattle.std.specs.Prelude.{All}
use Rattle.change_set.specs.trove-stream.Trove.{IsTrove}
use Rattle.manifest_troves.specs.Shares.{named_trove}
use Rattle.manifest_troves.proofs.troves.push_components.Given as goal

abbrev pub invariant-loop-name : goal.invariant-loop-name
invariant-loop-name l =
    record {
      items : l.troves.items ≡ l.fn.troves.items ++ map (named_trove l.id) l.yielded;
      are : All IsTrove (map (named_trove l.id) l.yielded);
    }
