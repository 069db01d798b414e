use Rattle.std.proofs.Common.{◌≡◌, ◌++◌, drop}
use Rattle.repository.specs.Tests.{missing_ref, refs_of}
use Rattle.repository.proofs.refs.check_troves.Given as goal

abbrev pub invariant-loop-trove : goal.invariant-loop-trove
invariant-loop-trove l = missing_ref (l.committed.troves ++ l.added.troves) (refs_of (drop l.trove-index l.troves)) ≡ missing_ref (l.committed.troves ++ l.added.troves) (refs_of l.troves)
