use Rattle.std.proofs.Common.{◌≡◌, ◌++◌, drop}
use Rattle.repository.specs.Tests.{missing_ref}
use Rattle.repository.proofs.refs.check_ids.Given as goal

abbrev pub invariant-loop-id : goal.invariant-loop-id
invariant-loop-id l = missing_ref (l.committed.troves ++ l.added.troves) (drop l.id-index l.ids) ≡ missing_ref (l.committed.troves ++ l.added.troves) l.ids
