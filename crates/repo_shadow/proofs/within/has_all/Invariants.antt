use Rattle.std.proofs.Common.{All, take}
use Rattle.repo_shadow.specs.Within.{HasId}
use Rattle.repo_shadow.proofs.within.has_all.Given as goal

abbrev pub invariant-loop-id : goal.invariant-loop-id
invariant-loop-id l = All (HasId l.catalogue.troves) (take l.id-index l.ids)
