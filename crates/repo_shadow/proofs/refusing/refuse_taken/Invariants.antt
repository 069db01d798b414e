use Rattle.std.proofs.Common.{◌≡◌, drop}
use Rattle.repo_shadow.specs.Moved.{taken}
use Rattle.repo_shadow.proofs.refusing.refuse_taken.Given as goal

abbrev pub invariant-loop-id : goal.invariant-loop-id
invariant-loop-id l = taken l.catalogue.troves (drop l.id-index l.ids) ≡ taken l.catalogue.troves l.ids
