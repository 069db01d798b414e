use Rattle.std.proofs.Common.{◌≡◌, map, take}
use Rattle.repo_index.specs.Places.{troves_at}
use Rattle.trove_spec.proofs.expanding.troves_at.Given as goal

abbrev pub invariant-loop-place : goal.invariant-loop-place
invariant-loop-place l = map (λ trove. trove.now) l.troves.items ≡ troves_at l.catalogue.troves (take l.place-index l.places)
