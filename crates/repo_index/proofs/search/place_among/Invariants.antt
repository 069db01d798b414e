use Rattle.std.proofs.Common.{ℕ, ◌<◌, get_or}
use Rattle.repo_index.specs.Places.{HasIdAt}
use Rattle.repo_index.proofs.search.place_among.Given as goal

abbrev pub invariant-loop-place : goal.invariant-loop-place
invariant-loop-place l = (k : ℕ) → k < l.place-index → HasIdAt l.troves l.id (get_or l.places k 0) → ⊥
