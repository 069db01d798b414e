use Rattle.std.proofs.Common.{◌≡◌, ℕ, ◌<◌, slice_get, Some}
use Rattle.repo_index.specs.trove-stream.declared.parts.TroveParts.{TroveParts}
use Rattle.dep_closure.specs.Closed.{provides_of}
use Rattle.sys_model.specs.Providers.{IsBesideAll}
use Rattle.sys_model.proofs.providers.Providers.of.Given as goal

-- the places so far stand beside the names of all that their troves provide
abbrev pub invariant-loop-place : goal.invariant-loop-place
invariant-loop-place l = (place : ℕ) (t : TroveParts) → place < l.place → slice_get l.troves place ≡ Some t → IsBesideAll l.names (provides_of t) place
