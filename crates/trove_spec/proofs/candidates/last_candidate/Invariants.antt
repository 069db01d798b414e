use Rattle.std.proofs.Common.{◌≡◌, length, None, option_copied}
use Rattle.std.specs.List.{last_or}
use Rattle.repo_index.specs.Places.{troves_at}
use Rattle.trove_spec.specs.Resolve.{candidates_of}
use Rattle.trove_spec.proofs.candidates.last_candidate.Given as goal

abbrev pub invariant-loop-place : goal.invariant-loop-place
invariant-loop-place l =
    last_or None (candidates_of (option_copied l.label) (option_copied l.version) l.system (troves_at l.catalogue.troves l.rest))
    ≡ last_or None (candidates_of (option_copied l.label) (option_copied l.version) l.system (troves_at l.catalogue.troves l.places))

abbrev pub decreases-loop-place : goal.decreases-loop-place
decreases-loop-place l = length l.rest
