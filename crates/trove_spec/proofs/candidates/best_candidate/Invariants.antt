use Rattle.std.proofs.Common.{◌≡◌, take, filter, option_copied}
use Rattle.repo_index.specs.Places.{troves_at}
use Rattle.trove_spec.specs.Resolve.{best, is_wanted}
use Rattle.trove_spec.proofs.candidates.best_candidate.Given as goal

abbrev pub invariant-loop-place : goal.invariant-loop-place
invariant-loop-place l =
    option_copied l.found ≡ best l.system (filter (is_wanted (option_copied l.label) (option_copied l.version) l.system l.newest) (troves_at l.catalogue.troves (take l.place-index l.places)))
