use Rattle.std.proofs.Common.{◌≡◌, filter, length, None, option_copied}
use Rattle.std.specs.List.{last_or}
use Rattle.repo_index.specs.Catalogue.{is_of}
use Rattle.repo_index.specs.Places.{troves_at}
use Rattle.repo_index.proofs.search.latest_among.Given as goal

abbrev pub invariant-loop-place : goal.invariant-loop-place
invariant-loop-place l =
    last_or None (filter (is_of l.branch l.upstream (option_copied l.source)) (troves_at l.troves l.rest))
    ≡ last_or None (filter (is_of l.branch l.upstream (option_copied l.source)) (troves_at l.troves l.places))

abbrev pub decreases-loop-place : goal.decreases-loop-place
decreases-loop-place l = length l.rest
