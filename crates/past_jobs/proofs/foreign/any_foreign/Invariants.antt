use Rattle.std.proofs.Common.{◌≡◌, List, ℕ, drop}
use Rattle.std.specs.List.{list_any}
use Rattle.change_rel.specs.cny-base.Path.{join}
use Rattle.past_jobs.specs.Seen.{is_foreign}
use Rattle.past_jobs.proofs.foreign.any_foreign.Given as goal

abbrev pub invariant-loop-last : goal.invariant-loop-last
invariant-loop-last l =
    list_any (λ (last : List ℕ). is_foreign l.found l.changes (join l.dir last)) l.names
    ≡ list_any (λ (last : List ℕ). is_foreign l.found l.changes (join l.dir last)) (drop l.last-index l.names)
