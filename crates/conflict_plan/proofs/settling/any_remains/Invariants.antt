use Rattle.std.proofs.Common.{◌≡◌, List, ℕ, not, drop}
use Rattle.std.specs.List.{list_any}
use Rattle.trove_stream.specs.cny-base.Path.{join}
use Rattle.conflict_plan.specs.Making.{fate_at, is_gone}
use Rattle.conflict_plan.proofs.settling.any_remains.Given as goal

abbrev pub invariant-loop-last : goal.invariant-loop-last
invariant-loop-last l =
    list_any (λ (last : List ℕ). not (is_gone (fate_at l.plan (join l.path last)))) l.names
    ≡ list_any (λ (last : List ℕ). not (is_gone (fate_at l.plan (join l.path last)))) (drop l.last-index l.names)
