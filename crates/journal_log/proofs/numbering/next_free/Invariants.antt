use Rattle.std.proofs.Common.{◌≡◌, ◌<◌, ◌≤◌, ◌-◌, ◌^◌, ◌==◌, ℕ, true}
use Rattle.std.specs.List.{list_any}
use Rattle.journal_log.proofs.numbering.next_free.Given as goal

abbrev pub invariant-loop-number : goal.invariant-loop-number
invariant-loop-number l = (l.from ≤ l.number) × (l.number < 2 ^ 32) × ((m : ℕ) → l.from ≤ m → m < l.number → list_any (λ n. n == m) l.used ≡ true)

abbrev pub decreases-loop-number : goal.decreases-loop-number
decreases-loop-number l = 2 ^ 32 - l.number
