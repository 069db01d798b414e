use Rattle.std.proofs.Common.{◌≡◌, ◌==◌, ℕ, take}
use Rattle.std.specs.List.{list_any}
use Rattle.journal_log.specs.declared.put.Put.{Put}
use Rattle.journal_log.specs.Staged.{is_staged_as, NumbersFit}
use Rattle.journal_log.proofs.staged.StagedNumbers.of.Given as goal

abbrev pub invariant-loop-put : goal.invariant-loop-put
invariant-loop-put l = ((n : ℕ) → list_any (λ m. m == n) l.numbers.keys ≡ list_any (λ (p : Put). is_staged_as n p.want) (take l.put-index l.writes)) × NumbersFit l.numbers.keys
