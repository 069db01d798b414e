-- Shared lemmas: file names.
use Rattle.journal_log.proofs.StagedLaws.{remainder}
use Rattle.std.proofs.Common.{[], true, ℕ, ◌%◌, ◌+◌, ◌<◌, ◌^◌, ◌∙◌, ◌∷◌, ◌≡◌}
use Rattle.std.proofs.lemmas.Fmt.{decimal_by_steps}
use Rattle.std.proofs.lemmas.List.Folds.{list_all-append}
use Rattle.std.specs.Cmp.Derive.{both_true}
use Rattle.std.specs.Fmt.{decimal}
use Rattle.std.specs.List.{list_all}
use Rattle.tree_disk.proofs.cny-base.FileNames.{is_low, one_digit}

pub digits_low : (n : ℕ) → n < 2 ^ 64 → list_all is_low (decimal n) ≡ true
digits_low = decimal_by_steps (λ n ds. list_all is_low ds ≡ true) one_digit
    (λ n ds big rest. list_all-append is_low ds ((48 + n % 10) ∷ []) ∙ both_true rest (one_digit (n % 10) (remainder n)))
