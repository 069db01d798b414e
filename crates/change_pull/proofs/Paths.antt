-- The paths of files under their numbers.
use Rattle.std.proofs.Common.{◌≡◌, ℕ, ◌<◌, ◌≤◌, ◌^◌, true, length, arith, lit<}
use Rattle.std.specs.Fmt.{decimal}
use Rattle.std.proofs.lemmas.Fmt.{length-decimal-le}
use Rattle.journal_log.specs.cny-base.Path.{is_path}
use Rattle.journal_log.specs.tree-disk.Tree.{Name}
use Rattle.journal_log.proofs.cny-base.Counts.{fits}
use Rattle.journal_log.proofs.cny-base.Parent.{join_is_path}
use Rattle.journal_log.proofs.tree-disk.Names.{join_short}
use Rattle.journal_log.proofs.StagedLaws.{decimal_parts}
use Rattle.change_pull.specs.Files.{number_path}

pub number_is_path : (dir : Name) (number : ℕ) → is_path dir ≡ true → length dir ≤ 1013 → number < 2 ^ 32 → is_path (number_path dir number) ≡ true
number_is_path dir number path short small =
    let long = length-decimal-le 10 number (lit< tt) (omega (arith, small)) (omega (arith, small)) in
    join_is_path dir (decimal number) path (decimal_parts number small) (fits (length (number_path dir number)) (omega (arith, short, long, join_short dir (decimal number))))
