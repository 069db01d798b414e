-- Shared lemmas: allowed.
use Rattle.std.proofs.Common.{arith, true, ℕ, ◌==◌, ◌≡◌}
use Rattle.std.proofs.lemmas.Bool.Decides.{nat_tests}

pub is_zero : (n : ℕ) → (n == 0) ≡ true → n ≡ 0
is_zero n is = grind (arith, nat_tests)
