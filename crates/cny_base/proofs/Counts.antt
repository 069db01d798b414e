-- Small numbers, and their bytes.
use Rattle.std.proofs.Common.{arith, length, refl, suc, true, zero, ℕ, ◌%◌, ◌&&◌, ◌/◌, ◌<◌, ◌^◌, ◌≡◌, ◌≤◌}
use Rattle.std.proofs.lemmas.Bool.Decides.{nat_tests}
use Rattle.std.specs.Int.{byte_at, to_be_bytes, w32}
use Rattle.std.specs.Prelude.{nat_le, ◌==◌}
use Rattle.std.specs.Ordering.{is_eq, nat_cmp}

pub fits : (n : ℕ) → n ≤ 1024 → nat_le n 1024 ≡ true
fits n le = grind (arith, nat_tests)

pub four_bytes : (n : ℕ) → length (to_be_bytes w32 n) ≡ 4
four_bytes n = refl

pub between : (n : ℕ) → 1 ≤ n → n ≤ 255 → (nat_le 1 n && nat_le n 255) ≡ true
between n some short = grind (arith, nat_tests)

pub remainder : (n : ℕ) → n % 256 < 256
remainder n = omega arith

pub byte_small : (k n : ℕ) → byte_at k n < 256
byte_small zero n = remainder n
byte_small (suc k) n = remainder (n / 256 ^ suc k)

pub at_most : (m n : ℕ) → nat_le m n ≡ true → m ≤ n
at_most m n h = grind (arith, nat_tests)

pub is_at_most : (m n : ℕ) → m ≤ n → nat_le m n ≡ true
is_at_most m n h = grind (arith, nat_tests)

pub equal_numbers : (m n : ℕ) → is_eq (nat_cmp m n) ≡ (m == n)
equal_numbers m n = grind (arith, nat_tests)

pub number_same : (m n : ℕ) → m ≡ n → (m == n) ≡ true
number_same m n is = grind (arith, nat_tests)

pub small : (n : ℕ) → n ≤ 17290 → n < 2 ^ 32
small n le = omega arith
