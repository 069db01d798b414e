-- Sizes that fit.
use Rattle.std.proofs.Common.{arith, ℕ, ◌<◌, ◌^◌, ◌≤◌}

pub small : (n : ℕ) → n ≤ 2057 → n < 2 ^ 32
small n le = omega arith
