-- Values that are there.
use Rattle.std.proofs.Common.{List, Some, ℕ, ◌≡◌}

pub same_path : (a b : List ℕ) → Some a ≡ Some b → a ≡ b
same_path a b e = cc e

pub same_some : {A : Type 0} (x y : A) → Some x ≡ Some y → x ≡ y
same_some x y e = cc e
