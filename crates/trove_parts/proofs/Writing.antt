-- The items of the elements that were put so far.
use Rattle.std.proofs.Common.{◌≡◌, ℕ, List, ◌++◌, take, All}
use Rattle.trove_parts.specs.Items.{items_bytes}

pub record IsWritten {A : Type 0} (value : A → List ℕ) (IsValid : A → Type 0) (tag : ℕ) (before : List ℕ) (xs : List A) (count : ℕ) (out : List ℕ) : Type 0 where
  pub valid : All IsValid (take count xs)
  pub text : out ≡ before ++ items_bytes value tag (take count xs)
