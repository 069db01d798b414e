-- Two items, and what stands behind them, that are the same.
use Rattle.std.specs.Prelude.{◌≡◌, ℕ, List}

pub record SameItem (tag tag' : ℕ) (value value' rest rest' : List ℕ) : Type 0 where
  pub tags : tag ≡ tag'
  pub values : value ≡ value'
  pub rests : rest ≡ rest'
