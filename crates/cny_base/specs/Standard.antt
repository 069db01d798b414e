-- A reader or a writer of std, with a count of its errors.
use Rattle.std.specs.Prelude.{ℕ}

-- the reader of a source, and how often a read answered an error
pub record StdSourceState (R : Type 0) : Type 0 where
  pub reader : R
  pub faults : ℕ

-- the writer of a sink, and how often a write answered an error or took nothing
pub record StdSinkState (W : Type 0) : Type 0 where
  pub writer : W
  pub faults : ℕ
