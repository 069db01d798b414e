-- Sources and sinks in memory, whose calls fail by their numbers.
use Rattle.std.specs.Prelude.{ℕ, List}

-- what a source in memory has left, the calls that are to fail, and how many it had and failed
pub record MemorySourceState : Type 0 where
  pub left : List ℕ
  pub fails : List ℕ
  pub calls : ℕ
  pub faults : ℕ

-- what a sink in memory holds, the calls that are to fail, and how many it had and failed
pub record MemorySinkState : Type 0 where
  pub written : List ℕ
  pub fails : List ℕ
  pub calls : ℕ
  pub faults : ℕ
