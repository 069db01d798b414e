-- An answer that holds and fails as a property does.
use Rattle.std.specs.Prelude.{Bool, false, true, ◌≡◌}

-- an answer to whether P holds
pub record IsAnswer (P : Type 0) (answer : Bool) : Type 0 where
  pub holds : answer ≡ true → P
  pub fails : answer ≡ false → P → ⊥
