-- When what one trove provides meets what another requires.
use Rattle.std.specs.Prelude.{◌≡◌, All, Contains}
use Rattle.cny_dep.specs.Dep.{Dependency}

-- the same class, the same name, and every flag of the requirement is one of the provide
pub record Satisfies (provide require : Dependency) : Type 0 where
  pub class : provide.class ≡ require.class
  pub name : provide.name ≡ require.name
  pub flags : All (Contains provide.flags) require.flags
