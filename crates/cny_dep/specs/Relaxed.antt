-- The texts that stand for a dependency, where its flags may come in any order and a comma may stand for a space between them.
use Rattle.std.specs.Prelude.{◌≡◌, ℕ, ◌==◌, if◌then◌else◌, List, map}
use Rattle.std.specs.List.Sorted.{IsPermutation}
use Rattle.cny_dep.specs.Dep.{Dependency, flags_text, with_group}

abbrev pub space_for_comma : ℕ → ℕ
space_for_comma b = if b == 44 then 32 else b

-- The flags are listed in some order, and any of the spaces of their text may be a comma.
pub record IsRelaxedText (text : List ℕ) (dep : Dependency) : Type 0 where
  pub listed : List (List ℕ)
  pub order : IsPermutation dep.flags listed
  pub group : List ℕ
  pub spaced : map space_for_comma group ≡ flags_text listed
  pub spelled : text ≡ with_group dep.class dep.name group
