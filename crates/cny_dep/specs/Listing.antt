-- The flags that stand in parentheses.
use Rattle.std.specs.Prelude.{◌≡◌, ℕ, ◌≤◌, Bool, ◌||◌, ◌==◌, IsTrue, List, [], ◌∷◌, ◌++◌, length, Option, Some, None}
use Rattle.std.specs.List.{list_all, slice_split}
use Rattle.std.specs.List.Sorted.{IsStrictlySortedBy, IsPermutation}
use Rattle.std.specs.Ordering.{nat_cmp}
use Rattle.std.specs.Cmp.Lexicographic.{slice_cmp}
use Rattle.cny_dep.specs.Part.{is_flag}

-- a space or a comma
abbrev pub is_separator : ℕ → Bool
is_separator b = b == 32 || b == 44

-- what stands behind a name, where parentheses do
abbrev pub group_text : Option (List ℕ) → List ℕ
group_text None = []
group_text (Some group) = 40 ∷ (group ++ 41 ∷ [])

-- The flags, in rising order, are what stands between the separators of the group.
pub record IsListing (group : List ℕ) (flags : List (List ℕ)) : Type 0 where
  pub valid : IsTrue (list_all is_flag flags)
  pub few : length flags ≤ 64
  pub rising : IsStrictlySortedBy (slice_cmp nat_cmp) flags
  pub order : IsPermutation flags (slice_split is_separator group)

-- a group lists its flags, and none lists none
abbrev pub Lists : Option (List ℕ) → List (List ℕ) → Type 0
Lists None flags = flags ≡ []
Lists (Some group) flags = IsListing group flags
