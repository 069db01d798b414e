-- What a dependency is, and its canonical text.
use Rattle.std.specs.Prelude.{◌≡◌, ℕ, ◌≤◌, IsTrue, List, [], ◌∷◌, ◌++◌, length, codes}
use Rattle.std.specs.List.{list_all, join_with_byte}
use Rattle.std.specs.List.Sorted.{IsStrictlySortedBy}
use Rattle.std.specs.Ordering.{nat_cmp}
use Rattle.std.specs.Cmp.Lexicographic.{slice_cmp}
use Rattle.cny_dep.specs.declared.class.Class.{Class}
use Rattle.cny_dep.specs.declared.class.Class.TheVariants.{Abi, File, Trove, Soname, UserInfo, GroupInfo, Python, Perl}
use Rattle.cny_dep.specs.Part.{is_dep_name, is_flag}

pub record Dependency : Type 0 where
  pub class : Class
  pub name : List ℕ
  pub flags : List (List ℕ)

-- at most 64 flags, each above the one before it by its bytes
pub record IsDependency (dep : Dependency) : Type 0 where
  pub name : IsTrue (is_dep_name dep.name)
  pub flags : IsTrue (list_all is_flag dep.flags)
  pub few : length dep.flags ≤ 64
  pub rising : IsStrictlySortedBy (slice_cmp nat_cmp) dep.flags

-- ---- the text

abbrev pub class_text : Class → List ℕ
class_text Abi = codes "abi"
class_text File = codes "file"
class_text Trove = codes "trove"
class_text Soname = codes "soname"
class_text UserInfo = codes "userinfo"
class_text GroupInfo = codes "groupinfo"
class_text Python = codes "python"
class_text Perl = codes "perl"

-- the flags in parentheses, with a space between each two; where there are none, nothing
abbrev pub flags_text : List (List ℕ) → List ℕ
flags_text [] = []
flags_text (flag ∷ flags) = 40 ∷ (join_with_byte 32 (flag ∷ flags) ++ 41 ∷ [])

-- the class, a colon and a space, the name, and what stands behind it
abbrev pub with_group : Class → List ℕ → List ℕ → List ℕ
with_group class name group = class_text class ++ (codes ": " ++ (name ++ group))

abbrev pub dep_text : Dependency → List ℕ
dep_text dep = with_group dep.class dep.name (flags_text dep.flags)

-- a dependency beside its canonical text
pub record IsWritten (dep : Dependency) (text : List ℕ) : Type 0 where
  pub dependency : IsDependency dep
  pub spelled : text ≡ dep_text dep
