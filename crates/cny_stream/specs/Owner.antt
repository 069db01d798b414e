-- Owners of files and directories.
use Rattle.std.specs.Prelude.{ℕ, Bool, true, not, ◌&&◌, nat_le, List, length, codes, Option, Some, None}
use Rattle.std.specs.Cmp.{IsEquivalence}
use Rattle.std.specs.Cmp.Lexicographic.{nat_list_eq_equiv}
use Rattle.std.specs.Str.{bytes_eq}
use Rattle.std.proofs.lemmas.Cmp.{on_equiv, and_equiv}
use Rattle.cny_base.specs.Name.{is_word}
use Rattle.cny_stream.specs.declared.encoding.Encoding.{Encoding}
use Rattle.cny_stream.specs.declared.encoding.Encoding.TheVariants.{Compact, Explicit}

-- the user and the group
pub record OwnerNames : Type 0 where
  pub user : List ℕ
  pub group : List ℕ

-- a word of at most 32 bytes
abbrev pub is_owner_word : List ℕ → Bool
is_owner_word word = nat_le (length word) 32 && is_word word

abbrev pub is_owner : OwnerNames → Bool
is_owner owner = is_owner_word owner.user && is_owner_word owner.group

abbrev pub root : List ℕ
root = codes "root"

-- the owner of all that names none
abbrev pub root_owner : OwnerNames
root_owner = record { user = root; group = root }

abbrev pub is_root : OwnerNames → Bool
is_root owner = bytes_eq owner.user root && bytes_eq owner.group root

-- whether an encoding names an owner, who is root or not
abbrev pub names : Encoding → Bool → Bool
names Compact is_root = not is_root
names Explicit is_root = true

-- root, where no names are kept
abbrev pub names_of : Option (List ℕ × List ℕ) → OwnerNames
names_of None = root_owner
names_of (Some names) = record { user = names.0; group = names.1 }

abbrev user_of : OwnerNames → List ℕ
user_of owner = owner.user

abbrev group_of : OwnerNames → List ℕ
group_of owner = owner.group

abbrev pub owner_eq : OwnerNames → OwnerNames → Bool
owner_eq x y = bytes_eq (user_of x) (user_of y) && bytes_eq (group_of x) (group_of y)

pub owner_equiv : IsEquivalence owner_eq
owner_equiv = and_equiv (on_equiv user_of nat_list_eq_equiv) (on_equiv group_of nat_list_eq_equiv)
