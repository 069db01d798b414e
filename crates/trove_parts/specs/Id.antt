-- Ids of troves, with their texts and their bytes in streams.
use Rattle.std.specs.Prelude.{◌≡◌, ℕ, ◌≤◌, true, IsTrue, List, [], ◌∷◌, ◌++◌, length, drop}
use Rattle.cny_version.specs.cny-base.Name.{is_name}
use Rattle.cny_version.specs.cny-base.StrField.{str}
use Rattle.cny_dep.specs.Canonical.{is_flavor, flavor_text}
use Rattle.cny_version.specs.Version.{IsVersion, version_text}
use Rattle.trove_parts.specs.declared.id.TroveId.{TroveId}

-- a name, a version and a flavor, each by its rules
pub record IsTroveId (id : TroveId) : Type 0 where
  pub name : IsTrue (is_name id.name)
  pub version : IsVersion id.version
  pub flavor : is_flavor id.flavor ≡ true

-- a text between `[` and `]`; nothing where it is empty
abbrev pub in_brackets : List ℕ → List ℕ
in_brackets [] = []
in_brackets (b ∷ bs) = 91 ∷ ((b ∷ bs) ++ 93 ∷ [])

-- the name, `=` and the version, and the flavor in brackets, where it isn't empty
abbrev pub id_text_of : TroveId → List ℕ
id_text_of id = id.name ++ 61 ∷ (version_text id.version ++ in_brackets (flavor_text id.flavor))

-- three fields: the name, and the texts of the version and the flavor
abbrev pub id_bytes : TroveId → List ℕ
id_bytes id = str id.name ++ (str (version_text id.version) ++ str (flavor_text id.flavor))

-- the bytes of the id begin at `at` and end at `to`
pub record IsIdAt (bytes : List ℕ) (at : ℕ) (id : TroveId) (to : ℕ) : Type 0 where
  pub valid : IsTroveId id
  pub order : at ≤ to
  pub within : to ≤ length bytes
  pub spelled : drop at bytes ≡ id_bytes id ++ drop to bytes
