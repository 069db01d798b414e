-- Specifications of troves and their texts.
use Rattle.std.specs.Prelude.{◌≡◌, ℕ, Bool, false, ◌==◌, IsTrue, List, [], ◌∷◌, ◌++◌, Option, Some, None, Result, Ok, Err}
use Rattle.repo_index.specs.cny-base.Name.{is_name}
use Rattle.repo_index.specs.cny-base.declared.text.TextFault.{TextFault}
use Rattle.repo_index.specs.cny-base.declared.text.TextFault.TheVariants as fault
use Rattle.cny_dep.specs.declared.parts.Parts.{Parts}
use Rattle.cny_dep.specs.Spelling.{IsRelaxedText}
use Rattle.cny_version.specs.Label.{label_text, is_label}
use Rattle.cny_version.specs.Version.{IsVersion}
use Rattle.cny_version.specs.Filled.{IsAbbreviationOf}
use Rattle.trove_spec.specs.declared.spec.Place.{Place}
use Rattle.trove_spec.specs.declared.spec.Place.TheVariants.{Any, OnLabel, At}
use Rattle.trove_spec.specs.declared.spec.Spec.{Spec}
pub use Rattle.repo_index.specs.trove-parts.Parts.{Lacks}

-- ---- the texts of the parts

-- the text of a whole label, or that of a version, in which labels may be abbreviated
abbrev pub IsLabelOrVersion : List ℕ → Place → Type 0
IsLabelOrVersion text Any = ⊥
IsLabelOrVersion text (OnLabel label) = IsTrue (is_label label) × (text ≡ label_text label)
IsLabelOrVersion text (At version) = IsVersion version × IsAbbreviationOf version text

-- what stands behind `=` where that stands there, else nothing
abbrev pub IsPlaceText : Option (List ℕ) → Place → Type 0
IsPlaceText None Any = Unit {0}
IsPlaceText None (OnLabel label) = ⊥
IsPlaceText None (At version) = ⊥
IsPlaceText (Some text) place = IsLabelOrVersion text place

-- a relaxed text of the flavor, which stands in brackets, or none
abbrev pub IsFlavorText : Option (List ℕ) → Option Parts → Type 0
IsFlavorText None None = Unit {0}
IsFlavorText None (Some flavor) = ⊥
IsFlavorText (Some text) None = ⊥
IsFlavorText (Some text) (Some flavor) = IsRelaxedText text flavor

pub record ArePartsOf (name : List ℕ) (place flavor : Option (List ℕ)) (spec : Spec) : Type 0 where
  pub valid : IsTrue (is_name name)
  pub name_is : spec.name ≡ name
  pub place_is : IsPlaceText place spec.place
  pub flavor_is : IsFlavorText flavor spec.flavor

-- ---- the text of a specification

-- `=` and a text, or nothing
abbrev pub behind_equals : Option (List ℕ) → List ℕ
behind_equals None = []
behind_equals (Some text) = 61 ∷ text

-- a text in brackets, or nothing
abbrev pub in_brackets : Option (List ℕ) → List ℕ
in_brackets None = []
in_brackets (Some text) = 91 ∷ (text ++ 93 ∷ [])

-- a name; `=` and a label or a version, or neither; a flavor in brackets, or none
pub record IsSpecText (text : List ℕ) (spec : Spec) : Type 0 where
  pub place : Option (List ℕ)
  pub flavor : Option (List ℕ)
  pub parts : ArePartsOf spec.name place flavor spec
  pub text_is : text ≡ (spec.name ++ behind_equals place) ++ in_brackets flavor

-- What a reader of a text of this value answers: the value, or that memory ran out.
abbrev pub IsReadAs : {T : Type 0} → Result T TextFault → T → Type 0
IsReadAs (Ok read) value = read ≡ value
IsReadAs (Err fault.Memory) value = Unit {0}
IsReadAs (Err fault.Bad) value = ⊥

-- ---- how a reader cuts a text

-- what stands before the first `=`, and what stands behind it
pub record IsCutAtEquals (text name : List ℕ) (place : Option (List ℕ)) : Type 0 where
  pub front : Lacks 61 name
  pub whole : text ≡ name ++ behind_equals place

-- what stands before the first `[`, and what stands between it and a `]` at the end
pub record IsCutAtBracket (text before : List ℕ) (flavor : Option (List ℕ)) : Type 0 where
  pub front : Lacks 91 before
  pub whole : text ≡ before ++ in_brackets flavor

abbrev pub begins_with_slash : List ℕ → Bool
begins_with_slash [] = false
begins_with_slash (b ∷ bytes) = b == 47
