-- The text of an id, cut at its `=` and its brackets.
use Rattle.std.proofs.Common.{◌≡◌, ℕ, List, ◌∷◌, ◌++◌, sym, ap, ◌∙◌}
use Rattle.cny_dep.specs.Canonical.{flavor_text}
use Rattle.cny_version.specs.Version.{version_text}
use Rattle.trove_parts.specs.declared.id.TroveId.{TroveId}
use Rattle.trove_parts.specs.Id.{IsTroveId, in_brackets, id_text_of}
use Rattle.trove_parts.specs.Parts.{AreTextsOf, Lacks, IsCutAtBracket}
use Rattle.cny_dep.proofs.Cuts.{same_cut, no_cut}
use Rattle.trove_parts.proofs.Cuts.{same_parts}
use Rattle.trove_parts.proofs.IdFields.{name_lacks}
use Rattle.trove_parts.proofs.VersionBytes.{version_lacks}

-- a text without `=` is that of no id
pub no_equals : (text : List ℕ) (id : TroveId) → Lacks 61 text → text ≡ id_text_of id → ⊥
no_equals text id lacks same = no_cut 61 text id.name (version_text id.version ++ in_brackets (flavor_text id.flavor)) lacks same

-- a text that is cut at its first `=`
pub record IsCutAtEquals (text name rest : List ℕ) : Type 0 where
  pub whole : text ≡ name ++ 61 ∷ rest
  pub front : Lacks 61 name

cut_of : (text name rest : List ℕ) (id : TroveId) → IsCutAtEquals text name rest → IsTroveId id → text ≡ id_text_of id → (name ≡ id.name) × (rest ≡ version_text id.version ++ in_brackets (flavor_text id.flavor))
cut_of text name rest id cut is same =
    same_cut 61 name id.name rest (version_text id.version ++ in_brackets (flavor_text id.flavor)) cut.front (name_lacks id.name is.name) (sym cut.whole ∙ same)

-- what stands behind the `=` is cut at the brackets
pub rest_of : (text name rest : List ℕ) (id : TroveId) → IsCutAtEquals text name rest → IsTroveId id → text ≡ id_text_of id → IsCutAtBracket rest (version_text id.version) (flavor_text id.flavor)
rest_of text name rest id cut is same = record { front = version_lacks id.version is.version; whole = (cut_of text name rest id cut is same).1 }

pub texts_of : (text name rest version flavor : List ℕ) (id : TroveId) → IsCutAtEquals text name rest → IsCutAtBracket rest version flavor → IsTroveId id → text ≡ id_text_of id
    → AreTextsOf id name version flavor
texts_of text name rest version flavor id cut parts is same =
    let found = same_parts rest version flavor (version_text id.version) (flavor_text id.flavor) parts (rest_of text name rest id cut is same) in
    record { valid = is; name_is = (cut_of text name rest id cut is same).0; version_is = found.0; flavor_is = found.1 }

pub text_from : (text name rest version flavor : List ℕ) (id : TroveId) → IsCutAtEquals text name rest → IsCutAtBracket rest version flavor → AreTextsOf id name version flavor
    → text ≡ id_text_of id
text_from text name rest version flavor id cut parts texts =
    cut.whole ∙ ap (λ l. name ++ 61 ∷ l) parts.whole
    ∙ ap (λ l. l ++ 61 ∷ (version ++ in_brackets flavor)) texts.name_is
    ∙ ap (λ l. id.name ++ 61 ∷ (l ++ in_brackets flavor)) texts.version_is
    ∙ ap (λ l. id.name ++ 61 ∷ (version_text id.version ++ in_brackets l)) texts.flavor_is
