-- Values of other crates that lines hold.
use Rattle.std.proofs.Common.{◌≡◌, ℕ, ◌==◌, true, false, IsTrue, List, [], ◌∷◌, length, Result, Ok, Err, refl, sym, ap, ◌∙◌, subst, arith}
use Rattle.std.specs.Prelude.{IfOk}
use Rattle.std.specs.Str.{is_utf8}
use Rattle.std.proofs.lemmas.Bool.{true≢false, eqb-true}
use Rattle.manifest_troves.specs.cny-base.declared.text.TextFault.{TextFault}
use Rattle.manifest_troves.specs.cny-base.declared.text.TextFault.TheVariants as text
use Rattle.cny_dep.specs.declared.parts.Parts.{Parts}
use Rattle.cny_dep.specs.Canonical.{flavor_text}
use Rattle.cny_dep.specs.Spelling.{IsRelaxedText, IsReadAs}
use Rattle.cny_version.specs.Version.{WholeVersion, IsVersion}
use Rattle.cny_version.specs.Filled.{AbbreviatedVersion, filled, abbreviated_text, IsAbbreviationOf, IsAbbreviatedText}
use Rattle.manifest_troves.specs.trove-parts.declared.id.TroveId.{TroveId}
use Rattle.manifest_troves.specs.trove-parts.Id.{IsTroveId, id_text_of}
use Rattle.cny_manifest.specs.Body.{is_empty}
use Rattle.cny_manifest.specs.Grammar.{IsVersionField, IsFlavorField, IsRefField}
use Rattle.cny_manifest.specs.Reading.{IsOnly, ReadsOnly}

-- ---- versions

pub version_read : (bytes field : List ℕ) (r : Result WholeVersion TextFault) → field ≡ bytes → IsTrue (is_utf8 bytes) → IfOk r (λ v. IsAbbreviationOf v field) → IfOk r IsVersion
    → ((v : AbbreviatedVersion) → IsVersion (filled v) → field ≡ abbreviated_text v → IfOk r (λ read. read ≡ filled v)) → (r ≡ Err text.Bad → IsAbbreviatedText field → ⊥)
    → ReadsOnly (IsVersionField bytes) r
version_read bytes field (Ok v) same utf8 value ok only bad = (
  record { utf8 = utf8; valid = ok; spelled = subst (IsAbbreviationOf v) same value },
  λ w is.
      let valid : IsVersion (filled is.spelled.0) = subst IsVersion is.spelled.1 is.valid in
      is.spelled.1 ∙ sym (only is.spelled.0 valid (same ∙ is.spelled.2)),
)
version_read bytes field (Err text.Bad) same utf8 value ok only bad =
    λ w is. bad refl (is.spelled.0, subst IsVersion is.spelled.1 is.valid, same ∙ is.spelled.2)
version_read bytes field (Err text.Memory) same utf8 value ok only bad = tt

-- ---- flavors

pub flavor_not_read : (bytes field : List ℕ) (e : TextFault) → field ≡ bytes → ((parts : Parts) → IsRelaxedText field parts → IsReadAs (Err e) parts) → ReadsOnly (IsFlavorField bytes) (Err e)
flavor_not_read bytes field text.Bad same only = λ parts is. only parts (subst (λ (l : List ℕ). IsRelaxedText l parts) (sym same) is.spelled)
flavor_not_read bytes field text.Memory same only = tt

one_flavor : (bytes field : List ℕ) (flavor : Parts) → field ≡ bytes → ((parts : Parts) → IsRelaxedText field parts → flavor ≡ parts) → (parts : Parts) → IsFlavorField bytes parts → parts ≡ flavor
one_flavor bytes field flavor same only parts is = sym (only parts (subst (λ (l : List ℕ). IsRelaxedText l parts) (sym same) is.spelled))

pub flavor_empty : (bytes field : List ℕ) (flavor : Parts) → field ≡ bytes → ((parts : Parts) → IsRelaxedText field parts → flavor ≡ parts) → is_empty (flavor_text flavor) ≡ true
    → (parts : Parts) → IsFlavorField bytes parts → ⊥
flavor_empty bytes field flavor same only empty parts is =
    true≢false (sym empty ∙ ap (λ (p : Parts). is_empty (flavor_text p)) (sym (one_flavor bytes field flavor same only parts is)) ∙ is.some)

pub flavor_read : (bytes field : List ℕ) (flavor : Parts) → field ≡ bytes → IsTrue (is_utf8 bytes) → IsRelaxedText field flavor → ((parts : Parts) → IsRelaxedText field parts → flavor ≡ parts)
    → is_empty (flavor_text flavor) ≡ false → IsOnly (IsFlavorField bytes) flavor
flavor_read bytes field flavor same utf8 found only some =
    (record { utf8 = utf8; spelled = subst (λ (l : List ℕ). IsRelaxedText l flavor) same found; some = some }, one_flavor bytes field flavor same only)

-- ---- ids

pub ref_read : (bytes field : List ℕ) (r : Result TroveId TextFault) → field ≡ bytes → IsTrue (is_utf8 bytes) → IfOk r (λ id. field ≡ id_text_of id) → IfOk r IsTroveId
    → (r ≡ Err text.Bad → (id : TroveId) → IsTroveId id → field ≡ id_text_of id → ⊥) → IfOk r (λ read. (id : TroveId) → IsTroveId id → field ≡ id_text_of id → read ≡ id)
    → ReadsOnly (IsRefField bytes) r
ref_read bytes field (Ok id) same utf8 value ok bad only =
    (record { utf8 = utf8; valid = ok; spelled = sym same ∙ value }, λ other is. sym (only other is.valid (same ∙ is.spelled)))
ref_read bytes field (Err text.Bad) same utf8 value ok bad only = λ other is. bad refl other is.valid (same ∙ is.spelled)
ref_read bytes field (Err text.Memory) same utf8 value ok bad only = tt

-- ---- emptiness

pub empty_none : (l : List ℕ) → (length l == 0) ≡ true → is_empty l ≡ true
empty_none [] e = refl
empty_none (x ∷ l) e = let none : length (x ∷ l) ≡ 0 = eqb-true (length (x ∷ l)) 0 e in absurd (omega arith)

pub empty_some : (l : List ℕ) → (length l == 0) ≡ false → is_empty l ≡ false
empty_some [] e = absurd (true≢false e)
empty_some (x ∷ l) e = refl
