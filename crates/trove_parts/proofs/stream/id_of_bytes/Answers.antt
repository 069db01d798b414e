use Rattle.std.proofs.Common.{◌≡◌, ℕ, List, IfOk, IsErrOf, IsTrue, subst, sym}
use Rattle.std.specs.Str.{IsUtf8}
use Rattle.cny_version.specs.cny-base.Name.{is_name}
use Rattle.cny_version.specs.cny-base.declared.text.TextFault.TheVariants.{Bad}
use Rattle.cny_version.specs.Version.{IsVersionText}
use Rattle.trove_parts.specs.declared.id.TroveId.{TroveId}
use Rattle.trove_parts.specs.Parts.{AreTextsOf}
use Rattle.trove_parts.proofs.IdFields.{fields_utf8}
use Rattle.trove_parts.proofs.stream.id_of_bytes.Goals as goal

-- what is said of three texts, said of the bytes that they are
of_bytes : (P : List ℕ → List ℕ → List ℕ → Type 0) (a a' b b' c c' : List ℕ) → a ≡ a' → b ≡ b' → c ≡ c' → P a b c → P a' b' c'
of_bytes P a a' b b' c c' first second third p = subst (λ x. P x b' c') first (subst (λ y. P a y c') second (subst (λ z. P a b z) third p))

pub returns-in_default-clause-bad : goal.returns-in_default-clause-bad
returns-in_default-clause-bad c _ id texts = c.in_default.ensures.cases.0 (subst IsUtf8 (sym texts.name_is) (fields_utf8 id texts.valid).name)

pub returns-in_default-from_utf8-clause-bad : goal.returns-in_default-from_utf8-clause-bad
returns-in_default-from_utf8-clause-bad c _ id texts = c.in_default-from_utf8.ensures.cases.0 (subst IsUtf8 (sym texts.version_is) (fields_utf8 id texts.valid).version)

pub returns-in_default-from_utf8-2-clause-bad : goal.returns-in_default-from_utf8-2-clause-bad
returns-in_default-from_utf8-2-clause-bad c _ id texts = c.in_default-from_utf8-2.ensures.cases.0 (subst IsUtf8 (sym texts.flavor_is) (fields_utf8 id texts.valid).flavor)

pub returns-clause-value : goal.returns-clause-value
returns-clause-value c =
    of_bytes (λ name version flavor. IfOk c.id_of_texts.result (λ id. AreTextsOf id name version flavor)) _ _ _ _ _ _
    c.in-Ok.ensures.cases.0 c.in-Ok-from_utf8.ensures.cases.0 c.in-Ok-from_utf8-2.ensures.cases.0 c.id_of_texts.ensures.value

pub returns-clause-bad : goal.returns-clause-bad
returns-clause-bad c =
    of_bytes (λ name version flavor. IsErrOf c.id_of_texts.result Bad → (id : TroveId) → AreTextsOf id name version flavor → ⊥) _ _ _ _ _ _
    c.in-Ok.ensures.cases.0 c.in-Ok-from_utf8.ensures.cases.0 c.in-Ok-from_utf8-2.ensures.cases.0 c.id_of_texts.ensures.bad

pub returns-clause-early : goal.returns-clause-early
returns-clause-early c =
    of_bytes (λ name version flavor. (IsTrue (is_name name) → IsVersionText version → ⊥) → IsErrOf c.id_of_texts.result Bad) _ _ _ _ _ _
    c.in-Ok.ensures.cases.0 c.in-Ok-from_utf8.ensures.cases.0 c.in-Ok-from_utf8-2.ensures.cases.0 c.id_of_texts.ensures.early

pub returns-clause-only : goal.returns-clause-only
returns-clause-only c =
    of_bytes (λ name version flavor. IfOk c.id_of_texts.result (λ read. (id : TroveId) → AreTextsOf id name version flavor → read ≡ id)) _ _ _ _ _ _
    c.in-Ok.ensures.cases.0 c.in-Ok-from_utf8.ensures.cases.0 c.in-Ok-from_utf8-2.ensures.cases.0 c.id_of_texts.ensures.only
