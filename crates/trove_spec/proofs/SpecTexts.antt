-- A text is cut into the parts of the specification that it is.
use Rattle.std.proofs.Common.{◌≡◌, ℕ, List, ◌++◌, Option, Some, None, refl, sym, subst, ◌∙◌, arith}
use Rattle.trove_spec.specs.declared.spec.Place.{Place}
use Rattle.trove_spec.specs.declared.spec.Spec.{Spec}
use Rattle.trove_spec.specs.Spec.{IsPlaceText, behind_equals, ArePartsOf, IsSpecText, IsCutAtEquals, IsCutAtBracket}
use Rattle.trove_spec.proofs.Cutting.{lacks_both, lacks_more, same_brackets, same_equals}
use Rattle.trove_spec.proofs.NameBytes.{name_lacks}
use Rattle.trove_spec.proofs.PlaceBytes.{place_lacks}
use Rattle.repo_index.specs.trove-parts.Parts.{Lacks}

equals_byte : (b : ℕ) → b ≡ 61 → b ≡ 91 → ⊥
equals_byte b is e = absurd (omega arith)

behind_lacks : (text : Option (List ℕ)) (place : Place) → IsPlaceText text place → Lacks 91 (behind_equals text)
behind_lacks None place is = λ i within e. absurd (omega arith)
behind_lacks (Some text) place is = lacks_more 91 61 text (equals_byte 61 refl) (lacks_behind text place is)
  where
    lacks_behind : (t : List ℕ) (p : Place) → IsPlaceText (Some t) p → Lacks 91 t
    lacks_behind t p here = place_lacks t p here

-- what stands before a flavor has no `[`
pub before_lacks : (text : List ℕ) (spec : Spec) (is : IsSpecText text spec) → Lacks 91 (spec.name ++ behind_equals is.place)
before_lacks text spec is = lacks_both 91 spec.name (behind_equals is.place) (name_lacks 91 refl refl spec.name is.parts.valid) (behind_lacks is.place spec.place is.parts.place_is)

-- the parts into which a text is cut are those of the specification that it is the text of
pub meant_parts : (text before name : List ℕ) (place flavor : Option (List ℕ)) (spec : Spec) → IsCutAtBracket text before flavor → IsCutAtEquals before name place
    → IsSpecText text spec → ArePartsOf name place flavor spec
meant_parts text before name place flavor spec bracket equals is =
    let front = before_lacks text spec is in
    let first = same_brackets before (spec.name ++ behind_equals is.place) flavor is.flavor bracket.front front (sym bracket.whole ∙ is.text_is) in
    let second = same_equals name spec.name place is.place equals.front (name_lacks 61 refl refl spec.name is.parts.valid) (sym equals.whole ∙ first.0) in
    subst (λ (n : List ℕ). ArePartsOf n place flavor spec) (sym second.0)
    (subst (λ (p : Option (List ℕ)). ArePartsOf spec.name p flavor spec) (sym second.1)
    (subst (λ (f : Option (List ℕ)). ArePartsOf spec.name is.place f spec) (sym first.1) is.parts))
