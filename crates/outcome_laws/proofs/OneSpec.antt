-- A text is that of one specification at most.
use Rattle.std.proofs.Common.{◌≡◌, ℕ, Bool, true, false, ◌&&◌, List, [], ◌∷◌, ◌++◌, Option, Some, None, refl, sym, ap, ◌∙◌, subst}
use Rattle.std.specs.Prelude.{not, ◌==◌}
use Rattle.std.proofs.lemmas.Option.{same_Some}
use Rattle.cny_dep.specs.declared.parts.Parts.{Parts}
use Rattle.cny_dep.proofs.Plain.{relaxed_read}
use Rattle.cny_version.specs.Label.{label_text, LabelParts}
use Rattle.cny_version.specs.Version.{IsVersion}
use Rattle.cny_version.proofs.LabelTexts.{label_text_no_slash}
use Rattle.cny_version.proofs.TextPieces.{is_free}
use Rattle.cny_version.proofs.VersionReaders.{abbreviation_back}
use Rattle.trove_spec.specs.declared.spec.Place.{Place}
use Rattle.trove_spec.specs.declared.spec.Place.TheVariants.{Any, OnLabel, At}
use Rattle.trove_spec.specs.declared.spec.Spec.{Spec}
use Rattle.trove_spec.specs.Spec.{begins_with_slash, behind_equals, ArePartsOf, IsFlavorText, IsLabelOrVersion, IsPlaceText, IsSpecText}
use Rattle.trove_spec.proofs.NameBytes.{name_lacks}
use Rattle.trove_spec.proofs.OneConfig.{OneLabel}
use Rattle.trove_spec.proofs.PlaceReading.{label_ok}
use Rattle.trove_spec.proofs.SpecTexts.{before_lacks, meant_parts}

-- ---- places

-- no label begins as a version
free_first : (text : List ℕ) → is_free 47 text ≡ true → begins_with_slash text ≡ false
free_first [] free = refl
free_first (b ∷ text) free = by (b == 47) (is_free 47 text) free
  where
    by : (slash rest : Bool) → (not slash && rest) ≡ true → slash ≡ false
    by true rest h = absurd (cc h)
    by false rest h = refl

module _ (one_label : OneLabel) where
  label_first : (text : List ℕ) (l : LabelParts) (q : Place) → IsLabelOrVersion text (OnLabel l) → IsLabelOrVersion text q → OnLabel l ≡ q
  label_first text l q h g = label_ok text l q (subst (λ (t : List ℕ). begins_with_slash t ≡ false) (sym h.1) (free_first (label_text l) (label_text_no_slash l h.0)))
      (λ label valid is. one_label l label h.0 valid (sym h.1 ∙ is)) g

  place_once : (text : List ℕ) (p q : Place) → IsLabelOrVersion text p → IsLabelOrVersion text q → p ≡ q
  place_once text Any q h g = absurd h
  place_once text (OnLabel l) q h g = label_first text l q h g
  place_once text (At v) Any h g = absurd g
  place_once text (At v) (OnLabel m) h g = sym (label_first text m (At v) g h)
  place_once text (At v) (At w) h g =
      let first = abbreviation_back text h.1.0 (subst IsVersion h.1.1 h.0) h.1.2 in
      let second = abbreviation_back text g.1.0 (subst IsVersion g.1.1 g.0) g.1.2 in
      ap At (h.1.1 ∙ same_Some _ _ (sym first ∙ second) ∙ sym g.1.1)

  place_text_once : (text : Option (List ℕ)) (p q : Place) → IsPlaceText text p → IsPlaceText text q → p ≡ q
  place_text_once None Any Any h g = refl
  place_text_once None Any (OnLabel m) h g = absurd g
  place_text_once None Any (At w) h g = absurd g
  place_text_once None (OnLabel l) q h g = absurd h
  place_text_once None (At v) q h g = absurd h
  place_text_once (Some text) p q h g = place_once text p q h g

  -- ---- flavors

  flavor_once : (text : Option (List ℕ)) (p q : Option Parts) → IsFlavorText text p → IsFlavorText text q → p ≡ q
  flavor_once None None None h g = refl
  flavor_once None None (Some b) h g = absurd g
  flavor_once None (Some a) q h g = absurd h
  flavor_once (Some text) None q h g = absurd h
  flavor_once (Some text) (Some a) None h g = absurd g
  flavor_once (Some text) (Some a) (Some b) h g = sym (relaxed_read text a h) ∙ relaxed_read text b g

  -- ---- specifications

  parts_once : (name : List ℕ) (place flavor : Option (List ℕ)) (a b : Spec) → ArePartsOf name place flavor a → ArePartsOf name place flavor b → a ≡ b
  parts_once name place flavor a b h g =
      let names : a.name ≡ b.name = h.name_is ∙ sym g.name_is in
      let places = place_text_once place a.place b.place h.place_is g.place_is in
      let flavors = flavor_once flavor a.flavor b.flavor h.flavor_is g.flavor_is in
      λ i. record { name = names i; place = places i; flavor = flavors i }

  pub spec_once : (text : List ℕ) (a b : Spec) → IsSpecText text a → IsSpecText text b → a ≡ b
  spec_once text a b h g = parts_once a.name h.place h.flavor a b h.parts
      (meant_parts text (a.name ++ behind_equals h.place) a.name h.place h.flavor b
      (record { front = before_lacks text a h; whole = h.text_is })
      (record { front = name_lacks 61 refl refl a.name h.parts.valid; whole = refl })
      g)
