-- What a label read from a text says of the place that the text means.
use Rattle.std.proofs.Common.{◌≡◌, ℕ, true, false, List, [], ◌∷◌, ◌++◌, Err, IsTrue, refl, sym, ap, ◌∙◌, true≢false}
use Rattle.std.specs.List.{flat_map}
use Rattle.repo_index.specs.cny-base.declared.text.TextFault.{TextFault}
use Rattle.repo_index.specs.cny-base.declared.text.TextFault.TheVariants.{Bad, Memory}
use Rattle.cny_version.specs.Label.{LabelParts, label_text, is_label, IsLabelText}
use Rattle.cny_version.specs.Version.{Part, labels_text, part_text}
use Rattle.cny_version.specs.Filled.{AbbreviatedLabel, abbreviated_label_text, AbbreviatedVersion, abbreviated_text}
use Rattle.trove_spec.specs.declared.spec.Place.{Place}
use Rattle.trove_spec.specs.declared.spec.Place.TheVariants.{Any, OnLabel, At}
use Rattle.trove_spec.specs.Spec.{IsLabelOrVersion, IsReadAs, begins_with_slash}

-- ---- the first byte

parts_first : (before : List (Part AbbreviatedLabel)) (first : AbbreviatedLabel) (shadows : List AbbreviatedLabel) (rest : List ℕ)
    → begins_with_slash ((flat_map (part_text abbreviated_label_text) before ++ labels_text abbreviated_label_text first shadows) ++ rest) ≡ true
parts_first [] first shadows rest = refl
parts_first (p ∷ before) first shadows rest = refl

version_first : (a : AbbreviatedVersion) → begins_with_slash (abbreviated_text a) ≡ true
version_first a = parts_first a.branch.before a.branch.first a.branch.shadows _

no_version : (text : List ℕ) (a : AbbreviatedVersion) → begins_with_slash text ≡ false → text ≡ abbreviated_text a → ⊥
no_version text a no_slash same = true≢false (sym (version_first a) ∙ sym (ap begins_with_slash same) ∙ no_slash)

-- ---- readers

pub label_err : (text : List ℕ) (e : TextFault) (meant : Place) → begins_with_slash text ≡ false → (e ≡ Bad → IsLabelText text → ⊥) → IsLabelOrVersion text meant → IsReadAs {T = Place} (Err e) meant
label_err text Memory meant no_slash bad is = tt
label_err text Bad Any no_slash bad is = is
label_err text Bad (OnLabel l) no_slash bad is = bad refl (l, is.0, is.1)
label_err text Bad (At v) no_slash bad is = no_version text is.1.0 no_slash is.1.2

pub label_ok : (text : List ℕ) (l : LabelParts) (meant : Place) → begins_with_slash text ≡ false
    → ((label : LabelParts) → IsTrue (is_label label) → text ≡ label_text label → l ≡ label) → IsLabelOrVersion text meant → OnLabel l ≡ meant
label_ok text l Any no_slash only is = absurd is
label_ok text l (OnLabel m) no_slash only is = ap (λ (n : LabelParts). OnLabel n) (only m is.0 is.1)
label_ok text l (At v) no_slash only is = absurd (no_version text is.1.0 no_slash is.1.2)
