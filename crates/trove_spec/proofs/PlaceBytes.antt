-- The bytes of the texts of labels and of versions whose labels may be abbreviated.
use Rattle.std.proofs.Common.{◌≡◌, ℕ, ◌+◌, Bool, true, ◌&&◌, nat_le, List, [], ◌∷◌, length, refl, sym, subst}
use Rattle.std.specs.Cmp.{first_so, second_so}
use Rattle.std.specs.List.{list_all, flat_map}
use Rattle.cny_version.specs.Label.{LabelParts, label_text, is_label_part, is_label}
use Rattle.cny_version.specs.Revision.{revision_text}
use Rattle.cny_version.specs.Version.{Part, labels_text, part_text, branch_text_by, depth, AreLabels, ArePartsAfter, IsVersion}
use Rattle.cny_version.specs.Filled.{AbbreviatedLabel, whole, without_host, only_tag, abbreviated_label_text, filled_label, filled_shadows, filled_parts, filled_part, label_after, no_label, AbbreviatedVersion, filled, abbreviated_text}
use Rattle.trove_spec.specs.Spec.{IsLabelOrVersion}
use Rattle.trove_spec.specs.declared.spec.Place.{Place}
use Rattle.trove_spec.specs.declared.spec.Place.TheVariants.{Any, OnLabel, At}
use Rattle.repo_index.proofs.trove-parts.VersionBytes.{Fit, fit_both, fit_more, is_version_byte, label_fits, label_part_fits, revision_fits}
use Rattle.repo_index.specs.trove-parts.Parts.{Lacks}
use Rattle.repo_index.proofs.cny-dep.Cuts.{lacks_by}

-- ---- labels

-- ---- revisions

-- ---- abbreviated labels

namespace_fits : (l : LabelParts) → is_label l ≡ true → (is_label_part l.namespace ≡ true) × (is_label_part l.tag ≡ true)
namespace_fits l is =
    let short : Bool = nat_le (length (label_text l)) 255 in
    let rest = second_so (is_label_part l.host) (is_label_part l.namespace && (is_label_part l.tag && short)) is in
    (first_so (is_label_part l.namespace) (is_label_part l.tag && short) rest, first_so (is_label_part l.tag) short (second_so (is_label_part l.namespace) (is_label_part l.tag && short) rest))

abbreviated_fits : (previous : LabelParts) (l : AbbreviatedLabel) → is_label (filled_label previous l) ≡ true → Fit (abbreviated_label_text l)
abbreviated_fits previous (whole label) is = label_fits label is
abbreviated_fits previous (without_host namespace tag) is =
    let parts = namespace_fits (filled_label previous (without_host namespace tag)) is in
    fit_both namespace (58 ∷ tag) (label_part_fits namespace parts.0) (fit_more 58 tag refl (label_part_fits tag parts.1))
abbreviated_fits previous (only_tag tag) is = label_part_fits tag (namespace_fits (filled_label previous (only_tag tag)) is).1

more_labels_fit : (previous : LabelParts) (shadows : List AbbreviatedLabel) → list_all is_label (filled_shadows filled_label previous shadows) ≡ true
    → Fit (flat_map (λ label. 47 ∷ 47 ∷ abbreviated_label_text label) shadows)
more_labels_fit previous [] all = refl
more_labels_fit previous (l ∷ shadows) all =
    let here = filled_label previous l in
    fit_both (47 ∷ 47 ∷ abbreviated_label_text l) (flat_map (λ label. 47 ∷ 47 ∷ abbreviated_label_text label) shadows)
    (fit_more 47 (47 ∷ abbreviated_label_text l) refl
    (fit_more 47 (abbreviated_label_text l) refl (abbreviated_fits previous l (first_so (is_label here) (list_all is_label (filled_shadows filled_label here shadows)) all))))
    (more_labels_fit here shadows (second_so (is_label here) (list_all is_label (filled_shadows filled_label here shadows)) all))

labels_fit : (previous : LabelParts) (first : AbbreviatedLabel) (shadows : List AbbreviatedLabel)
    → AreLabels (filled_label previous first) (filled_shadows filled_label (filled_label previous first) shadows) → Fit (labels_text abbreviated_label_text first shadows)
labels_fit previous first shadows are =
    fit_both (47 ∷ abbreviated_label_text first) (flat_map (λ label. 47 ∷ 47 ∷ abbreviated_label_text label) shadows)
    (fit_more 47 (abbreviated_label_text first) refl (abbreviated_fits previous first are.0)) (more_labels_fit (filled_label previous first) shadows are.1)

-- ---- versions

parts_fit : (shadows : ℕ) (previous : LabelParts) (parts : List (Part AbbreviatedLabel)) → ArePartsAfter shadows (filled_parts filled_label previous parts)
    → Fit (flat_map (part_text abbreviated_label_text) parts)
parts_fit shadows previous [] are = refl
parts_fit shadows previous (p ∷ parts) are =
    let here = filled_part filled_label previous p in
    fit_both (part_text abbreviated_label_text p) (flat_map (part_text abbreviated_label_text) parts)
    (fit_both (labels_text abbreviated_label_text p.first p.shadows) (47 ∷ revision_text p.revision) (labels_fit previous p.first p.shadows are.0)
    (fit_more 47 (revision_text p.revision) refl (revision_fits (shadows + length here.shadows) p.revision are.1)))
    (parts_fit (shadows + length here.shadows) (label_after previous (here ∷ [])) parts are.2)

version_fits : (a : AbbreviatedVersion) → IsVersion (filled a) → Fit (abbreviated_text a)
version_fits a is =
    let before = filled_parts filled_label no_label a.branch.before in
    let b = a.branch in
    fit_both (branch_text_by abbreviated_label_text b) (47 ∷ revision_text a.revision)
    (fit_both (flat_map (part_text abbreviated_label_text) b.before) (labels_text abbreviated_label_text b.first b.shadows) (parts_fit 0 no_label b.before is.branch.0)
    (labels_fit (label_after no_label before) b.first b.shadows is.branch.1))
    (fit_more 47 (revision_text a.revision) refl (revision_fits (depth (filled a).branch) a.revision is.revision))

-- ---- what follows

-- a label's text has no `[`, nor has that of a version
pub place_lacks : (text : List ℕ) (place : Place) → IsLabelOrVersion text place → Lacks 91 text
place_lacks text Any is = absurd is
place_lacks text (OnLabel label) is = subst (Lacks 91) (sym is.1) (lacks_by is_version_byte 91 refl (label_text label) (label_fits label is.0))
place_lacks text (At version) is =
    let abbreviation = is.1 in
    let a = abbreviation.0 in
    subst (Lacks 91) (sym abbreviation.2) (lacks_by is_version_byte 91 refl (abbreviated_text a) (version_fits a (subst IsVersion abbreviation.1 is.0)))
