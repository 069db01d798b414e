-- The two readings of versions, and each version's text.
use Rattle.std.proofs.Common.{◌≡◌, ℕ, ◌+◌, ◌≤◌, Bool, true, false, ◌&&◌, List, [], ◌∷◌, length, Option, Some, None, refl, sym, ap, ◌∙◌, subst, arith}
use Rattle.std.proofs.lemmas.Bool.{and_from}
use Rattle.cny_version.specs.declared.revision.Revision.{Revision}
use Rattle.cny_version.specs.Label.{LabelParts, label_text, is_label}
use Rattle.cny_version.specs.Revision.{is_upstream, is_count, is_build, is_revision}
use Rattle.cny_version.specs.Version.{Part, WholeBranch, WholeVersion, version_text, last_of, depth, IsVersion}
use Rattle.cny_version.specs.Filled.{no_label, filled_label, abbreviated_label_text, filled_shadows, filled_parts, filled_by, filled, abbreviated_text, AbbreviatedVersion, IsAbbreviationOf}
use Rattle.cny_version.specs.Made.{shadowed, branched}
use Rattle.cny_version.specs.Reading.{label_found, version_found}
use Rattle.cny_version.proofs.LabelTexts.{label_text_no_slash, abbreviated_no_slash, whole_back, label_back, label_sound}
use Rattle.cny_version.proofs.CountTexts.{count_parts, count_is}
use Rattle.cny_version.proofs.RevisionTexts.{revision_parts}
use Rattle.cny_version.proofs.LongerBranches.{depth_shadowed, depth_branched}
use Rattle.cny_version.proofs.VersionTexts.{FindsWritten, version_writes}
use Rattle.cny_version.proofs.VersionsReadBack.{ReadsBack, version_back}

-- ---- abbreviated texts

abbreviated_sound : FindsWritten filled_label abbreviated_label_text false
abbreviated_sound previous piece label found = (label_sound false previous piece label found).short_form

abbreviated_back : ReadsBack filled_label abbreviated_label_text false
abbreviated_back = record { back = label_back; no_slash = abbreviated_no_slash }

pub abbreviation_found : (text : List ℕ) (v : WholeVersion) → version_found false text ≡ Some v → IsAbbreviationOf v text
abbreviation_found text v found =
    let w = version_writes filled_label abbreviated_label_text false abbreviated_sound text v found in
    (w.from, sym w.filled_is, sym w.text_is)

pub abbreviation_back : (text : List ℕ) (a : AbbreviatedVersion) → IsVersion (filled a) → text ≡ abbreviated_text a → version_found false text ≡ Some (filled a)
abbreviation_back text a is same = ap (version_found false) same ∙ version_back filled_label abbreviated_label_text false abbreviated_back a is

-- ---- whole texts

as_it_is : LabelParts → LabelParts → LabelParts
as_it_is previous label = label

whole_sound : FindsWritten as_it_is label_text true
unfolding as_it_is
whole_sound previous piece label found = (label, refl, (label_sound true previous piece label found).whole_form refl)

-- both readers take a whole label as it is
labels_back : (whole : Bool) → ReadsBack as_it_is label_text whole
unfolding as_it_is
labels_back whole = record { back = whole_back whole; no_slash = λ previous label is. label_text_no_slash label is }

shadows_as_they_are : (previous : LabelParts) (labels : List LabelParts) → filled_shadows as_it_is previous labels ≡ labels
unfolding as_it_is
shadows_as_they_are previous [] = refl
shadows_as_they_are previous (label ∷ labels) = ap (λ l. label ∷ l) (shadows_as_they_are label labels)

parts_as_they_are : (previous : LabelParts) (parts : List (Part LabelParts)) → filled_parts as_it_is previous parts ≡ parts
unfolding as_it_is
parts_as_they_are previous [] = refl
parts_as_they_are previous (p ∷ parts) =
    ap (λ (shadows : List LabelParts). part shadows ∷ filled_parts as_it_is (last_of p.first shadows) parts) (shadows_as_they_are p.first p.shadows)
    ∙ ap (λ l. p ∷ l) (parts_as_they_are (last_of p.first p.shadows) parts)
  where
    part : List LabelParts → Part LabelParts
    part shadows = record { first = p.first; shadows = shadows; revision = p.revision }

whole_as_it_is : (v : WholeVersion) → filled_by as_it_is v ≡ v
unfolding as_it_is
whole_as_it_is v =
    ap (λ (before : List (Part LabelParts)). version before (filled_shadows as_it_is v.branch.first v.branch.shadows)) (parts_as_they_are no_label v.branch.before)
    ∙ ap (λ (shadows : List LabelParts). version v.branch.before shadows) (shadows_as_they_are v.branch.first v.branch.shadows)
  where
    version : List (Part LabelParts) → List LabelParts → WholeVersion
    version before shadows = record { branch = record { before = before; first = v.branch.first; shadows = shadows }; revision = v.revision }

pub whole_found : (text : List ℕ) (v : WholeVersion) → version_found true text ≡ Some v → text ≡ version_text v
whole_found text v found =
    let w = version_writes as_it_is label_text true whole_sound text v found in
    sym w.text_is ∙ ap version_text (sym (whole_as_it_is w.from) ∙ w.filled_is)

-- both readers take a version's own text as that version
pub own_text_back : (whole : Bool) (text : List ℕ) (v : WholeVersion) → IsVersion v → text ≡ version_text v → version_found whole text ≡ Some v
own_text_back whole text v is same =
    ap (version_found whole) same
    ∙ version_back as_it_is label_text whole (labels_back whole) v (subst IsVersion (sym (whole_as_it_is v)) is)
    ∙ ap (λ w. Some w) (whole_as_it_is v)

-- no two versions have one text, and no two labels
pub one_version : (v w : WholeVersion) → IsVersion v → IsVersion w → version_text v ≡ version_text w → v ≡ w
one_version v w is also same =
    let found : Some v ≡ Some w = sym (own_text_back true (version_text v) v is refl) ∙ own_text_back true (version_text v) w also same in
    cc found

pub one_label : (l m : LabelParts) → is_label l ≡ true → is_label m ≡ true → label_text l ≡ label_text m → l ≡ m
one_label l m is also same =
    let found : Some l ≡ Some m = sym (whole_back true no_label l is) ∙ ap (label_found true no_label) same ∙ whole_back true no_label m also in
    cc found

-- ---- a revision at other depths

count_deeper : (n m : ℕ) (numbers : List ℕ) → n ≤ m → is_count n numbers ≡ true → is_count m numbers ≡ true
count_deeper n m numbers deeper is =
    let k = count_parts n numbers is in
    let short : length numbers ≤ n + 1 = k.short in
    count_is m _ numbers (record { texts_are = k.texts_are; short = omega arith; fit = k.fit; ends = k.ends })

build_deeper : (n m : ℕ) (build : Option (List ℕ)) → n ≤ m → is_build n build ≡ true → is_build m build ≡ true
build_deeper n m None deeper is = refl
build_deeper n m (Some numbers) deeper is = count_deeper n m numbers deeper is

pub revision_deeper : (n m : ℕ) (r : Revision) → n ≤ m → is_revision n r ≡ true → is_revision m r ≡ true
revision_deeper n m r deeper is =
    let p = revision_parts n r is in
    and_from (is_upstream r.upstream) (is_count m r.source && is_build m r.build) p.upstream_is
    (and_from (is_count m r.source) (is_build m r.build) (count_deeper n m r.source deeper p.source_is) (build_deeper n m r.build deeper p.build_is))

pub fits_shadow : (b : WholeBranch) (label : LabelParts) (r : Revision) → is_revision (depth b) r ≡ true → is_revision (depth (shadowed b label)) r ≡ true
fits_shadow b label r is = revision_deeper (depth b) (depth (shadowed b label)) r (omega (arith, depth_shadowed b label)) is

pub fits_branch : (b : WholeBranch) (s : Revision) (label : LabelParts) (r : Revision) → is_revision (depth b) r ≡ true → is_revision (depth (branched b s label)) r ≡ true
fits_branch b s label r is = revision_deeper (depth b) (depth (branched b s label)) r (omega (arith, depth_branched b s label)) is
