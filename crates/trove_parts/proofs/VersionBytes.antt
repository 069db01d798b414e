-- The bytes of the texts of versions and names.
use Rattle.std.proofs.Common.{◌≡◌, ℕ, ◌+◌, ◌<◌, ◌^◌, Bool, true, ◌&&◌, ◌||◌, ◌==◌, nat_le, List, [], ◌∷◌, ◌++◌, length, Option, Some, None, refl, ◌∙◌, arith}
use Rattle.std.specs.Char.{is_ascii_alphanumeric}
use Rattle.std.specs.Cmp.{first_so, second_so}
use Rattle.std.specs.Fmt.{decimal}
use Rattle.std.specs.List.{list_all, flat_map}
use Rattle.std.specs.Str.{IsAscii, IsUtf8}
use Rattle.std.proofs.lemmas.Bool.{and_from, ltb-true}
use Rattle.std.proofs.lemmas.Bool.Decides.{nat_tests}
use Rattle.std.proofs.lemmas.Fmt.{digits_decimal}
use Rattle.std.proofs.lemmas.List.Folds.{list_all-append}
use Rattle.std.proofs.lemmas.Str.{IsUtf8-from_ascii}
use Rattle.std.proofs.lemmas.Str.Ascii.{IsAscii-nil, IsAscii-cons}
use Rattle.cny_version.specs.cny-base.Number.{is_digit}
use Rattle.cny_version.specs.declared.revision.Revision.{Revision}
use Rattle.cny_version.specs.Label.{LabelParts, label_text, is_label_byte, is_label_part, is_label}
use Rattle.cny_version.specs.Revision.{count_text, build_text, revision_text, is_upstream_byte, is_upstream, fits_32_bits, ends_above_zero, is_count, is_build, is_revision}
use Rattle.cny_version.specs.Version.{Part, WholeBranch, WholeVersion, labels_text, part_text, branch_text, version_text, depth, AreLabels, ArePartsAfter, IsBranch, IsVersion}
use Rattle.trove_parts.specs.Parts.{Lacks}
use Rattle.cny_dep.proofs.Cuts.{lacks_by}
use Rattle.cny_version.proofs.cny-base.Numbers.{own as numerals}

-- an ASCII letter or digit, or one of `. _ - + ~ @ : /`
abbrev pub is_version_byte : ℕ → Bool
is_version_byte b = is_ascii_alphanumeric b || (b == 46 || (b == 95 || (b == 45 || (b == 43 || (b == 126 || (b == 64 || (b == 58 || b == 47)))))))

abbrev pub Fit : List ℕ → Type 0
Fit bytes = list_all is_version_byte bytes ≡ true

pub fit_both : (xs ys : List ℕ) → Fit xs → Fit ys → Fit (xs ++ ys)
fit_both xs ys first second = list_all-append is_version_byte xs ys ∙ and_from (list_all is_version_byte xs) (list_all is_version_byte ys) first second

pub fit_more : (b : ℕ) (xs : List ℕ) → is_version_byte b ≡ true → Fit xs → Fit (b ∷ xs)
fit_more b xs first rest = and_from (is_version_byte b) (list_all is_version_byte xs) first rest

pub fit_by : (p : ℕ → Bool) → ((b : ℕ) → p b ≡ true → is_version_byte b ≡ true) → (xs : List ℕ) → list_all p xs ≡ true → Fit xs
fit_by p within [] all = refl
fit_by p within (x ∷ xs) all = fit_more x xs (within x (first_so (p x) (list_all p xs) all)) (fit_by p within xs (second_so (p x) (list_all p xs) all))

pub letter_fits : (b : ℕ) → is_ascii_alphanumeric b ≡ true → is_version_byte b ≡ true
letter_fits b is = grind (arith, nat_tests)

pub label_byte_fits : (b : ℕ) → is_label_byte b ≡ true → is_version_byte b ≡ true
label_byte_fits b is = grind (arith, nat_tests)

pub upstream_byte_fits : (b : ℕ) → is_upstream_byte b ≡ true → is_version_byte b ≡ true
upstream_byte_fits b is = grind (arith, nat_tests)

pub digit_fits : (b : ℕ) → is_digit b ≡ true → is_version_byte b ≡ true
digit_fits b is = grind (arith, nat_tests)

-- ---- labels

pub label_part_fits : (part : List ℕ) → is_label_part part ≡ true → Fit part
label_part_fits [] is = refl
label_part_fits (b ∷ bs) is =
    fit_more b bs (letter_fits b (first_so (is_ascii_alphanumeric b) (list_all is_label_byte bs) is))
    (fit_by is_label_byte label_byte_fits bs (second_so (is_ascii_alphanumeric b) (list_all is_label_byte bs) is))

pub label_fits : (l : LabelParts) → is_label l ≡ true → Fit (label_text l)
label_fits l is =
    let short : Bool = nat_le (length (label_text l)) 255 in
    let rest = second_so (is_label_part l.host) (is_label_part l.namespace && (is_label_part l.tag && short)) is in
    let last = second_so (is_label_part l.namespace) (is_label_part l.tag && short) rest in
    fit_both l.host (64 ∷ (l.namespace ++ 58 ∷ l.tag)) (label_part_fits l.host (first_so (is_label_part l.host) (is_label_part l.namespace && (is_label_part l.tag && short)) is))
    (fit_more 64 (l.namespace ++ 58 ∷ l.tag) refl
    (fit_both l.namespace (58 ∷ l.tag) (label_part_fits l.namespace (first_so (is_label_part l.namespace) (is_label_part l.tag && short) rest))
    (fit_more 58 l.tag refl (label_part_fits l.tag (first_so (is_label_part l.tag) short last)))))

more_labels_fit : (shadows : List LabelParts) → list_all is_label shadows ≡ true → Fit (flat_map (λ label. 47 ∷ 47 ∷ label_text label) shadows)
more_labels_fit [] all = refl
more_labels_fit (l ∷ shadows) all =
    fit_both (47 ∷ 47 ∷ label_text l) (flat_map (λ label. 47 ∷ 47 ∷ label_text label) shadows)
    (fit_more 47 (47 ∷ label_text l) refl (fit_more 47 (label_text l) refl (label_fits l (first_so (is_label l) (list_all is_label shadows) all))))
    (more_labels_fit shadows (second_so (is_label l) (list_all is_label shadows) all))

labels_fit : (first : LabelParts) (shadows : List LabelParts) → AreLabels first shadows → Fit (labels_text label_text first shadows)
labels_fit first shadows are =
    fit_both (47 ∷ label_text first) (flat_map (λ label. 47 ∷ 47 ∷ label_text label) shadows) (fit_more 47 (label_text first) refl (label_fits first are.0)) (more_labels_fit shadows are.1)

-- ---- revisions

pub number_fits : (n : ℕ) → fits_32_bits n ≡ true → Fit (decimal n)
number_fits n small =
    let below : n < 2 ^ 32 = ltb-true n (2 ^ 32) small in
    fit_by is_digit digit_fits (decimal n) (digits_decimal numerals n (omega arith))

pub numbers_fit : (numbers : List ℕ) → list_all fits_32_bits numbers ≡ true → Fit (count_text numbers)
numbers_fit [] all = refl
numbers_fit (n ∷ []) all = number_fits n (first_so (fits_32_bits n) true all)
numbers_fit (n ∷ m ∷ numbers) all =
    fit_both (decimal n) (46 ∷ count_text (m ∷ numbers)) (number_fits n (first_so (fits_32_bits n) (list_all fits_32_bits (m ∷ numbers)) all))
    (fit_more 46 (count_text (m ∷ numbers)) refl (numbers_fit (m ∷ numbers) (second_so (fits_32_bits n) (list_all fits_32_bits (m ∷ numbers)) all)))

pub count_fits : (depth : ℕ) (numbers : List ℕ) → is_count depth numbers ≡ true → Fit (count_text numbers)
count_fits depth numbers is =
    numbers_fit numbers
    (first_so (list_all fits_32_bits numbers) (ends_above_zero numbers) (second_so (nat_le (length numbers) (depth + 1)) (list_all fits_32_bits numbers && ends_above_zero numbers) is))

pub build_fits : (depth : ℕ) (build : Option (List ℕ)) → is_build depth build ≡ true → Fit (build_text build)
build_fits depth None is = refl
build_fits depth (Some numbers) is = fit_more 45 (count_text numbers) refl (count_fits depth numbers is)

pub upstream_fits : (upstream : List ℕ) → is_upstream upstream ≡ true → Fit upstream
upstream_fits [] is = refl
upstream_fits (b ∷ bs) is =
    fit_more b bs (letter_fits b (first_so (is_ascii_alphanumeric b) (list_all is_upstream_byte bs) is))
    (fit_by is_upstream_byte upstream_byte_fits bs (second_so (is_ascii_alphanumeric b) (list_all is_upstream_byte bs) is))

pub revision_fits : (depth : ℕ) (r : Revision) → is_revision depth r ≡ true → Fit (revision_text r)
revision_fits depth r is =
    let counts = second_so (is_upstream r.upstream) (is_count depth r.source && is_build depth r.build) is in
    fit_both r.upstream (45 ∷ (count_text r.source ++ build_text r.build)) (upstream_fits r.upstream (first_so (is_upstream r.upstream) (is_count depth r.source && is_build depth r.build) is))
    (fit_more 45 (count_text r.source ++ build_text r.build) refl
    (fit_both (count_text r.source) (build_text r.build) (count_fits depth r.source (first_so (is_count depth r.source) (is_build depth r.build) counts))
    (build_fits depth r.build (second_so (is_count depth r.source) (is_build depth r.build) counts))))

-- ---- versions

parts_fit : (shadows : ℕ) (parts : List (Part LabelParts)) → ArePartsAfter shadows parts → Fit (flat_map (part_text label_text) parts)
parts_fit shadows [] are = refl
parts_fit shadows (p ∷ parts) are =
    fit_both (part_text label_text p) (flat_map (part_text label_text) parts)
    (fit_both (labels_text label_text p.first p.shadows) (47 ∷ revision_text p.revision) (labels_fit p.first p.shadows are.0)
    (fit_more 47 (revision_text p.revision) refl (revision_fits (shadows + length p.shadows) p.revision are.1)))
    (parts_fit (shadows + length p.shadows) parts are.2)

branch_fits : (b : WholeBranch) → IsBranch b → Fit (branch_text b)
branch_fits b is = fit_both (flat_map (part_text label_text) b.before) (labels_text label_text b.first b.shadows) (parts_fit 0 b.before is.0) (labels_fit b.first b.shadows is.1)

version_fits : (v : WholeVersion) → IsVersion v → Fit (version_text v)
version_fits v is =
    fit_both (branch_text v.branch) (47 ∷ revision_text v.revision) (branch_fits v.branch is.branch)
    (fit_more 47 (revision_text v.revision) refl (revision_fits (depth v.branch) v.revision is.revision))

-- ---- what follows

ascii_byte : (b : ℕ) → is_version_byte b ≡ true → b < 128
ascii_byte b is = grind (arith, nat_tests)

fit_ascii : (bytes : List ℕ) → Fit bytes → IsAscii bytes
fit_ascii [] all = IsAscii-nil
fit_ascii (b ∷ bytes) all =
    IsAscii-cons b bytes (ascii_byte b (first_so (is_version_byte b) (list_all is_version_byte bytes) all)) (fit_ascii bytes (second_so (is_version_byte b) (list_all is_version_byte bytes) all))

-- a version's text has no `[`
pub version_lacks : (v : WholeVersion) → IsVersion v → Lacks 91 (version_text v)
version_lacks v is = lacks_by is_version_byte 91 refl (version_text v) (version_fits v is)

pub version_utf8 : (v : WholeVersion) → IsVersion v → IsUtf8 (version_text v)
version_utf8 v is = IsUtf8-from_ascii (version_text v) (fit_ascii (version_text v) (version_fits v is))
