-- The sizes of the contents that files record, as they are gathered.
use Rattle.std.proofs.Common.{◌≡◌, ◌⊎◌, ⊎_elim, inl, inr, ℕ, ◌+◌, ◌<◌, Bool, true, false, cond, ◌&&◌, ◌||◌, List, [], ◌∷◌, ◌++◌, length, get_or, take, drop, Contains, Some, refl, sym, ap, ◌∙◌, subst, append_assoc, append-nil}
use Rattle.std.specs.Prelude.{◌↔◌, ◌≢◌, ◌==◌}
use Rattle.std.specs.BTreeMap.{get, is_at, BTreeMap, IsOrdered, Updates}
use Rattle.std.specs.Cmp.Lexicographic.{nat_list_cmp_total, slice_cmp}
use Rattle.std.specs.List.Sorted.{IsStrictlySortedBy}
use Rattle.std.specs.Map.{keys_of, lookup}
use Rattle.std.specs.Ordering.{nat_cmp}
use Rattle.std.specs.Str.{bytes_eq}
use Rattle.std.proofs.lemmas.Grind.{flat_map-append}
use Rattle.std.proofs.lemmas.List.{take-append-drop}
use Rattle.std.proofs.lemmas.List.Folds.{list_any-append}
use Rattle.std.proofs.lemmas.Map.Lookups.{exact_bytes}
use Rattle.std.proofs.lemmas.Map.Text.{is_eq-slice_cmp}
use Rattle.std.proofs.lemmas.Map.Views.{btree_map_get_iff}
use Rattle.std.proofs.lemmas.Slice.Eq.{bytes_eq-Decides}
use Rattle.repo_load.specs.trove-parts.declared.files.FileAt.{FileAt}
use Rattle.repo_load.specs.trove-stream.declared.parts.TroveParts.{TroveParts}
use Rattle.repo_load.specs.trove-stream.FilesOf.{files_of}
use Rattle.repo_load.proofs.cny-base.Below.{equal_test, test_equal}
use Rattle.repo_load.proofs.cny-base.Bools.{or_false, or_left, or_right}
use Rattle.repo_index.specs.Catalogue.{is_file_sized}
use Rattle.repo_mirror.proofs.Lengthening.{take_next}
use Rattle.repo_serve.specs.Wanted.{records_size, AreSizesOf, AreWanted, HasTwoSizes}

either : (a b : Bool) → (a || b) ≡ true → (a ≡ true) ⊎ (b ≡ true)
either true b is = inl refl
either false b is = inr is

both_true : (a b : Bool) → (a && b) ≡ true → (a ≡ true) × (b ≡ true)
both_true true b is = (refl, is)
both_true false b is = absurd (cc is)

-- one file more
records_more : (files : List FileAt) (file : FileAt) (name : List ℕ) (size : ℕ) → records_size (files ++ file ∷ []) name size ≡ (records_size files name size || is_file_sized name size file)
records_more files file name size =
    list_any-append (is_file_sized name size) files (file ∷ []) ∙ ap (λ (b : Bool). records_size files name size || b) (or_false (is_file_sized name size file))

before_more : (files : List FileAt) (file : FileAt) (name : List ℕ) (size : ℕ) → records_size files name size ≡ true → records_size (files ++ file ∷ []) name size ≡ true
before_more files file name size is = records_more files file name size ∙ or_left (records_size files name size) (is_file_sized name size file) is

here_more : (files : List FileAt) (file : FileAt) (name : List ℕ) (size : ℕ) → is_file_sized name size file ≡ true → records_size (files ++ file ∷ []) name size ≡ true
here_more files file name size is = records_more files file name size ∙ or_right (records_size files name size) (is_file_sized name size file) is

-- no file
pub none_sized : (sizes : BTreeMap (List ℕ) ℕ) → sizes.entries ≡ [] → AreSizesOf [] sizes
none_sized sizes none = λ name size. (
  (λ is. absurd (cc (sym (ap (λ (es : List (List ℕ × ℕ)). lookup (is_at (slice_cmp nat_cmp name)) es) none) ∙ is))),
  (λ is. absurd (cc is)),
)

-- a file without contents
pub sized_same : (files : List FileAt) (sizes : BTreeMap (List ℕ) ℕ) (file : FileAt) → AreSizesOf files sizes → ((name : List ℕ) (size : ℕ) → is_file_sized name size file ≡ false) → AreSizesOf (files ++ file ∷ []) sizes
sized_same files sizes file are none = λ name size.
    let same : records_size (files ++ file ∷ []) name size ≡ records_size files name size =
    records_more files file name size ∙ ap (λ (b : Bool). records_size files name size || b) (none name size) ∙ or_false (records_size files name size) in (
      (λ is. same ∙ (are name size).0 is),
      (λ is. (are name size).1 (sym same ∙ is)),
    )

-- a file with contents of this name and size
module _ (files : List FileAt) (file : FileAt) (n : List ℕ) (s : ℕ) (told : (name : List ℕ) (size : ℕ) → is_file_sized name size file ≡ (s == size && bytes_eq n name)) (sizes new : BTreeMap (List ℕ) ℕ) (are : AreSizesOf files sizes) where
  of_file : (name : List ℕ) (size : ℕ) → is_file_sized name size file ≡ true → (s ≡ size) × (bytes_eq n name ≡ true)
  of_file name size is =
      let parts = both_true (s == size) (bytes_eq n name) (sym (told name size) ∙ is) in
      (test_equal s size parts.0, parts.1)

  is_of_file : (name : List ℕ) (size : ℕ) → s ≡ size → bytes_eq n name ≡ true → is_file_sized name size file ≡ true
  is_of_file name size same named =
      told name size ∙ ap (λ (k : ℕ). k == size && bytes_eq n name) same ∙ ap (λ (b : Bool). b && bytes_eq n name) (equal_test size) ∙ named

  own : bytes_eq n n ≡ true
  own = (bytes_eq-Decides n n).1 refl

  pub sized_more : Updates (slice_cmp nat_cmp) sizes new n (Some s) → ((size : ℕ) → get (slice_cmp nat_cmp) sizes n ≡ Some size → size ≡ s) → AreSizesOf (files ++ file ∷ []) new
  sized_more updates one name size = (there, back)
    where
      at : get (slice_cmp nat_cmp) new name ≡ cond (bytes_eq n name) (Some s) (get (slice_cmp nat_cmp) sizes name)
      at = updates.0 name ∙ ap (λ (b : Bool). cond b (Some s) (get (slice_cmp nat_cmp) sizes name)) (is_eq-slice_cmp n name)

      there : get (slice_cmp nat_cmp) new name ≡ Some size → records_size (files ++ file ∷ []) name size ≡ true
      there is = by (bytes_eq n name) refl (sym at ∙ is)
        where
          by : (b : Bool) → bytes_eq n name ≡ b → cond b (Some s) (get (slice_cmp nat_cmp) sizes name) ≡ Some size → records_size (files ++ file ∷ []) name size ≡ true
          by true named same = here_more files file name size (is_of_file name size (cc same) named)
          by false named same = before_more files file name size ((are name size).0 same)

      back : records_size (files ++ file ∷ []) name size ≡ true → get (slice_cmp nat_cmp) new name ≡ Some size
      back is = at ∙ ⊎_elim
          (λ before. by (bytes_eq n name) refl ((are name size).1 before))
          (λ here.
          let parts = of_file name size here in
          ap (λ (b : Bool). cond b (Some s) (get (slice_cmp nat_cmp) sizes name)) parts.1 ∙ ap (λ (k : ℕ). Some k) parts.0)
          (either (records_size files name size) (is_file_sized name size file) (sym (records_more files file name size) ∙ is))
        where
          by : (b : Bool) → bytes_eq n name ≡ b → get (slice_cmp nat_cmp) sizes name ≡ Some size → cond b (Some s) (get (slice_cmp nat_cmp) sizes name) ≡ Some size
          by true named stood =
              let same : n ≡ name = (bytes_eq-Decides n name).0 named in
              ap (λ (k : ℕ). Some k) (sym (one size (ap (λ (l : List ℕ). get (slice_cmp nat_cmp) sizes l) same ∙ stood)))
          by false named stood = stood

  pub two_sizes : (before : ℕ) → get (slice_cmp nat_cmp) sizes n ≡ Some before → before ≢ s → HasTwoSizes (files ++ file ∷ []) n
  two_sizes before stood other = record {
    one = before;
    other = s;
    recorded = before_more files file n before ((are n before).0 stood);
    also = here_more files file n s (is_of_file n s refl own);
    differ = other;
  }

-- more files
pub two_more : (files more : List FileAt) (name : List ℕ) → HasTwoSizes files name → HasTwoSizes (files ++ more) name
two_more files more name two = record {
  one = two.one;
  other = two.other;
  recorded = list_any-append (is_file_sized name two.one) files more ∙ or_left (records_size files name two.one) (records_size more name two.one) two.recorded;
  also = list_any-append (is_file_sized name two.other) files more ∙ or_left (records_size files name two.other) (records_size more name two.other) two.also;
  differ = two.differ;
}

-- ---- in loops

module _ (before files : List FileAt) (i : ℕ) (file : FileAt) (within : i < length files) (is : file ≡ get_or files i file) where
  one_file : before ++ take (i + 1) files ≡ (before ++ take i files) ++ file ∷ []
  one_file = ap (λ (l : List FileAt). before ++ l) (take_next files i file within is) ∙ sym (append_assoc before (take i files) (file ∷ []))

  pub file_more : (sizes : BTreeMap (List ℕ) ℕ) → AreSizesOf ((before ++ take i files) ++ file ∷ []) sizes → AreSizesOf (before ++ take (i + 1) files) sizes
  file_more sizes are = subst (λ (l : List FileAt). AreSizesOf l sizes) (sym one_file) are

  pub two_of_file : (name : List ℕ) → HasTwoSizes ((before ++ take i files) ++ file ∷ []) name → HasTwoSizes (before ++ files) name
  two_of_file name two =
      let all = ap (λ (l : List FileAt). before ++ l) (sym (take-append-drop (i + 1) files)) ∙ sym (append_assoc before (take (i + 1) files) (drop (i + 1) files)) in
      subst (λ (l : List FileAt). HasTwoSizes l name) (sym all) (two_more (before ++ take (i + 1) files) (drop (i + 1) files) name (subst (λ (l : List FileAt). HasTwoSizes l name) (sym one_file) two))

module _ (troves : List TroveParts) (i : ℕ) (t : TroveParts) (within : i < length troves) (is : t ≡ get_or troves i t) where
  one_trove : files_of (take (i + 1) troves) ≡ files_of (take i troves) ++ t.files
  one_trove = ap files_of (take_next troves i t within is) ∙ flat_map-append (λ (u : TroveParts). u.files) (take i troves) (t ∷ []) ∙ ap (λ (l : List FileAt). files_of (take i troves) ++ l) (append-nil t.files)

  pub trove_more : (sizes : BTreeMap (List ℕ) ℕ) → AreSizesOf (files_of (take i troves) ++ t.files) sizes → AreSizesOf (files_of (take (i + 1) troves)) sizes
  trove_more sizes are = subst (λ (l : List FileAt). AreSizesOf l sizes) (sym one_trove) are

  pub two_of_trove : (name : List ℕ) → HasTwoSizes (files_of (take i troves) ++ t.files) name → HasTwoSizes (files_of troves) name
  two_of_trove name two =
      let all = ap files_of (sym (take-append-drop (i + 1) troves)) ∙ flat_map-append (λ (u : TroveParts). u.files) (take (i + 1) troves) (drop (i + 1) troves) in
      subst (λ (l : List FileAt). HasTwoSizes l name) (sym all) (two_more (files_of (take (i + 1) troves)) (files_of (drop (i + 1) troves)) name (subst (λ (l : List FileAt). HasTwoSizes l name) (sym one_trove) two))

-- the sizes as a list
pub wanted_are : (files : List FileAt) (sizes : BTreeMap (List ℕ) ℕ) (list : List (List ℕ × ℕ)) → IsOrdered (slice_cmp nat_cmp) sizes → list ≡ sizes.entries → AreSizesOf files sizes → AreWanted files list
wanted_are files sizes list ordered is are = record {
  rising = subst (λ (es : List (List ℕ × ℕ)). IsStrictlySortedBy (slice_cmp nat_cmp) (keys_of es)) (sym is) ordered;
  each = λ name size.
      let iff = btree_map_get_iff nat_list_cmp_total exact_bytes sizes ordered name size in
      subst (λ (es : List (List ℕ × ℕ)). Contains es (name, size) ↔ (records_size files name size ≡ true)) (sym is) (
        (λ h. (are name size).0 (iff.1 h)),
        (λ told. iff.0 ((are name size).1 told)),
      );
  one = λ name size other told also. cc (sym ((are name size).1 told) ∙ (are name other).1 also);
}
