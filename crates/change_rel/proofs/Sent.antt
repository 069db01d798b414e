-- Files that a binary search finds by their path, and the names that are sent.
use Rattle.std.proofs.Common.{◌≡◌, ℕ, suc, ◌+◌, ◌<◌, ◌⊎◌, ⊎_elim, inl, inr, Bool, false, List, [], ◌∷◌, ◌++◌, length, get_or, take, Some, None, Option, Result, Ok, Err, Contains, Ordering, sym, ap, ◌∙◌, subst, arith, add-one}
use Rattle.std.specs.Prelude.{◌↔◌, IsTrue, OnOk}
use Rattle.std.proofs.lemmas.List.{take_more}
use Rattle.std.specs.Cmp.Lexicographic.{slice_cmp, nat_list_cmp_total, nat_list_eq_equiv, texts_ties}
use Rattle.std.specs.List.{HoldsAt, dedup}
use Rattle.std.specs.List.Retain.{IsFiltered, DiffersFromLast}
use Rattle.std.specs.Str.{bytes_eq}
use Rattle.std.specs.List.Sorted.{IsStrictlySortedBy, IsSortedBy, IsNonDecreasingBy, IsPartitionPoint, IsPermutation, IsSorted}
use Rattle.std.specs.Ordering.{nat_cmp, is_lt, ordering_index, ordering_reverse}
use Rattle.std.specs.declared.cmp.Ordering.TheVariants.{Less, Equal, Greater}
use Rattle.std.proofs.lemmas.Bool.{cases_lt}
use Rattle.std.proofs.lemmas.Cmp.{tied_itself}
use Rattle.std.proofs.lemmas.List.Elements.{All-contains, Contains-append_left, Contains-push, Contains-push_cases}
use Rattle.std.proofs.lemmas.List.Filters.{dedup_is}
use Rattle.std.proofs.lemmas.List.Kept.{Contains-dedup, Contains-from_dedup, IsStrictlySortedBy-dedup}
use Rattle.std.proofs.lemmas.List.Sorted.{searchable_from_sorted, Contains-permutation, IsPermutation-sym}
use Rattle.std.proofs.lemmas.Slice.Eq.{bytes_eq-Decides}
use Rattle.std.proofs.lemmas.Map.Keys.{sorted_tail, Less-from_sorted}
use Rattle.trove_stream.specs.trove-parts.declared.files.FileAt.{FileAt}
use Rattle.trove_stream.specs.trove-parts.Files.{path_of, file_cmp}
use Rattle.change_rel.specs.Sending.{content_of, Records, IsSent, SendsName, AreSent}
use Rattle.trove_stream.proofs.Members.{rising_head}
use Rattle.trove_stream.proofs.cny-base.Lists.{contains_cases, nothing_in}
use Rattle.trove_stream.proofs.Equal.{equal_lists}

-- how the path of a file compares with the one that is looked for
abbrev pub against : List ℕ → FileAt → Ordering
against path file = slice_cmp nat_cmp file.path path

pub not_less : (x y : FileAt) → path_of x ≡ path_of y → file_cmp x y ≡ Less → ⊥
not_less x y same less = cc (tied_itself nat_list_cmp_total (path_of y), ap (λ (p : List ℕ). slice_cmp nat_cmp p (path_of y)) same, less)

-- files of one path in a rising list are one
pub one_at : (files : List FileAt) → IsStrictlySortedBy file_cmp files → (x y : FileAt) → Contains files x → Contains files y → path_of x ≡ path_of y → x ≡ y
one_at [] rises x y h g same = absurd (nothing_in x h)
one_at (f ∷ files) rises x y h g same = ⊎_elim
    (λ e. ⊎_elim
    (λ e'. sym e ∙ e')
    (λ later. absurd (not_less f y (ap path_of e ∙ same) (All-contains (λ z. file_cmp f z ≡ Less) files y (rising_head file_cmp f files rises) later)))
    (contains_cases f y files g))
    (λ later. ⊎_elim
    (λ e'. absurd (not_less f x (ap path_of e' ∙ sym same) (All-contains (λ z. file_cmp f z ≡ Less) files x (rising_head file_cmp f files rises) later)))
    (λ later'. one_at files (sorted_tail file_cmp f files rises) x y later later' same)
    (contains_cases f y files g))
    (contains_cases f x files h)

-- ---- what the search finds

module _ (files : List FileAt) (path : List ℕ) (size : ℕ) (name : List ℕ) (rises : IsStrictlySortedBy file_cmp files) where
  pub found : (place : ℕ) (e : FileAt) → place < length files → e ≡ get_or files place e → HoldsAt (λ y. against path y ≡ Equal) files place → (r : Bool) → IsTrue r ↔ (content_of (get_or files place e).rec ≡ Some (name, size)) → IsTrue r ↔ Records files path size name
  found place e within is holds r told =
      let ok : IsTrue r ↔ (content_of e.rec ≡ Some (name, size)) = subst (λ (f : FileAt). IsTrue r ↔ (content_of f.rec ≡ Some (name, size))) (sym is) told in
      let there : path_of e ≡ path = equal_lists (path_of e) path (subst (λ (f : FileAt). against path f ≡ Equal) (sym is) (holds e)) in
      let in' : Contains files e = (place, within, sym is) in (
        (λ t. (e, in', there, ok.0 t)),
        (λ h. ok.1 (ap (λ (f : FileAt). content_of f.rec) (one_at files rises e h.0 in' h.1 (there ∙ sym h.2)) ∙ h.3)),
      )

  turned : (a b : Ordering) → a ≡ ordering_reverse b → b ≡ Less → is_lt a ≡ false
  turned a b e f = ap is_lt (e ∙ ap ordering_reverse f)

  in_order : IsSortedBy (λ a b. is_lt (slice_cmp nat_cmp (path_of a) (path_of b))) files
  in_order = λ k d low high.
      rw add-one (turned _ _ (nat_list_cmp_total.antisymm (path_of (get_or files (suc k) d)) (path_of (get_or files k d))) (Less-from_sorted file_cmp files k (suc k) d rises (omega arith) (omega arith)))

  pub missed : (place : ℕ) → (IsNonDecreasingBy (λ y. ordering_index (against path y)) files → IsPartitionPoint (λ y. against path y ≡ Less) (λ y. against path y ≡ Greater) files place) → Records files path size name → ⊥
  missed place search' h =
      let point = search' (searchable_from_sorted nat_list_cmp_total path_of files path in_order) in
      let equal : against path h.0 ≡ Equal = ap (λ (p : List ℕ). slice_cmp nat_cmp p path) h.2 ∙ tied_itself nat_list_cmp_total path in
      let at : against path (get_or files h.1.0 h.0) ≡ Equal = ap (against path) h.1.2 ∙ equal in
      elim (cases_lt h.1.0 place) [
        | inl before ↦ cc (at, point.0 h.1.0 h.0 (omega arith) before)
        | inr behind ↦ cc (at, point.1 h.1.0 h.0 behind h.1.1)
      ]

-- ---- what is sent of a file

abbrev pub content : List ℕ → ℕ → Option (List ℕ × ℕ)
content name size = Some (name, size)

pub one_name : (name sent : List ℕ) (size s : ℕ) → content name size ≡ content sent s → name ≡ sent
one_name name sent size s e = ap (λ (o : Option (List ℕ × ℕ)). name_in name o) e
  where
    name_in : List ℕ → Option (List ℕ × ℕ) → List ℕ
    name_in other (Some pair) = pair.0
    name_in other None = other

pub sent_of : (old : List FileAt) (sent : List ℕ) (file : FileAt) (size : ℕ) (name : List ℕ) → content_of file.rec ≡ Some (name, size) → IsSent old sent file ↔ ((name ≡ sent) × (Records old (path_of file) size name → ⊥))
sent_of old sent file size name is = (
  (λ s. (one_name name sent size s.size (sym is ∙ s.content), (λ h. s.lacked (h.0, h.1, h.2, h.3 ∙ sym is ∙ s.content)))),
  (λ h. record { size = size; content = is ∙ ap (λ (n : List ℕ). content n size) h.0; lacked = λ r. h.1 (r.0, r.1, r.2, r.3 ∙ ap (λ (n : List ℕ). content n size) (sym h.0)) }),
)

-- one more file
pub sends_more : (old files : List FileAt) (file : FileAt) (name : List ℕ) → SendsName old (files ++ file ∷ []) name ↔ (SendsName old files name ⊎ IsSent old name file)
sends_more old files file name = (
  (λ h. ⊎_elim (λ there. inl (h.0, there, h.2)) (λ e. inr (subst (IsSent old name) (sym e) h.2)) (Contains-push_cases files file h.0 h.1)),
  (λ h. ⊎_elim (λ s. (s.0, Contains-append_left files (file ∷ []) s.0 s.1, s.2)) (λ s. (file, Contains-push files file, s)) h),
)

-- what holds of the names so far holds of those of one file more
pub turn : (old fresh : List FileAt) (names new : List (List ℕ)) (i : ℕ) (file : FileAt) → i < length fresh → file ≡ get_or fresh i file
    → ((name : List ℕ) → Contains names name ↔ SendsName old (take i fresh) name) → ((name : List ℕ) → Contains new name ↔ (Contains names name ⊎ IsSent old name file)) → (name : List ℕ) → Contains new name ↔ SendsName old (take (i + 1) fresh) name
turn old fresh names new i file within is so_far more name =
    let front : take (i + 1) fresh ≡ take i fresh ++ file ∷ [] = take_more fresh i file within ∙ ap (λ (f : FileAt). take i fresh ++ f ∷ []) (sym is) in
    let both = sends_more old (take i fresh) file name in
    subst (λ (l : List FileAt). Contains new name ↔ SendsName old l name) (sym front) (
      (λ h. both.1 (⊎_elim (λ there. inl ((so_far name).0 there)) (λ s. inr s) ((more name).0 h))),
      (λ h. (more name).1 (⊎_elim (λ there. inl ((so_far name).1 there)) (λ s. inr s) (both.0 h))),
    )

pub on_ok : {T E : Type 0} (r : Result T E) (P Q : Type 0) → (P → Q) → OnOk r P → OnOk r Q
on_ok (Ok x) P Q give h = give h
on_ok (Err e) P Q give h = tt

-- what is sent of a file with this content
pub file_sent : (old : List FileAt) (names new : List (List ℕ)) (file : FileAt) (size : ℕ) (name : List ℕ) → content_of file.rec ≡ Some (name, size)
    → ((sent : List ℕ) → Contains new sent ↔ (Contains names sent ⊎ ((name ≡ sent) × (Records old (path_of file) size name → ⊥)))) → (sent : List ℕ) → Contains new sent ↔ (Contains names sent ⊎ IsSent old sent file)
file_sent old names new file size name is told sent =
    let both = sent_of old sent file size name is in
    ((λ h. ⊎_elim (λ there. inl there) (λ s. inr (both.1 s)) ((told sent).0 h)), (λ h. (told sent).1 (⊎_elim (λ there. inl there) (λ s. inr (both.0 s)) h)))

-- the names, sorted and each once
pub sent_once : (old fresh : List FileAt) (names sorted kept made : List (List ℕ)) → ((name : List ℕ) → Contains names name ↔ SendsName old fresh name) → IsPermutation names sorted → IsSorted (slice_cmp nat_cmp) sorted
    → IsFiltered (DiffersFromLast bytes_eq) [] sorted kept → made ≡ kept → AreSent old fresh made
sent_once old fresh names sorted kept made each moved order filtered made_is =
    let is : kept ≡ dedup bytes_eq sorted = dedup_is bytes_eq sorted kept filtered in
    subst (AreSent old fresh) (sym (made_is ∙ is)) (record {
      rising = IsStrictlySortedBy-dedup nat_list_cmp_total texts_ties sorted order;
      each = λ name. (
        (λ h. (each name).0 (Contains-permutation sorted names name (IsPermutation-sym names sorted moved) (Contains-from_dedup bytes_eq sorted name h))),
        (λ s. Contains-dedup nat_list_eq_equiv (λ x y e. (bytes_eq-Decides x y).0 e) sorted name (Contains-permutation names sorted name moved ((each name).1 s))),
      );
    })
