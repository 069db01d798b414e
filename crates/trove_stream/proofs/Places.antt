-- Where the trove of a name stands in a rising list.
use Rattle.std.proofs.Common.{◌≡◌, ℕ, suc, ◌+◌, ◌<◌, ◌⊎◌, ⊎_elim, inl, inr, Bool, true, false, cond, List, [], ◌∷◌, length, get_or, slice_get, Some, None, Option, option_copied, Contains, Ordering, refl, sym, ap, ◌∙◌, arith, add-one, true≢false}
use Rattle.std.specs.Cmp.Lexicographic.{slice_cmp, nat_list_cmp_total}
use Rattle.std.specs.List.{HoldsAt}
use Rattle.std.specs.List.Sorted.{IsSortedBy, IsNonDecreasingBy, IsPartitionPoint}
use Rattle.std.specs.Ordering.{nat_cmp, is_lt, ordering_index, ordering_reverse}
use Rattle.std.specs.Slice.{IsItemAt}
use Rattle.std.specs.Str.{bytes_eq}
use Rattle.std.specs.declared.cmp.Ordering.TheVariants.{Less, Equal, Greater}
use Rattle.std.proofs.lemmas.Bool.{cases_lt}
use Rattle.std.proofs.lemmas.Cmp.{tied_itself}
use Rattle.std.proofs.lemmas.List.Elements.{Contains-append_left, Contains-append_right, Contains-append_cases, Contains-push, Contains-push_cases}
use Rattle.std.proofs.lemmas.List.Sorted.{searchable_from_sorted}
use Rattle.std.proofs.lemmas.Map.Keys.{sorted_tail, Less-from_sorted}
use Rattle.std.proofs.lemmas.Option.{slice_get-get_or, slice_get_within, slice_get_past, slice_get_read, get_or_from_slice_get}
use Rattle.std.proofs.lemmas.Slice.Eq.{bytes_eq-Decides}
use Rattle.trove_stream.specs.declared.parts.TroveParts.{TroveParts}
use denote.Ref.{Bor}
use Rattle.trove_stream.specs.Installed.{by_name, IsRising, trove_of, IsPlaceOf, IsNameless}
use Rattle.trove_stream.proofs.Equal.{equal_lists as equal_names}

abbrev pub name_of : TroveParts → List ℕ
name_of t = t.id.name

-- how the name of a trove compares with the one that is looked for
abbrev pub against : List ℕ → TroveParts → Ordering
against name t = slice_cmp nat_cmp (name_of t) name

pub nothing_in : (t : TroveParts) → Contains [] t → ⊥
nothing_in t h = omega (arith, h.1)

pub first_or_later : (x y : TroveParts) (list : List TroveParts) → Contains (x ∷ list) y → (x ≡ y) ⊎ Contains list y
first_or_later x y list h = ⊎_elim
    (λ here. ⊎_elim (λ none. absurd (nothing_in y none)) inl (Contains-push_cases [] x y here))
    inr
    (Contains-append_cases (x ∷ []) list y h)

later : (x y : TroveParts) (list : List TroveParts) → Contains list y → Contains (x ∷ list) y
later x y list h = Contains-append_right (x ∷ []) list y h

-- a trove at a later place isn't of the name of the first
above : (x : TroveParts) (list : List TroveParts) → IsRising (x ∷ list) → (y : TroveParts) → Contains list y → name_of x ≡ name_of y → ⊥
above x list rises y h same =
    let less : by_name x (get_or (x ∷ list) (h.0 + 1) y) ≡ Less = Less-from_sorted by_name (x ∷ list) 0 (h.0 + 1) y rises (omega arith) (omega (arith, h.1)) in
    let there : get_or (x ∷ list) (h.0 + 1) y ≡ y = rw add-one h.2 in
    let own : slice_cmp nat_cmp (name_of x) (name_of x) ≡ Equal = tied_itself nat_list_cmp_total (name_of x) in
    let apart : slice_cmp nat_cmp (name_of x) (name_of x) ≡ Less = ap (λ (n : List ℕ). slice_cmp nat_cmp (name_of x) n) same ∙ ap (by_name x) (sym there) ∙ less in
    absurd (cc (own, apart))

pub one_named : (list : List TroveParts) → IsRising list → (x y : TroveParts) → Contains list x → Contains list y → name_of x ≡ name_of y → x ≡ y
one_named [] rises x y h g same = absurd (nothing_in x h)
one_named (t ∷ list) rises x y h g same = ⊎_elim
    (λ e. ⊎_elim (λ e'. sym e ∙ e') (λ g'. absurd (above t list rises y g' (ap name_of e ∙ same))) (first_or_later t y list g))
    (λ h'. ⊎_elim (λ e'. absurd (above t list rises x h' (ap name_of e' ∙ sym same))) (λ g'. one_named list (sorted_tail by_name t list rises) x y h' g' same) (first_or_later t y list g))
    (first_or_later t x list h)

-- ---- searches of the whole list

pub found : (list : List TroveParts) → IsRising list → (t : TroveParts) → Contains list t → (name : List ℕ) → name_of t ≡ name → trove_of name list ≡ Some t
found [] rises t h name is = absurd (nothing_in t h)
found (x ∷ list) rises t h name is = at (bytes_eq (name_of x) name) refl (λ there. found list (sorted_tail by_name x list rises) t there name is)
  where
    at : (b : Bool) → bytes_eq (name_of x) name ≡ b → (Contains list t → trove_of name list ≡ Some t) → cond b (Some x) (trove_of name list) ≡ Some t
    at true e rest = ap (λ (u : TroveParts). Some u) (one_named (x ∷ list) rises x t (Contains-append_left (x ∷ []) list x (Contains-push [] x)) h ((bytes_eq-Decides (name_of x) name).0 e ∙ sym is))
    at false e rest = ⊎_elim
        (λ same. absurd (true≢false (sym ((bytes_eq-Decides (name_of x) name).1 (ap name_of same ∙ is)) ∙ e)))
        rest
        (first_or_later x t list h)

pub missed : (list : List TroveParts) (name : List ℕ) → IsNameless name list → trove_of name list ≡ None
missed [] name none = refl
missed (x ∷ list) name none = at (bytes_eq (name_of x) name) refl (missed list name (λ t h. none t (later x t list h)))
  where
    at : (b : Bool) → bytes_eq (name_of x) name ≡ b → trove_of name list ≡ None → cond b (Some x) (trove_of name list) ≡ None
    at true e rest = absurd (none x (Contains-append_left (x ∷ []) list x (Contains-push [] x)) ((bytes_eq-Decides (name_of x) name).0 e))
    at false e rest = rest

-- ---- what a binary search finds

some_at : (list : List TroveParts) (place : ℕ) → place < length list → slice_get list place ≡ None → ⊥
some_at [] place within none = omega arith
some_at (x ∷ list) place within none = let some : slice_get (x ∷ list) place ≡ Some (get_or (x ∷ list) place x) = slice_get-get_or (x ∷ list) place x within in cc

module _ (list : List TroveParts) (name : List ℕ) (rises : IsRising list) where
  turned : (a b : Ordering) → a ≡ ordering_reverse b → b ≡ Less → is_lt a ≡ false
  turned a b e f = ap is_lt (e ∙ ap ordering_reverse f)

  in_order : IsSortedBy (λ a b. is_lt (slice_cmp nat_cmp (name_of a) (name_of b))) list
  in_order = λ k d low high.
      rw add-one (turned _ _ (nat_list_cmp_total.antisymm (name_of (get_or list (suc k) d)) (name_of (get_or list k d))) (Less-from_sorted by_name list k (suc k) d rises (omega arith) (omega arith)))

  pub searched : (place : ℕ) → place < length list → HoldsAt (λ y. against name y ≡ Equal) list place → IsPlaceOf name list place
  searched place within holds = at (slice_get list place) refl
    where
      at : (o : Option TroveParts) → slice_get list place ≡ o → IsPlaceOf name list place
      at None none = absurd (some_at list place within none)
      at (Some t) there = record {
        trove = t;
        there = there;
        named = equal_names (name_of t) name (ap (against name) (sym (get_or_from_slice_get list place t t there)) ∙ holds t);
      }

  pub nowhere : (place : ℕ) → (IsNonDecreasingBy (λ y. ordering_index (against name y)) list → IsPartitionPoint (λ y. against name y ≡ Less) (λ y. against name y ≡ Greater) list place) → IsNameless name list
  nowhere place search' t h is =
      let point = search' (searchable_from_sorted nat_list_cmp_total name_of list name in_order) in
      let equal : against name t ≡ Equal = ap (λ (p : List ℕ). slice_cmp nat_cmp p name) is ∙ tied_itself nat_list_cmp_total name in
      let at : against name (get_or list h.0 t) ≡ Equal = ap (against name) h.2 ∙ equal in
      elim (cases_lt h.0 place) [
        | inl before ↦ cc (at, point.0 h.0 t (omega arith) before)
        | inr behind ↦ cc (at, point.1 h.0 t behind h.1)
      ]

-- ---- look-ups

pub at_place : (list : List TroveParts) (name : List ℕ) (place : ℕ) → IsRising list → IsPlaceOf name list place → slice_get list place ≡ trove_of name list
at_place list name place rises is =
    is.there ∙ sym (found list rises is.trove (place, slice_get_within list place is.trove is.there, get_or_from_slice_get list place is.trove is.trove is.there) name is.named)

-- what `get` of a slice lends
pub item_at : {A : Type 0} (xs : List A) (i : ℕ) (r : Option (Bor A)) → IsItemAt xs i r → option_copied r ≡ slice_get xs i
item_at xs i None is = sym (slice_get_past xs i is.3)
item_at xs i (Some x) is = sym (slice_get_read xs (length xs) i x.now refl is.3.0 is.1)

-- ---- one place

less_names : (list : List TroveParts) → IsRising list → (i j : ℕ) (t u : TroveParts) → slice_get list i ≡ Some t → slice_get list j ≡ Some u → name_of t ≡ name_of u → i < j → ⊥
less_names list rises i j t u at_i at_j same less =
    let within : j < length list = slice_get_within list j u at_j in
    let below : by_name (get_or list i t) (get_or list j t) ≡ Less = Less-from_sorted by_name list i j t rises less within in
    let first : get_or list i t ≡ t = get_or_from_slice_get list i t t at_i in
    let second : get_or list j t ≡ u = get_or_from_slice_get list j u t at_j in
    let apart : slice_cmp nat_cmp (name_of t) (name_of t) ≡ Less =
    ap (slice_cmp nat_cmp (name_of t)) same ∙ ap (λ (w : TroveParts). slice_cmp nat_cmp (name_of t) (name_of w)) (sym second) ∙ ap (λ (w : TroveParts). slice_cmp nat_cmp (name_of w) (name_of (get_or list j t))) (sym first) ∙ below in
    let own : slice_cmp nat_cmp (name_of t) (name_of t) ≡ Equal = tied_itself nat_list_cmp_total (name_of t) in
    absurd (cc (own, apart))

pub one_place : (list : List TroveParts) (name : List ℕ) → IsRising list → (i j : ℕ) → IsPlaceOf name list i → IsPlaceOf name list j → i ≡ j
one_place list name rises i j is_i is_j = elim (cases_lt i j) [
  | inl less ↦ absurd (less_names list rises i j is_i.trove is_j.trove is_i.there is_j.there (is_i.named ∙ sym is_j.named) less)
  | inr le ↦ elim (cases_lt j i) [
    | inl more ↦ absurd (less_names list rises j i is_j.trove is_i.trove is_j.there is_i.there (is_j.named ∙ sym is_i.named) more)
    | inr ge ↦ omega arith
  ]
]

pub not_nowhere : (list : List TroveParts) (name : List ℕ) (place : ℕ) → IsNameless name list → IsPlaceOf name list place → ⊥
not_nowhere list name place none is =
    none is.trove (place, slice_get_within list place is.trove is.there, get_or_from_slice_get list place is.trove is.trove is.there) is.named
