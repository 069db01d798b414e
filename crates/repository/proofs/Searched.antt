-- What a binary search finds in a list that strictly rises by the bytes of keys.
use Rattle.std.proofs.Common.{◌≡◌, ℕ, ◌+◌, ⊎_elim, Bool, true, false, cond, List, [], ◌∷◌, get_or, find, Some, None, Contains, refl, sym, ap, ◌∙◌, arith, add-one, true≢false}
use Rattle.std.specs.Cmp.Lexicographic.{slice_cmp, nat_list_cmp_total}
use Rattle.std.specs.List.{HoldsAt}
use Rattle.std.specs.List.Sorted.{IsStrictlySortedBy}
use Rattle.std.specs.Ordering.{nat_cmp}
use Rattle.std.specs.Str.{bytes_eq}
use Rattle.std.specs.declared.cmp.Ordering.TheVariants.{Less, Equal}
use Rattle.std.proofs.lemmas.Cmp.{tied_itself}
use Rattle.std.proofs.lemmas.Map.Keys.{sorted_tail, Less-from_sorted}
use Rattle.std.proofs.lemmas.Slice.Eq.{bytes_eq-Decides}
use Rattle.change_rel.proofs.cny-base.Lists.{contains_cases, contains_first, contains_rest, nothing_in}
use Rattle.change_rel.proofs.cny-base.Keyed.{against, by_key, has_key}
use Rattle.change_rel.proofs.trove-stream.Equal.{equal_lists as equal_texts}

module _ {A : Type 0} (key : A → List ℕ) where
  -- an element at a later place isn't of the key of the first
  pub above : (x : A) (list : List A) → IsStrictlySortedBy (by_key key) (x ∷ list) → (y : A) → Contains list y → key x ≡ key y → ⊥
  above x list rises y h same =
      let less : (by_key key) x (get_or (x ∷ list) (h.0 + 1) y) ≡ Less = Less-from_sorted (by_key key) (x ∷ list) 0 (h.0 + 1) y rises (omega arith) (omega (arith, h.1)) in
      let there : get_or (x ∷ list) (h.0 + 1) y ≡ y = rw add-one h.2 in
      let own : slice_cmp nat_cmp (key x) (key x) ≡ Equal = tied_itself nat_list_cmp_total (key x) in
      let apart : slice_cmp nat_cmp (key x) (key x) ≡ Less = ap (λ (n : List ℕ). slice_cmp nat_cmp (key x) n) same ∙ ap (by_key key x) (sym there) ∙ less in
      absurd (cc (own, apart))

  pub one_keyed : (list : List A) → IsStrictlySortedBy (by_key key) list → (x y : A) → Contains list x → Contains list y → key x ≡ key y → x ≡ y
  one_keyed [] rises x y h g same = absurd (nothing_in x h)
  one_keyed (t ∷ list) rises x y h g same = ⊎_elim
      (λ e. ⊎_elim (λ e'. sym e ∙ e') (λ g'. absurd (above t list rises y g' (ap key e ∙ same))) (contains_cases t y list g))
      (λ h'. ⊎_elim (λ e'. absurd (above t list rises x h' (ap key e' ∙ sym same))) (λ g'. one_keyed list (sorted_tail (by_key key) t list rises) x y h' g' same) (contains_cases t y list g))
      (contains_cases t x list h)

  -- ---- searches of the whole list

  pub found : (list : List A) → IsStrictlySortedBy (by_key key) list → (t : A) → Contains list t → (name : List ℕ) → key t ≡ name → find (has_key key name) list ≡ Some t
  found [] rises t h name is = absurd (nothing_in t h)
  found (x ∷ list) rises t h name is = at (bytes_eq (key x) name) refl (λ there. found list (sorted_tail (by_key key) x list rises) t there name is)
    where
      at : (b : Bool) → bytes_eq (key x) name ≡ b → (Contains list t → find (has_key key name) list ≡ Some t) → cond b (Some x) (find (has_key key name) list) ≡ Some t
      at true e rest = ap (λ (u : A). Some u) (one_keyed (x ∷ list) rises x t (contains_first x list) h ((bytes_eq-Decides (key x) name).0 e ∙ sym is))
      at false e rest = ⊎_elim
          (λ same. absurd (true≢false (sym ((bytes_eq-Decides (key x) name).1 (ap key same ∙ is)) ∙ e)))
          rest
          (contains_cases x t list h)

  pub missed : (list : List A) (name : List ℕ) → ((t : A) → Contains list t → key t ≡ name → ⊥) → find (has_key key name) list ≡ None
  missed [] name none = refl
  missed (x ∷ list) name none = at (bytes_eq (key x) name) refl (missed list name (λ t h. none t (contains_rest x t list h)))
    where
      at : (b : Bool) → bytes_eq (key x) name ≡ b → find (has_key key name) list ≡ None → cond b (Some x) (find (has_key key name) list) ≡ None
      at true e rest = absurd (none x (contains_first x list) ((bytes_eq-Decides (key x) name).0 e))
      at false e rest = rest

  -- what is found is an element with the key
  pub found_is : (list : List A) (name : List ℕ) (t : A) → find (has_key key name) list ≡ Some t → Contains list t × (key t ≡ name)
  found_is [] name t is = absurd (cc is)
  found_is (x ∷ list) name t is = at (bytes_eq (key x) name) refl (found_is list name t) is
    where
      at_first : (y u : A) (l : List A) → y ≡ u → Contains (y ∷ l) u
      at_first y u l same = (0, omega arith, same)

      at : (b : Bool) → bytes_eq (key x) name ≡ b → (find (has_key key name) list ≡ Some t → Contains list t × (key t ≡ name)) → cond b (Some x) (find (has_key key name) list) ≡ Some t → Contains (x ∷ list) t × (key t ≡ name)
      at true e rest is = let same : x ≡ t = cc is in (at_first x t list same, ap key (sym same) ∙ (bytes_eq-Decides (key x) name).0 e)
      at false e rest is = let later = rest is in (contains_rest x t list later.0, later.1)

  -- ---- what a binary search finds

  pub searched : (list : List A) (name : List ℕ) (place : ℕ) (e : A) → e ≡ get_or list place e → HoldsAt (λ y. against key name y ≡ Equal) list place → key e ≡ name
  searched list name place e is holds = equal_texts (key e) name (ap (against key name) is ∙ holds e)
