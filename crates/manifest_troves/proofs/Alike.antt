-- Entries in the order of their names, at which each look-up finds the same.
use Rattle.std.proofs.Common.{◌≡◌, ℕ, true, false, List, [], ◌∷◌, Option, Some, None, refl, sym, ap, ◌∙◌, ⊎_elim}
use Rattle.std.specs.BTreeMap.{is_at}
use Rattle.std.specs.Cmp.Lexicographic.{nat_list_cmp_total}
use Rattle.std.specs.List.Sorted.{IsStrictlySortedBy}
use Rattle.std.specs.Map.{lookup, keys_of}
use Rattle.std.specs.Option.{unwrap_or, is_some}
use Rattle.std.specs.Ordering.{is_eq, ordering_reverse, eq_by_cmp}
use Rattle.std.specs.declared.cmp.Ordering.{Ordering}
use Rattle.std.specs.declared.cmp.Ordering.TheVariants.{Less, Equal, Greater}
use Rattle.std.proofs.lemmas.Bool.{true≢false, cases_Bool}
use Rattle.std.proofs.lemmas.Cmp.{tied_itself, eq_by_cmp_equiv}
use Rattle.std.proofs.lemmas.Map.{lookup-none}
use Rattle.std.proofs.lemmas.Map.Entries.{lookup_head, lookup_tail, none_past_head, none_below_head}
use Rattle.std.proofs.lemmas.Map.Keys.{IsDistinct-from_sorted, sorted_tail}
use Rattle.manifest_troves.proofs.Names.{by_bytes, tied}

abbrev pub found : {X : Type 0} → List (List ℕ × X) → List ℕ → Option X
found es q = lookup (is_at (by_bytes q)) es

not_none : {X : Type 0} (x : X) → ◌≡◌ {A = Option X} (Some x) None → ⊥
not_none {X} x e = true≢false (ap is_some e)

module _ {X : Type 0} where
  at_head : (x : List ℕ × X) (xs : List (List ℕ × X)) → found (x ∷ xs) x.0 ≡ Some x.1
  at_head x xs = lookup_head (is_at (by_bytes x.0)) x xs (ap is_eq (tied_itself nat_list_cmp_total x.0))

  past_head : (q : List ℕ) (x : List ℕ × X) (xs : List (List ℕ × X)) → IsStrictlySortedBy by_bytes (keys_of (x ∷ xs)) → eq_by_cmp by_bytes q x.0 ≡ true → found xs q ≡ None
  past_head q x xs s t = lookup-none (is_at (by_bytes q)) xs (none_past_head (eq_by_cmp_equiv nat_list_cmp_total) q x xs (IsDistinct-from_sorted by_bytes (keys_of (x ∷ xs)) s) t)

  module _ (x y : List ℕ × X) (xs ys : List (List ℕ × X)) (s : IsStrictlySortedBy by_bytes (keys_of (x ∷ xs))) (t : IsStrictlySortedBy by_bytes (keys_of (y ∷ ys)))
      (h : (q : List ℕ) → found (x ∷ xs) q ≡ found (y ∷ ys) q) where
    by_heads : (o : Ordering) → by_bytes x.0 y.0 ≡ o → by_bytes x.0 y.0 ≡ Equal
    by_heads Less p = absurd (not_none x.1 (sym (at_head x xs) ∙ h x.0 ∙ lookup-none (is_at (by_bytes x.0)) (y ∷ ys) (none_below_head nat_list_cmp_total x.0 y ys t p)))
    by_heads Equal p = p
    by_heads Greater p =
        absurd (not_none y.1 (sym (at_head y ys) ∙ sym (h y.0)
        ∙ lookup-none (is_at (by_bytes y.0)) (x ∷ xs) (none_below_head nat_list_cmp_total y.0 x xs s (nat_list_cmp_total.antisymm y.0 x.0 ∙ ap ordering_reverse p))))

    names : by_bytes x.0 y.0 ≡ Equal
    names = by_heads (by_bytes x.0 y.0) refl

    values : x.1 ≡ y.1
    values = ap (λ (u : Option X). unwrap_or u x.1) (sym (at_head x xs) ∙ h x.0 ∙ lookup_head (is_at (by_bytes x.0)) y ys (ap is_eq names))

    tails : (q : List ℕ) → found xs q ≡ found ys q
    tails q =
        let laws = eq_by_cmp_equiv nat_list_cmp_total in
        let e : eq_by_cmp by_bytes q y.0 ≡ eq_by_cmp by_bytes q x.0 = laws.symm q y.0 ∙ sym (laws.congr x.0 y.0 q (ap is_eq names)) ∙ laws.symm x.0 q in
        ⊎_elim
        (λ (b : eq_by_cmp by_bytes q x.0 ≡ true). past_head q x xs s b ∙ sym (past_head q y ys t (e ∙ b)))
        (λ (b : eq_by_cmp by_bytes q x.0 ≡ false). sym (lookup_tail (is_at (by_bytes q)) x xs b) ∙ h q ∙ lookup_tail (is_at (by_bytes q)) y ys (e ∙ b))
        (cases_Bool (eq_by_cmp by_bytes q x.0))

  pub same_entries : (es fs : List (List ℕ × X)) → IsStrictlySortedBy by_bytes (keys_of es) → IsStrictlySortedBy by_bytes (keys_of fs) → ((q : List ℕ) → found es q ≡ found fs q) → es ≡ fs
  same_entries [] [] s t h = refl
  same_entries [] (y ∷ ys) s t h = absurd (not_none y.1 (sym (h y.0 ∙ at_head y ys)))
  same_entries (x ∷ xs) [] s t h = absurd (not_none x.1 (sym (at_head x xs) ∙ h x.0))
  same_entries (x ∷ xs) (y ∷ ys) s t h =
      let rest = same_entries xs ys (sorted_tail by_bytes x.0 (keys_of xs) s) (sorted_tail by_bytes y.0 (keys_of ys) t) (tails x y xs ys s t h) in
      λ i. (tied x.0 y.0 (names x y xs ys s t h) i, values x y xs ys s t h i) ∷ rest i
