-- The troves at the places that a search gathered, in the order of their ids.
use Rattle.std.proofs.Common.{◌≡◌, ℕ, zero, suc, ◌+◌, ◌<◌, ⊎_elim, Bool, true, false, cond, List, [], ◌∷◌, length, get_or, map, slice_get, Contains, eqb, Bor, Option, Some, None, Ordering, refl, sym, ap, subst, ◌∙◌, true≢false, arith}
use Rattle.std.specs.Cmp.{IsTotalOrder, IsStrictWeakOrder}
use Rattle.std.specs.Cmp.Lexicographic.{slice_cmp, nat_list_cmp_total, texts_ties}
use Rattle.std.specs.List.{IsDistinct, cons_option}
use Rattle.std.specs.List.Sorted.{IsStrictlySortedBy, IsPermutation, IsSorted, IsSortedBy}
use Rattle.std.specs.Ordering.{nat_cmp, ordering_then, ordering_reverse, is_lt, is_eq}
use Rattle.std.specs.Str.{bytes_eq}
use Rattle.std.specs.declared.cmp.Ordering.TheVariants.{Less, Equal, Greater}
use Rattle.std.proofs.lemmas.Bool.{eq-eqb}
use Rattle.std.proofs.lemmas.Cmp.{on_total}
use Rattle.std.proofs.lemmas.List.Elements.{recursion_from_All, All-contains, All-from_recursion}
use Rattle.std.proofs.lemmas.List.Sorted.{Contains-permutation, IsPermutation-sym, ranks_by}
use Rattle.std.proofs.lemmas.Map.Keys.{IsDistinct-head, IsDistinct-tail, IsDistinct-cons, IsDistinct-IsPermutation, apart_from_distinct, sorted_from_all_adjacent, Less-from_sorted}
use Rattle.std.proofs.lemmas.Option.{none-some}
use Rattle.cny_dep.specs.Canonical.{flavor_text}
use Rattle.cny_version.specs.Version.{version_text}
use Rattle.repo_index.specs.trove-parts.declared.id.TroveId.{TroveId}
use Rattle.repo_index.specs.trove-parts.Order.{id_eq, id_cmp, id_equiv, id_total, id_ties}
use Rattle.repo_index.specs.trove-stream.declared.parts.TroveParts.{TroveParts}
use Rattle.repo_index.specs.Catalogue.{HasDistinctIds}
use Rattle.repo_index.specs.Places.{troves_at}
use Rattle.trove_spec.specs.Expansion.{trove_cmp, IsExpansion, IsClosedIn, first_of_same_name}
use Rattle.trove_spec.specs.Reached.{ArePlacesReached}
use Rattle.trove_spec.proofs.ConfigLines.{get_or-map}
use Rattle.cny_version.proofs.cny-base.Lists.{all_from, contains_at, contains_cases, contains_first, contains_rest, nothing_in, place_in, length-map}
use Rattle.repo_index.specs.trove-stream.NameOrder.{by_name_cmp, HasRisingNames}
use Rattle.cny_version.proofs.cny-base.Bools.{not_true}
use Rattle.cny_version.proofs.cny-base.Sorted.{same_members}

-- ---- elements

-- ---- the troves at some places

-- the place of one of them
abbrev Placed : List TroveParts → List ℕ → TroveParts → Type 0
Placed troves keys t = (place : ℕ) × Contains keys place × (slice_get troves place ≡ Some t)

placed_later : (troves : List TroveParts) (p : ℕ) (keys : List ℕ) (t : TroveParts) → Placed troves keys t → Placed troves (p ∷ keys) t
placed_later troves p keys t h = (h.0, contains_rest p h.0 keys h.1, h.2)

placed_one : (troves : List TroveParts) (p : ℕ) (keys : List ℕ) (t : TroveParts) (o : Option TroveParts) → slice_get troves p ≡ o → (Contains (troves_at troves keys) t → Placed troves keys t)
    → Contains (cons_option o (troves_at troves keys)) t → Placed troves (p ∷ keys) t
placed_one troves p keys t None at rest among = placed_later troves p keys t (rest among)
placed_one troves p keys t (Some x) at rest among = ⊎_elim
    (λ same. (p, contains_first p keys, at ∙ ap (λ (y : TroveParts). Some y) same))
    (λ later. placed_later troves p keys t (rest later))
    (contains_cases x t (troves_at troves keys) among)

placed_in : (troves : List TroveParts) (keys : List ℕ) (t : TroveParts) → Contains (troves_at troves keys) t → Placed troves keys t
placed_in troves [] t among = absurd (nothing_in t among)
placed_in troves (p ∷ keys) t among = placed_one troves p keys t (slice_get troves p) refl (placed_in troves keys t) among

in_more : (troves : List TroveParts) (keys : List ℕ) (t : TroveParts) (o : Option TroveParts) → Contains (troves_at troves keys) t → Contains (cons_option o (troves_at troves keys)) t
in_more troves keys t None h = h
in_more troves keys t (Some x) h = contains_rest x t (troves_at troves keys) h

in_placed : (troves : List TroveParts) (keys : List ℕ) (place : ℕ) (t : TroveParts) → Contains keys place → slice_get troves place ≡ Some t → Contains (troves_at troves keys) t
in_placed troves [] place t among at = absurd (nothing_in place among)
in_placed troves (p ∷ keys) place t among at = ⊎_elim
    (λ same. subst (λ (o : Option TroveParts). Contains (cons_option o (troves_at troves keys)) t) (sym (ap (slice_get troves) same ∙ at)) (contains_first t (troves_at troves keys)))
    (λ rest. in_more troves keys t (slice_get troves p) (in_placed troves keys place t rest at))
    (contains_cases p place keys among)

-- ---- no two of one id

abbrev same_id : TroveParts → TroveParts → Bool
same_id t u = id_eq t.id u.id

module _ (troves : List TroveParts) (distinct : HasDistinctIds troves) where
  -- a trove differs from those at other places
  differs : (p : ℕ) (keys : List ℕ) (x u : TroveParts) → IsDistinct eqb (p ∷ keys) → slice_get troves p ≡ Some x → Contains (troves_at troves keys) u → same_id x u ≡ false
  differs p keys x u apart at among =
      let there = placed_in troves keys u among in
      let other : eqb p there.0 ≡ false =
      All-contains (λ r. eqb p r ≡ false) keys there.0 (All-from_recursion (λ r. eqb p r ≡ false) keys (IsDistinct-head eqb p keys apart)) there.1 in
      not_true (same_id x u) (λ same. true≢false (sym (eq-eqb p there.0 (distinct p there.0 x u at there.2 same)) ∙ other))

  distinct_one : (p : ℕ) (keys : List ℕ) (o : Option TroveParts) → IsDistinct eqb (p ∷ keys) → slice_get troves p ≡ o → IsDistinct same_id (troves_at troves keys)
      → IsDistinct same_id (cons_option o (troves_at troves keys))
  distinct_one p keys None apart at rest = rest
  distinct_one p keys (Some x) apart at rest =
      IsDistinct-cons same_id x (troves_at troves keys)
      (recursion_from_All (λ u. same_id x u ≡ false) (troves_at troves keys) (all_from (λ u. same_id x u ≡ false) (troves_at troves keys) (λ u among. differs p keys x u apart at among))) rest

  distinct_at : (keys : List ℕ) → IsDistinct eqb keys → IsDistinct same_id (troves_at troves keys)
  unfolding IsDistinct
  distinct_at [] apart = tt
  distinct_at (p ∷ keys) apart = distinct_one p keys (slice_get troves p) apart refl (distinct_at keys (IsDistinct-tail eqb p keys apart))

-- ---- strictly rising ids

trove_total : IsTotalOrder trove_cmp
trove_total = on_total (λ (t : TroveParts). t.id) id_total

-- neither above nor equal is below
below_by : (o p : Ordering) → p ≡ ordering_reverse o → is_lt p ≡ false → is_eq o ≡ false → o ≡ Less
below_by Less p turned low apart = refl
below_by Equal p turned low apart = absurd (true≢false apart)
below_by Greater p turned low apart = absurd (true≢false (ap is_lt (sym turned) ∙ low))

strictly : (found : List TroveParts) → IsSorted trove_cmp found → IsDistinct same_id found → IsStrictlySortedBy trove_cmp found
unfolding IsStrictlySortedBy
strictly [] sorted distinct = tt
strictly (t ∷ found) sorted distinct = sorted_from_all_adjacent trove_total (t ∷ found) t next
  where
    next : (k : ℕ) → k + 1 < length (t ∷ found) → trove_cmp (get_or (t ∷ found) k t) (get_or (t ∷ found) (k + 1) t) ≡ Less
    next k within =
        let x = get_or (t ∷ found) k t in
        let y = get_or (t ∷ found) (k + 1) t in
        let apart : is_eq (trove_cmp x y) ≡ false = sym (id_ties x.id y.id) ∙ apart_from_distinct same_id (t ∷ found) k (k + 1) t distinct (omega arith) within in
        below_by (trove_cmp x y) (trove_cmp y x) (trove_total.antisymm y x) (sorted k t (omega arith) within) apart

-- ---- the expansion

module _ (troves : List TroveParts) (roots : List TroveId) (keys : List ℕ) (found : List TroveParts) (reached : ArePlacesReached troves roots keys) (moved : IsPermutation (troves_at troves keys) found) where
  placed : (t : TroveParts) → Contains found t → Placed troves keys t
  placed t among = placed_in troves keys t (Contains-permutation found (troves_at troves keys) t (IsPermutation-sym (troves_at troves keys) found moved) among)

  at_place : (place : ℕ) (t : TroveParts) → Contains keys place → slice_get troves place ≡ Some t → Contains found t
  at_place place t among at = Contains-permutation (troves_at troves keys) found t moved (in_placed troves keys place t among at)

  pub expansion_of : HasDistinctIds troves → IsSorted trove_cmp found → IsExpansion troves roots found
  expansion_of distinct sorted = record {
    rising = strictly found sorted
        (IsDistinct-IsPermutation same_id (λ x y. id_equiv.symm x.id y.id) (troves_at troves keys) found moved (distinct_at troves distinct keys reached.distinct));
    there = λ t among. (let h = placed t among in contains_at troves h.0 t h.2);
    reached = λ t among. (let h = placed t among in reached.reached h.0 t h.1 h.2);
    all = λ t there is. (let h = place_in troves t there in at_place h.0 t (reached.all h.0 t h.2 is) h.2);
  }

  pub closed_in : IsClosedIn troves found
  closed_in t u among there refers =
      let from = placed t among in
      let to = place_in troves u there in
      at_place to.0 u (reached.closed from.0 to.0 t u from.1 from.2 to.2 refers) to.2

-- ---- rising names

names_total : IsTotalOrder by_name_cmp
names_total = on_total (λ (t : TroveParts). t.id.name) nat_list_cmp_total

-- the first of three orders decides, where it isn't equal
pub first_decides : (o p q : Ordering) → ordering_then (ordering_then o p) q ≡ Less → is_eq o ≡ false → o ≡ Less
first_decides Less p q less apart = refl
first_decides Equal p q less apart = absurd (true≢false apart)
first_decides Greater p q less apart = less

-- the first two differ, and none of the rest has the name of the one before it
parts_differ : (u : TroveParts) (rest : Option TroveId) (b : Bool) → cond b (Some u.id) rest ≡ None → (b ≡ false) × (rest ≡ None)
parts_differ u rest true some = absurd (none-some u.id (sym some))
parts_differ u rest false none = (refl, none)

-- neighbours differ in their names
differ : (found : List TroveParts) → first_of_same_name found ≡ None → (k : ℕ) (d : TroveParts) → suc k < length found → bytes_eq (get_or found k d).id.name (get_or found (suc k) d).id.name ≡ false
differ [] none k d within = absurd (omega (arith, within))
differ (t ∷ []) none k d within = absurd (omega (arith, within))
differ (t ∷ u ∷ found) none zero d within = (parts_differ u (first_of_same_name (u ∷ found)) (bytes_eq t.id.name u.id.name) none).0
differ (t ∷ u ∷ found) none (suc k) d within =
    differ (u ∷ found) (parts_differ u (first_of_same_name (u ∷ found)) (bytes_eq t.id.name u.id.name) none).1 k d (omega (arith, within))

pub rising_names : (found : List TroveParts) → IsStrictlySortedBy trove_cmp found → first_of_same_name found ≡ None → HasRisingNames found
unfolding IsStrictlySortedBy
rising_names [] rising none = tt
rising_names (t ∷ found) rising none = sorted_from_all_adjacent names_total (t ∷ found) t next
  where
    next : (k : ℕ) → k + 1 < length (t ∷ found) → by_name_cmp (get_or (t ∷ found) k t) (get_or (t ∷ found) (k + 1) t) ≡ Less
    next k within =
        let x = get_or (t ∷ found) k t in
        let y = get_or (t ∷ found) (k + 1) t in
        let after : suc k ≡ k + 1 = omega arith in
        let apart : bytes_eq x.id.name y.id.name ≡ false =
        subst (λ (m : ℕ). bytes_eq x.id.name (get_or (t ∷ found) m t).id.name ≡ false) after (differ (t ∷ found) none k t (omega (arith, within))) in
        first_decides (by_name_cmp x y) (slice_cmp nat_cmp (version_text x.id.version) (version_text y.id.version)) (slice_cmp nat_cmp (flavor_text x.id.flavor) (flavor_text y.id.flavor))
        (Less-from_sorted trove_cmp (t ∷ found) k (k + 1) t rising (omega arith) within) (sym (texts_ties x.id.name y.id.name) ∙ apart)

-- ---- one expansion

pub one_expansion_of : (troves : List TroveParts) (roots : List TroveId) (a b : List TroveParts) → IsExpansion troves roots a → IsExpansion troves roots b → a ≡ b
one_expansion_of troves roots a b first second =
    same_members trove_cmp trove_total a b first.rising second.rising
    (λ t among. second.all t (first.there t among) (first.reached t among))
    (λ t among. first.all t (second.there t among) (second.reached t among))

-- ---- references to troves

abbrev pub now_of : Bor TroveParts → TroveParts
now_of trove = trove.now

-- the order by which they are sorted
abbrev pub is_before : Bor TroveParts → Bor TroveParts → Bool
is_before x y = is_lt (id_cmp x.now.id y.now.id)

pub before_order : IsStrictWeakOrder is_before
before_order = ranks_by id_total (λ (x : Bor TroveParts). x.now.id)

pub sorted_troves : (refs : List (Bor TroveParts)) → IsSortedBy is_before refs → IsSorted trove_cmp (map now_of refs)
sorted_troves refs sorted = λ k d low within.
    let none : Bor TroveParts = record { ref_ptr = (0, 0); now = d } in
    let inside : k + 1 < length refs = omega (arith, within, length-map now_of refs) in
    let here : get_or (map now_of refs) k d ≡ (get_or refs k none).now = get_or-map now_of refs k none d (omega (arith, inside)) in
    let after : get_or (map now_of refs) (k + 1) d ≡ (get_or refs (k + 1) none).now = get_or-map now_of refs (k + 1) none d inside in
    ap (λ (x : TroveParts). is_lt (trove_cmp x (get_or (map now_of refs) k d))) after
    ∙ ap (λ (y : TroveParts). is_lt (trove_cmp (get_or refs (k + 1) none).now y)) here
    ∙ sorted k none low inside
