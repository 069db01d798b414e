-- What deltas changed of a list.
use Rattle.std.proofs.Common.{◌≡◌, ⊎_elim, ℕ, ◌+◌, ◌<◌, Bool, true, false, cond, List, [], ◌∷◌, ◌++◌, map, length, take, get_or, Option, Some, None, is_some, Contains, refl, sym, ap, ◌∙◌, subst, arith}
use Rattle.std.specs.Cmp.Lexicographic.{slice_cmp}
use Rattle.std.specs.List.{AllByRecursion}
use Rattle.std.specs.List.Sorted.{IsStrictlySortedBy}
use Rattle.std.specs.Ordering.{nat_cmp}
use Rattle.std.specs.declared.cmp.Ordering.TheVariants.{Less}
use Rattle.std.proofs.lemmas.List.{get_or-take, get_or_default, length-take-le, take_more}
use Rattle.std.proofs.lemmas.List.Elements.{Contains-append_left, Contains-append_right, Contains-append_cases}
use Rattle.std.proofs.lemmas.Map.Keys.{Less-from_sorted}
use Rattle.std.proofs.lemmas.Option.{none-some}
use Rattle.local_db.specs.trove-parts.declared.id.TroveId.{TroveId}
use Rattle.local_db.specs.trove-stream.declared.parts.TroveParts.{TroveParts}
use Rattle.local_db.specs.tree-disk.Tree.{Name, same_name}
use Rattle.local_db.specs.trove-stream.Installed.{IsRising, trove_of}
use Rattle.local_db.specs.Record as state
use Rattle.local_db.specs.Record.{delta_at, TakesBackAt, TakesBack}
use Rattle.local_db.specs.declared.record.Delta.{Delta}
use Rattle.local_db.specs.RecordText.{delta_of, name_of}
use Rattle.local_db.specs.RecordText as text
use Rattle.local_db.specs.tree-disk.Laws.{same_means}
use Rattle.past_jobs.specs.Past.{IsChanged, AreChangedIds, by_name}
use Rattle.past_jobs.specs.Table.{has_delta, TurnsTo, AreMade, id_of, ids_at, Marks, Troves, trove_at, troves_of, IsIndexed}
use Rattle.past_jobs.proofs.Maps.{found_in}
use Rattle.local_db.specs.declared.format.Format.{Format}
use Rattle.past_jobs.proofs.PastDeltas.{delta_of_name, turn_differs}
use Rattle.change_rel.proofs.trove-stream.Names.{contained, is_named}
use Rattle.change_rel.proofs.cny-base.ByteLists.{not_less_itself}
use Rattle.change_rel.proofs.cny-base.Lists.{all_from as all_of, contains_first as first, contains_cases as first_or_later, contains_rest as later, nothing_in}

-- ---- the delta of a name

pub record DeltaAt (us : List Delta) (name : Name) (d : state.Delta) : Type 0 where
  pub delta : Delta
  pub in_deltas : Contains us delta
  pub named : name ≡ name_of delta
  pub is : delta_of delta ≡ d

pub delta_there : (us : List Delta) (name : Name) (d : state.Delta) → delta_at (map delta_of us) name ≡ Some d → DeltaAt us name d
delta_there [] name d is = absurd (none-some d is)
delta_there (u ∷ us) name d is = at (same_name name (name_of u)) refl (delta_there us name d)
  where
    at : (b : Bool) → same_name name (name_of u) ≡ b → (delta_at (map delta_of us) name ≡ Some d → DeltaAt us name d) → DeltaAt (u ∷ us) name d
    at true here rest = record {
      delta = u;
      in_deltas = first u us;
      named = same_means name (name_of u) here;
      is = let e : Some (delta_of u) ≡ Some d = sym (ap (λ (b : Bool). cond b (Some (delta_of u)) (delta_at (map delta_of us) name)) here) ∙ is in cc e;
    }
    at false off rest =
        let h = rest (sym (ap (λ (b : Bool). cond b (Some (delta_of u)) (delta_at (map delta_of us) name)) off) ∙ is) in
        record { delta = h.delta; in_deltas = later u h.delta us h.in_deltas; named = h.named; is = h.is }

-- no delta before it has the name of the one at a place
pub undone : (us : List Delta) → IsStrictlySortedBy text.by_name us → (k : ℕ) (u : Delta) → k < length us → u ≡ get_or us k u → has_delta (take k us) (name_of u) ≡ false
undone us rises k u within is = at (delta_at (map delta_of (take k us)) (name_of u)) refl
  where
    at : (o : Option state.Delta) → delta_at (map delta_of (take k us)) (name_of u) ≡ o → has_delta (take k us) (name_of u) ≡ false
    at None none = ap is_some none
    at (Some d) some =
        let v = delta_there (take k us) (name_of u) d some in
        let size : length (take k us) ≡ k = length-take-le k us (omega (arith, within)) in
        let low : v.in_deltas.0 < k = omega (arith, v.in_deltas.1, size) in
        let here : get_or us v.in_deltas.0 v.delta ≡ v.delta = sym (get_or-take k us v.in_deltas.0 v.delta low) ∙ v.in_deltas.2 in
        let there : get_or us k v.delta ≡ u = get_or_default us k v.delta u within ∙ sym is in
        let less : text.by_name (get_or us v.in_deltas.0 v.delta) (get_or us k v.delta) ≡ Less = Less-from_sorted text.by_name us v.in_deltas.0 k v.delta rises low within in
        absurd (not_less_itself (name_of u) (ap (λ (n : Name). slice_cmp nat_cmp n (name_of u)) v.named ∙ ap (λ (w : Delta). slice_cmp nat_cmp (name_of w) (name_of u)) (sym here) ∙ ap (λ (w : Delta). slice_cmp nat_cmp (name_of (get_or us v.in_deltas.0 v.delta)) (name_of w)) (sym there) ∙ less))

-- ---- the ids at the names

record IdThere (list : List TroveParts) (us : List Delta) (id : TroveId) : Type 0 where
  delta : Delta
  trove : TroveParts
  in_deltas : Contains us delta
  there : trove_of (name_of delta) list ≡ Some trove
  is : trove.id ≡ id

id_there : (list : List TroveParts) (us : List Delta) (id : TroveId) → Contains (ids_at list us) id → IdThere list us id
id_there list [] id id_in = absurd (nothing_in id id_in)
id_there list (u ∷ us) id id_in = ⊎_elim
    (λ here. at (trove_of (name_of u) list) refl here)
    (λ behind. let h = id_there list us id behind in record { delta = h.delta; trove = h.trove; in_deltas = later u h.delta us h.in_deltas; there = h.there; is = h.is })
    (Contains-append_cases (id_of (trove_of (name_of u) list)) (ids_at list us) id id_in)
  where
    at : (o : Option TroveParts) → trove_of (name_of u) list ≡ o → Contains (id_of o) id → IdThere list (u ∷ us) id
    at None none here = absurd (nothing_in id here)
    at (Some t) some here = record {
      delta = u;
      trove = t;
      in_deltas = first u us;
      there = some;
      is = ⊎_elim (λ e. e) (λ none. absurd (nothing_in id none)) (first_or_later t.id id [] here);
    }

there_id : (list : List TroveParts) (us : List Delta) (u : Delta) (t : TroveParts) → Contains us u → trove_of (name_of u) list ≡ Some t → Contains (ids_at list us) t.id
there_id list [] u t u_in some = absurd (nothing_in u u_in)
there_id list (v ∷ us) u t u_in some = ⊎_elim
    (λ here. Contains-append_left (id_of (trove_of (name_of v) list)) (ids_at list us) t.id
    (subst (λ (o : Option TroveParts). Contains (id_of o) t.id) (sym (ap (λ (w : Delta). trove_of (name_of w) list) here ∙ some)) (first t.id [])))
    (λ behind. Contains-append_right (id_of (trove_of (name_of v) list)) (ids_at list us) t.id (there_id list us u t behind some))
    (first_or_later v u us u_in)

ids_above : (name : Name) (list : List TroveParts) (us : List Delta) → AllByRecursion (λ (v : Delta). slice_cmp nat_cmp name (name_of v) ≡ Less) us → AllByRecursion (λ (id : TroveId). slice_cmp nat_cmp name id.name ≡ Less) (ids_at list us)
ids_above name list [] above = tt
ids_above name list (u ∷ us) above = at (trove_of (name_of u) list) refl (ids_above name list us above.1)
  where
    at : (o : Option TroveParts) → trove_of (name_of u) list ≡ o → AllByRecursion (λ (id : TroveId). slice_cmp nat_cmp name id.name ≡ Less) (ids_at list us)
        → AllByRecursion (λ (id : TroveId). slice_cmp nat_cmp name id.name ≡ Less) (id_of o ++ ids_at list us)
    at None none rest = rest
    at (Some t) some rest = (ap (slice_cmp nat_cmp name) (is_named list (name_of u) t some) ∙ above.0, rest)

ids_rise : (list : List TroveParts) (us : List Delta) → IsStrictlySortedBy text.by_name us → IsStrictlySortedBy by_name (ids_at list us)
unfolding IsStrictlySortedBy
ids_rise list [] rises = tt
ids_rise list (u ∷ us) rises = at (trove_of (name_of u) list) refl (ids_rise list us rises.1)
  where
    at : (o : Option TroveParts) → trove_of (name_of u) list ≡ o → IsStrictlySortedBy by_name (ids_at list us) → IsStrictlySortedBy by_name (id_of o ++ ids_at list us)
    at None none rest = rest
    at (Some t) some rest = (
      subst (λ (n : Name). AllByRecursion (λ (id : TroveId). slice_cmp nat_cmp n id.name ≡ Less) (ids_at list us)) (sym (is_named list (name_of u) t some)) (ids_above (name_of u) list us rises.0),
      rest,
    )

module _ (us : List Delta) (rises : IsStrictlySortedBy text.by_name us) (list other : List TroveParts) (list_rises : IsRising list)
    (differ : (name : Name) (d : state.Delta) → delta_at (map delta_of us) name ≡ Some d → trove_of name list ≡ trove_of name other → ⊥)
    (stay : (name : Name) → delta_at (map delta_of us) name ≡ None → trove_of name list ≡ trove_of name other) where
  named_there : (id : TroveId) → (h : IdThere list us id) → name_of h.delta ≡ id.name
  named_there id h = sym (is_named list (name_of h.delta) h.trove h.there) ∙ ap (λ (i : TroveId). i.name) h.is

  pub changed_ids : AreChangedIds list other (ids_at list us)
  changed_ids = record {
    rising = ids_rise list us rises;
    theirs = all_of (λ (id : TroveId). (t : TroveParts) × (trove_of id.name list ≡ Some t) × (t.id ≡ id)) (ids_at list us)
        (λ id id_in. let h = id_there list us id id_in in (h.trove, ap (λ (n : Name). trove_of n list) (sym (named_there id h)) ∙ h.there, h.is));
    all = λ t t_in changed. at t (contained list list_rises t t_in) changed (delta_at (map delta_of us) t.id.name) refl;
    changed = all_of (λ (id : TroveId). IsChanged id.name list other) (ids_at list us)
        (λ id id_in. let h = id_there list us id id_in in record {
          differs = differ id.name (delta_of h.delta) (ap (delta_at (map delta_of us)) (sym (named_there id h)) ∙ delta_of_name us rises h.delta h.in_deltas);
        });
  }
    where
      at : (t : TroveParts) → trove_of t.id.name list ≡ Some t → IsChanged t.id.name list other → (o : Option state.Delta) → delta_at (map delta_of us) t.id.name ≡ o → Contains (ids_at list us) t.id
      at t own changed None none = absurd (changed.differs (stay t.id.name none))
      at t own changed (Some d) some =
          let v = delta_there us t.id.name d some in
          there_id list us v.delta t v.in_deltas (ap (λ (n : Name). trove_of n list) (sym v.named) ∙ own)

module _ (us : List Delta) (rises : IsStrictlySortedBy text.by_name us) (after before : List TroveParts) (back : TakesBack (map delta_of us) after before) where
  differs : (name : Name) (d : state.Delta) → delta_at (map delta_of us) name ≡ Some d → trove_of name after ≡ trove_of name before → ⊥
  differs name d is = turn_differs d (trove_of name after) (trove_of name before) (subst (λ (o : Option state.Delta). TakesBackAt o (trove_of name after) (trove_of name before)) is (back.each name))

  stays : (name : Name) → delta_at (map delta_of us) name ≡ None → trove_of name before ≡ trove_of name after
  stays name is = subst (λ (o : Option state.Delta). TakesBackAt o (trove_of name after) (trove_of name before)) is (back.each name)

  pub ids_after : IsRising after → AreChangedIds after before (ids_at after us)
  ids_after after_rises = changed_ids us rises after before after_rises differs (λ name is. sym (stays name is))

  pub ids_before : IsRising before → AreChangedIds before after (ids_at before us)
  ids_before before_rises = changed_ids us rises before after before_rises (λ name d is same. differs name d is (sym same)) stays

  pub turned_to : (u : Delta) → Contains us u → TurnsTo after u (trove_of (name_of u) before)
  turned_to u u_in = subst (λ (o : Option state.Delta). TakesBackAt o (trove_of (name_of u) after) (trove_of (name_of u) before)) (delta_of_name us rises u u_in) (back.each (name_of u))

-- the ids of the troves that were made
pub made_ids : (after list : List TroveParts) (us : List Delta) (made : List TroveParts) → AreMade after us made → ((u : Delta) → Contains us u → (b : Option TroveParts) → TurnsTo after u b → trove_of (name_of u) list ≡ b)
    → map (λ (t : TroveParts). t.id) made ≡ ids_at list us
made_ids after list [] made h one = ap (map (λ (t : TroveParts). t.id)) h
made_ids after list (u ∷ us) made h one = ⊎_elim
    (λ none. made_ids after list us made none.1 (λ v v_in. one v (later u v us v_in)) ∙ sym (ap (λ (o : Option TroveParts). id_of o ++ ids_at list us) (one u (first u us) None none.0)))
    (λ some. ap (map (λ (t : TroveParts). t.id)) some.2
    ∙ ap (λ (l : List TroveId). some.0.id ∷ l) (made_ids after list us some.1 some.4 (λ v v_in. one v (later u v us v_in)))
    ∙ sym (ap (λ (o : Option TroveParts). id_of o ++ ids_at list us) (one u (first u us) (Some some.0) some.3)))
    h

-- ---- in turn

pub front_deltas : (us : List Delta) (k : ℕ) (u : Delta) → k < length us → u ≡ get_or us k u → take k us ++ u ∷ [] ≡ take (k + 1) us
front_deltas us k u within is = ap (λ (v : Delta). take k us ++ v ∷ []) is ∙ sym (take_more us k u within)

pub delta_in : (us : List Delta) (k : ℕ) (u : Delta) → k < length us → u ≡ get_or us k u → Contains us u
delta_in us k u within is = (k, within, sym is)

-- what is left has the trove that the next delta is about
pub undone_now : (f : Format) (old now : Troves) (m : Marks) (len : ℕ) (us : List Delta) → IsIndexed f old m len → IsStrictlySortedBy text.by_name us → (k : ℕ) (u : Delta) → k < length us → u ≡ get_or us k u
    → ((name : Name) → trove_at now name ≡ cond (has_delta (take k us) name) None (trove_at old name)) → trove_at now (name_of u) ≡ trove_of (name_of u) (troves_of old)
undone_now f old now m len us indexed rises k u within is left =
    left (name_of u) ∙ ap (λ (b : Bool). cond b None (trove_at old (name_of u))) (undone us rises k u within is) ∙ found_in f old m len indexed (name_of u)
