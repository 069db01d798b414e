-- The lists of a round: what comes, and the installed list with it.
use Rattle.std.proofs.Common.{◌≡◌, ℕ, ◌⊎◌, ⊎_elim, inl, inr, Bool, true, false, cond, List, [], ◌∷◌, ◌++◌, map, slice_get, Contains, Option, Some, None, is_some, IsSome, Ordering, refl, sym, ap, ◌∙◌, subst}
use Rattle.std.specs.Cmp.Lexicographic.{slice_cmp}
use Rattle.std.specs.List.{AllByRecursion}
use Rattle.std.specs.List.Sorted.{IsStrictlySortedBy}
use Rattle.std.specs.Ordering.{nat_cmp, ordering_then}
use Rattle.std.specs.Str.{bytes_eq}
use Rattle.std.specs.declared.cmp.Ordering.TheVariants.{Less}
use Rattle.std.proofs.lemmas.List.Elements.{Contains-append_left, Contains-append_right}
use Rattle.std.proofs.lemmas.Map.Keys.{sorted_head, sorted_tail}
use Rattle.std.proofs.lemmas.Option.{none-some, same_Some}
use Rattle.cny_dep.specs.Canonical.{flavor_text}
use Rattle.cny_version.specs.Version.{version_text}
use Rattle.repo_index.specs.trove-parts.declared.id.TroveId.{TroveId}
use Rattle.repo_index.specs.trove-stream.declared.parts.TroveParts.{TroveParts}
use Rattle.repo_index.specs.trove-stream.Installed.{by_name, trove_of, IsRising}
use Rattle.repo_index.proofs.cny-base.ByteLists.{bytes_mean, not_less_itself}
use Rattle.repo_index.proofs.cny-base.Lists.{contains_at, contains_map, place_in}
use Rattle.repo_index.proofs.trove-stream.Names.{contained, is_named, is_there}
use Rattle.dep_closure.specs.Slots.{listed}
use Rattle.dep_closure.proofs.Names.{listed_rises, look_up}
use Rattle.trove_spec.specs.Expansion.{trove_cmp, IsExpansion, first_of_same_name}
use Rattle.trove_spec.specs.Reached.{ArePlacesReached}
use Rattle.update_job.specs.Lists.{HasTroveOf, IsErased, IsOld, IsPlaceOfOne, IsUpdated, Stays}
use Rattle.update_job.proofs.Leaving.{left_also}
use Rattle.sys_model.specs.Fit.{Fresh, place_of}
use Rattle.sys_model.specs.Growing.{AreByName, AreReplaced}
use Rattle.sys_model.specs.Held.{held, held_by}
use Rattle.sys_model.specs.Rounds.{IsRound}
use Rattle.sys_model.proofs.Arranged.{arranged, is_in}

-- ---- rising names

-- rising names are rising ids
by_ids : (t u : TroveParts) → by_name t u ≡ Less → trove_cmp t u ≡ Less
by_ids t u less =
    ap (λ (o : Ordering). ordering_then (ordering_then o (slice_cmp nat_cmp (version_text t.id.version) (version_text u.id.version))) (slice_cmp nat_cmp (flavor_text t.id.flavor) (flavor_text u.id.flavor))) less

rising_ids : (list : List TroveParts) → IsRising list → IsStrictlySortedBy trove_cmp list
unfolding IsStrictlySortedBy
rising_ids [] rises = tt
rising_ids (t ∷ list) rises = (all list rises.0, rising_ids list rises.1)
  where
    all : (l : List TroveParts) → AllByRecursion (λ (u : TroveParts). by_name t u ≡ Less) l → AllByRecursion (λ (u : TroveParts). trove_cmp t u ≡ Less) l
    all [] below = tt
    all (u ∷ us) below = (by_ids t u below.0, all us below.1)

-- no two of a rising list have one name
none_same : (list : List TroveParts) → IsRising list → first_of_same_name list ≡ None
none_same [] rises = refl
none_same (t ∷ []) rises = refl
none_same (t ∷ u ∷ list) rises = at (none_same (u ∷ list) (sorted_tail by_name t (u ∷ list) rises)) (bytes_eq t.id.name u.id.name) refl
  where
    below : by_name t u ≡ Less
    below = head (sorted_head by_name t (u ∷ list) rises)
      where
        head : AllByRecursion (λ (v : TroveParts). by_name t v ≡ Less) (u ∷ list) → by_name t u ≡ Less
        head all = all.0

    at : first_of_same_name (u ∷ list) ≡ None → (b : Bool) → bytes_eq t.id.name u.id.name ≡ b → cond b (Some u.id) (first_of_same_name (u ∷ list)) ≡ None
    at rest true is = absurd (not_less_itself t.id.name (ap (slice_cmp nat_cmp t.id.name) (bytes_mean t.id.name u.id.name is) ∙ below))
    at rest false is = rest

-- ---- the lists

module _ (troves installed : List TroveParts) (roots : List TroveId) (places : List ℕ) (fresh : Fresh) (replaced : List (List ℕ)) (kept : List TroveParts) (reached : ArePlacesReached troves roots places)
    (by : AreByName troves places fresh) (are : AreReplaced installed fresh replaced) (erased : IsErased installed replaced kept) where
  -- the trove of a name that comes
  abbrev pub coming : List ℕ → Option TroveParts
  coming name = held_by troves (place_of fresh name) None

  abbrev pub standing : List ℕ → Option TroveParts
  standing name = held troves fresh kept name

  named_at : (name : List ℕ) (place : ℕ) (t : TroveParts) → place_of fresh name ≡ Some place → slice_get troves place ≡ Some t → t.id.name ≡ name
  named_at name place t under there =
      let is = by.from name place under in
      ap (λ (u : TroveParts). u.id.name) (same_Some t is.trove (sym there ∙ is.there)) ∙ is.named

  coming_cases : (name : List ℕ) (t : TroveParts) → coming name ≡ Some t → (place : ℕ) × (place_of fresh name ≡ Some place) × (slice_get troves place ≡ Some t)
  coming_cases name t is = at (place_of fresh name) refl is
    where
      at : (o : Option ℕ) → place_of fresh name ≡ o → held_by troves o None ≡ Some t → (place : ℕ) × (place_of fresh name ≡ Some place) × (slice_get troves place ≡ Some t)
      at None e there = absurd (none-some t there)
      at (Some place) e there = (place, e, there)

  comes : (name : List ℕ) (place : ℕ) (t : TroveParts) → place_of fresh name ≡ Some place → slice_get troves place ≡ Some t → coming name ≡ Some t
  comes name place t under there = ap (λ (o : Option ℕ). held_by troves o None) under ∙ there

  stands : (name : List ℕ) (place : ℕ) (t : TroveParts) → place_of fresh name ≡ Some place → slice_get troves place ≡ Some t → standing name ≡ Some t
  stands name place t under there = ap (λ (o : Option ℕ). held_by troves o (trove_of name kept)) under ∙ there

  pub standing_cases : (name : List ℕ) (t : TroveParts) → standing name ≡ Some t → (coming name ≡ Some t) ⊎ ((place_of fresh name ≡ None) × (trove_of name kept ≡ Some t))
  standing_cases name t is = at (place_of fresh name) refl is
    where
      at : (o : Option ℕ) → place_of fresh name ≡ o → held_by troves o (trove_of name kept) ≡ Some t → (coming name ≡ Some t) ⊎ ((place_of fresh name ≡ None) × (trove_of name kept ≡ Some t))
      at None e there = inr (e, there)
      at (Some place) e there = inl (comes name place t e there)

  named_coming : (name : List ℕ) (t : TroveParts) → coming name ≡ Some t → t.id.name ≡ name
  named_coming name t is = let at = coming_cases name t is in named_at name at.0 t at.1 at.2

  pub named_standing : (name : List ℕ) (t : TroveParts) → standing name ≡ Some t → t.id.name ≡ name
  named_standing name t is = ⊎_elim (λ come. named_coming name t come) (λ stay. is_named kept name t stay.1) (standing_cases name t is)

  abbrev pub names : List (List ℕ)
  names = (arranged (map (λ (t : TroveParts). t.id.name) (troves ++ kept))).list

  in_names : (t : TroveParts) → Contains (troves ++ kept) t → is_in t.id.name names ≡ true
  in_names t among = (arranged (map (λ (u : TroveParts). u.id.name) (troves ++ kept))).all t.id.name (contains_map (λ (u : TroveParts). u.id.name) (troves ++ kept) t among)

  rising : IsStrictlySortedBy (slice_cmp nat_cmp) names
  rising = (arranged (map (λ (t : TroveParts). t.id.name) (troves ++ kept))).rising

  coming_in : (name : List ℕ) (t : TroveParts) → coming name ≡ Some t → is_in name names ≡ true
  coming_in name t is =
      let at = coming_cases name t is in
      subst (λ (n : List ℕ). is_in n names ≡ true) (named_coming name t is) (in_names t (Contains-append_left troves kept t (contains_at troves at.0 t at.2)))

  standing_in : (name : List ℕ) (t : TroveParts) → standing name ≡ Some t → is_in name names ≡ true
  standing_in name t is = ⊎_elim
      (λ come. coming_in name t come)
      (λ stay. subst (λ (n : List ℕ). is_in n names ≡ true) (is_named kept name t stay.1) (in_names t (Contains-append_right troves kept t (is_there kept name t stay.1))))
      (standing_cases name t is)

  -- what comes, in name order
  abbrev pub found : List TroveParts
  found = listed coming names

  -- and the installed troves that stay
  abbrev pub list : List TroveParts
  list = listed standing names

  some_in : (o : Option TroveParts) (name : List ℕ) → ((t : TroveParts) → o ≡ Some t → is_in name names ≡ true) → IsSome o → is_in name names ≡ true
  some_in None name each some = absurd (cc some)
  some_in (Some t) name each some = each t refl

  found_rises : IsRising found
  found_rises = listed_rises coming named_coming names rising

  pub list_rises : IsRising list
  list_rises = listed_rises standing named_standing names rising

  found_by : (name : List ℕ) → trove_of name found ≡ coming name
  found_by name = look_up coming named_coming names name (some_in (coming name) name (λ t is. coming_in name t is))

  pub list_by : (name : List ℕ) → trove_of name list ≡ standing name
  list_by name = look_up standing named_standing names name (some_in (standing name) name (λ t is. standing_in name t is))

  in_found : (name : List ℕ) (t : TroveParts) → coming name ≡ Some t → Contains found t
  in_found name t is = is_there found name t (found_by name ∙ is)

  from_found : (t : TroveParts) → Contains found t → coming t.id.name ≡ Some t
  from_found t among = sym (found_by t.id.name) ∙ contained found found_rises t among

  in_list : (name : List ℕ) (t : TroveParts) → standing name ≡ Some t → Contains list t
  in_list name t is = is_there list name t (list_by name ∙ is)

  from_list : (t : TroveParts) → Contains list t → standing t.id.name ≡ Some t
  from_list t among = sym (list_by t.id.name) ∙ contained list list_rises t among

  -- ---- what comes is the expansion

  expansion : IsExpansion troves roots found
  expansion = record {
    rising = rising_ids found found_rises;
    there = λ t among. (let at = coming_cases t.id.name t (from_found t among) in contains_at troves at.0 t at.2);
    reached = λ t among.
        (let at = coming_cases t.id.name t (from_found t among) in
        reached.reached at.0 t (by.from t.id.name at.0 at.1).among at.2);
    all = λ t there is.
        (let at = place_in troves t there in
        in_found t.id.name t (comes t.id.name at.0 t (by.all at.0 t (reached.all at.0 t at.2 is) at.2) at.2));
  }

  -- ---- what stays

  -- a name of what comes that is installed is replaced, and the other way
  to_replaced : (place : ℕ) → IsPlaceOfOne installed (HasTroveOf found) place → IsPlaceOfOne installed (Contains replaced) place
  to_replaced place one =
      let come = one.named in
      let at = coming_cases come.0.id.name come.0 (from_found come.0 come.1) in
      let under : IsSome (place_of fresh one.name) = ap is_some (ap (place_of fresh) (sym come.2) ∙ at.1) in
      record {
        name = one.name;
        named = are.all one.name under (one.place_of.trove, contains_at installed place one.place_of.trove one.place_of.there, one.place_of.named);
        place_of = one.place_of;
      }

  some_place : (name : List ℕ) → IsSome (place_of fresh name) → HasTroveOf found name
  some_place name some = at (place_of fresh name) refl some
    where
      at : (o : Option ℕ) → place_of fresh name ≡ o → IsSome o → HasTroveOf found name
      at None e none = absurd (cc none)
      at (Some place) e is =
          let named = by.from name place e in
          (named.trove, in_found name named.trove (comes name place named.trove e named.there), named.named)

  to_found : (place : ℕ) → IsPlaceOfOne installed (Contains replaced) place → IsPlaceOfOne installed (HasTroveOf found) place
  to_found place one = record { name = one.name; named = some_place one.name (are.comes one.name one.named); place_of = one.place_of }

  -- what stays beside the places of some names stays beside those of others that have the same places
  stays_also : (P Q : List ℕ → Type 0) → ((place : ℕ) → IsPlaceOfOne installed P place → IsPlaceOfOne installed Q place) → ((place : ℕ) → IsPlaceOfOne installed Q place → IsPlaceOfOne installed P place) → (t : TroveParts)
      → Stays installed P t → Stays installed Q t
  stays_also P Q to back t stays = record {
    place = stays.place;
    there = stays.there;
    left = left_also installed (IsPlaceOfOne installed P) (IsPlaceOfOne installed Q) to back stays.place stays.left;
  }

  stays_found : (t : TroveParts) → Stays installed (Contains replaced) t → Stays installed (HasTroveOf found) t
  stays_found t stays = stays_also (Contains replaced) (HasTroveOf found) to_found to_replaced t stays

  stays_replaced : (t : TroveParts) → Stays installed (HasTroveOf found) t → Stays installed (Contains replaced) t
  stays_replaced t stays = stays_also (HasTroveOf found) (Contains replaced) to_replaced to_found t stays

  -- ---- the installed list with what comes

  old_of : (t : TroveParts) → place_of fresh t.id.name ≡ None → Contains kept t → IsOld installed found t
  old_of t none among = record {
    stays = stays_found t (erased.stays t among);
    other = λ named.
        (let at = coming_cases named.0.id.name named.0 (from_found named.0 named.1) in
        none-some at.0 (sym none ∙ ap (place_of fresh) (sym named.2) ∙ at.1));
  }

  standing_old : (t : TroveParts) → IsOld installed found t → standing t.id.name ≡ Some t
  standing_old t is = at (place_of fresh t.id.name) refl
    where
      at : (o : Option ℕ) → place_of fresh t.id.name ≡ o → held_by troves o (trove_of t.id.name kept) ≡ Some t
      at None e = contained kept erased.rising t (erased.all t (stays_replaced t is.stays))
      at (Some place) e = absurd (is.other (some_place t.id.name (ap is_some e)))

  updated : IsUpdated installed found list
  updated = record {
    rising = list_rises;
    from = λ t among. ⊎_elim
        (λ come. inl (in_found t.id.name t come))
        (λ stay. inr (old_of t stay.0 (is_there kept t.id.name t stay.1)))
        (standing_cases t.id.name t (from_list t among));
    fresh = λ t among. (let at = coming_cases t.id.name t (from_found t among) in in_list t.id.name t (stands t.id.name at.0 t at.1 at.2));
    old = λ t is. in_list t.id.name t (standing_old t is);
  }

  pub is_round : IsRound troves installed roots found list
  is_round = record { expansion = expansion; one_each = none_same found found_rises; updated = updated }

  -- no trove of what comes has a name under which nothing comes
  pub is_nameless : (name : List ℕ) → place_of fresh name ≡ None → (t : TroveParts) → Contains found t → t.id.name ≡ name → ⊥
  is_nameless name none t among named =
      let at = coming_cases t.id.name t (from_found t among) in
      none-some at.0 (sym none ∙ ap (place_of fresh) (sym named) ∙ at.1)

  -- and the other way
  pub is_absent : (name : List ℕ) → ((t : TroveParts) → Contains found t → t.id.name ≡ name → ⊥) → place_of fresh name ≡ None
  is_absent name none = at (place_of fresh name) refl
    where
      at : (o : Option ℕ) → place_of fresh name ≡ o → o ≡ None
      at None e = refl
      at (Some place) e = (let come = some_place name (ap is_some e) in absurd (none come.0 come.1 come.2))
