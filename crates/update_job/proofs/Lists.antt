-- The lists after an update and an erasure.
use Rattle.std.proofs.Common.{◌≡◌, ℕ, ◌+◌, ◌<◌, ◌⊎◌, ⊎_elim, inl, inr, List, [], length, get_or, take, Contains, Some, None, refl, sym, ap, subst, ◌∙◌}
use Rattle.std.specs.BTreeMap.{IsOrdered, values, is_at}
use Rattle.std.specs.Cmp.Lexicographic.{slice_cmp}
use Rattle.std.specs.Map.{lookup}
use Rattle.std.specs.Ordering.{nat_cmp}
use Rattle.std.proofs.lemmas.Option.{same_Some, none-some}
use Rattle.change_set.specs.trove-parts.Places.{with_place}
use Rattle.change_set.specs.trove-stream.Installed.{IsPlaceOf}
use Rattle.change_set.specs.trove-stream.declared.parts.TroveParts.{TroveParts}
use Rattle.update_job.specs.Lists.{IsPlaceOfOne, Stays, IsErased, AreInstalled, HasTroveOf, IsUpdated}
use Rattle.update_job.specs.Places.{ArePlaces, ArePlacesLeft, ArePlacesOf}
use Rattle.update_job.specs.ByName.{ByName, found, AreNamed, IsAtOne, HasPutAll, AreByName}
use Rattle.update_job.proofs.Elements.{in_more, more_in, next_in, in_inserted, inserted_keeps, inserted_in}
use Rattle.update_job.proofs.Leaving.{left_also, root_goes}
use Rattle.update_job.proofs.Mapped.{values_rise, found_value, value_found}
use Rattle.change_rel.proofs.cny-base.Lists.{contains_at}

-- ---- the places of one name more

module _ (list : List TroveParts) (Before After : List ℕ → Type 0) (name : List ℕ) (old : List ℕ) (weaker : (n : List ℕ) → Before n → After n) (last_or : (n : List ℕ) → After n → Before n ⊎ (name ≡ n))
    (so_far : ArePlacesOf list Before old) where
  of_before : (place : ℕ) → Contains old place → IsPlaceOfOne list After place
  of_before place among = (let one = so_far.each place among in record { name = one.name; named = weaker one.name one.named; place_of = one.place_of })

  pub roots_same : ((place : ℕ) → IsPlaceOf name list place → None ≡ Some place) → ArePlacesOf list After old
  roots_same none = record {
    each = of_before;
    all = λ place is. ⊎_elim
        (λ before. so_far.all place (record { name = is.name; named = before; place_of = is.place_of }))
        (λ last. absurd (none-some place (none place (subst (λ (n : List ℕ). IsPlaceOf n list place) (sym last) is.place_of))))
        (last_or is.name is.named);
  }

  pub roots_more : After name → (new : List ℕ) (at : ℕ) → IsPlaceOf name list at → ((place : ℕ) → IsPlaceOf name list place → Some at ≡ Some place) → new ≡ with_place old at → ArePlacesOf list After new
  roots_more named new at at_is only inserted = record {
    each = λ place among. ⊎_elim
        (λ before. of_before place before)
        (λ last. record { name = name; named = named; place_of = subst (λ (p : ℕ). IsPlaceOf name list p) last at_is })
        (in_inserted old at place (subst (λ (l : List ℕ). Contains l place) inserted among));
    all = λ place is. subst (λ (l : List ℕ). Contains l place) (sym inserted) (⊎_elim
        (λ before. inserted_keeps old at place (so_far.all place (record { name = is.name; named = before; place_of = is.place_of })))
        (λ last. subst (Contains (with_place old at)) (same_Some at place (only place (subst (λ (n : List ℕ). IsPlaceOf n list place) (sym last) is.place_of))) (inserted_in old at))
        (last_or is.name is.named));
  }

-- what was found so far of some names
pub record RootsSoFar (list : List TroveParts) (names : List (List ℕ)) (keys : List ℕ) : Type 0 where
  pub roots : ArePlacesOf list (Contains names) keys
  pub installed : AreInstalled list names

pub names_more : (list : List TroveParts) (names : List (List ℕ)) (i : ℕ) (name : List ℕ) (old new : List ℕ) (at : ℕ) → i < length names → name ≡ get_or names i name → RootsSoFar list (take i names) old
    → IsPlaceOf name list at → ((place : ℕ) → IsPlaceOf name list place → Some at ≡ Some place) → new ≡ with_place old at → RootsSoFar list (take (i + 1) names) new
names_more list names i name old new at within is so_far at_is only inserted = record {
  roots = roots_more list (Contains (take i names)) (Contains (take (i + 1) names)) name old (more_in names i name name within is) (in_more names i name name within is) so_far.roots
      (next_in names i name name within is) new at at_is only inserted;
  installed = λ other among none. ⊎_elim
      (λ before. so_far.installed other before none)
      (λ last. none at_is.trove (contains_at list at at_is.trove at_is.there) (at_is.named ∙ last))
      (in_more names i name name within is other among);
}

-- the names of the first troves and of the next one
module _ (troves : List TroveParts) (i : ℕ) (t : TroveParts) (within : i < length troves) (is : t ≡ get_or troves i t) where
  pub name_before : (n : List ℕ) → HasTroveOf (take i troves) n → HasTroveOf (take (i + 1) troves) n
  name_before n h = (h.0, more_in troves i t t within is h.0 h.1, h.2)

  pub name_last : HasTroveOf (take (i + 1) troves) t.id.name
  name_last = (t, next_in troves i t t within is, refl)

  pub name_either : (n : List ℕ) → HasTroveOf (take (i + 1) troves) n → HasTroveOf (take i troves) n ⊎ (t.id.name ≡ n)
  name_either n h = ⊎_elim
      (λ before. inl (h.0, before, h.2))
      (λ last. inr (ap (λ (v : TroveParts). v.id.name) last ∙ h.2))
      (in_more troves i t t within is h.0 h.1)

pub places_stand : (list : List TroveParts) (Named : List ℕ → Type 0) (keys : List ℕ) → ArePlacesOf list Named keys → ArePlaces list keys
places_stand list Named keys roots place among = (let one = roots.each place among in (one.place_of.trove, one.place_of.there))

pub left_stand : (list : List TroveParts) (roots left keys : List ℕ) → ArePlacesLeft list roots left → keys ≡ left → ArePlaces list keys
left_stand list roots left keys are is place among = (are.left place (subst (λ (l : List ℕ). Contains l place) is among)).stands

-- ---- what stays

module _ (list : List TroveParts) (Named : List ℕ → Type 0) (roots left : List ℕ) (of : ArePlacesOf list Named roots) (are : ArePlacesLeft list roots left) where
  stays_at : (name : List ℕ) (t : TroveParts) → IsAtOne list left name t → Stays list Named t
  stays_at name t is = record { place = is.place; there = is.there; left = left_also list (Contains roots) (IsPlaceOfOne list Named) of.each of.all is.place (are.left is.place is.among) }

  at_stays : (t : TroveParts) → Stays list Named t → IsAtOne list left t.id.name t
  at_stays t s = record { place = s.place; among = are.all s.place (left_also list (IsPlaceOfOne list Named) (Contains roots) of.all of.each s.place s.left); there = s.there; named = refl }

  -- a trove of one of the names goes
  named_goes : (name : List ℕ) (t : TroveParts) → IsAtOne list left name t → Named name → ⊥
  named_goes name t is named =
      let root : Contains roots is.place = of.all is.place (record { name = name; named = named; place_of = record { trove = t; there = is.there; named = is.named } }) in
      (are.left is.place is.among).is_not (root_goes list (Contains roots) is.place root)

-- ---- erasure

none_in : (empty : ByName) → empty.entries ≡ [] → (name : List ℕ) (t : TroveParts) → found empty name ≡ Some t → ⊥
none_in empty is name t some = none-some t (ap (lookup (is_at (slice_cmp nat_cmp name))) (sym is) ∙ some)

module _ (list : List TroveParts) (names : List (List ℕ)) (roots left : List ℕ) (empty m : ByName) (none : empty.entries ≡ []) (of : ArePlacesOf list (Contains names) roots) (are : ArePlacesLeft list roots left)
    (put : HasPutAll list left empty m) where
  pub erased_named : AreNamed m
  erased_named name t some = ⊎_elim (λ before. absurd (none_in empty none name t before)) (λ is. is.named) (put.from name t some)

  pub erased_of : IsOrdered (slice_cmp nat_cmp) m → IsErased list names (values m)
  erased_of ordered = record {
    rising = values_rise m ordered erased_named;
    stays = λ t among. ⊎_elim
        (λ before. absurd (none_in empty none t.id.name t before))
        (λ is. stays_at list (Contains names) roots left of are t.id.name t is)
        (put.from t.id.name t (found_value m ordered erased_named t among));
    all = λ t s. value_found m ordered erased_named t.id.name t (put.put t.id.name t (at_stays list (Contains names) roots left of are t s));
  }

-- ---- update

module _ (list come : List TroveParts) (roots left : List ℕ) (fresh m : ByName) (by : AreByName come fresh) (of : ArePlacesOf list (HasTroveOf come) roots) (are : ArePlacesLeft list roots left)
    (put : HasPutAll list left fresh m) where
  pub updated_named : AreNamed m
  updated_named name t some = ⊎_elim (λ before. (by.from name t before).1) (λ is. is.named) (put.from name t some)

  pub updated_of : IsOrdered (slice_cmp nat_cmp) m → IsUpdated list come (values m)
  updated_of ordered = record {
    rising = values_rise m ordered updated_named;
    from = λ t among. ⊎_elim
        (λ before. inl (by.from t.id.name t before).0)
        (λ is. inr (record { stays = stays_at list (HasTroveOf come) roots left of are t.id.name t is; other = λ named. named_goes list (HasTroveOf come) roots left of are t.id.name t is named }))
        (put.from t.id.name t (found_value m ordered updated_named t among));
    fresh = λ t among.
        value_found m ordered updated_named t.id.name t
        (put.kept t.id.name t (by.all t among) (λ u is. named_goes list (HasTroveOf come) roots left of are t.id.name u is (t, among, refl)));
    old = λ t o. value_found m ordered updated_named t.id.name t (put.put t.id.name t (at_stays list (HasTroveOf come) roots left of are t o.stays));
  }
