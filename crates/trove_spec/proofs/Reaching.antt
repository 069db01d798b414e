-- The places that a search from some roots gathers, one after the other.
use Rattle.std.proofs.Common.{◌≡◌, ℕ, zero, suc, ◌+◌, ◌-◌, ◌<◌, ◌≤◌, ⊎_elim, inl, inr, true, List, [], length, get_or, slice_get, Contains, eqb, Some, refl, sym, ap, subst, ◌∙◌, arith, length-append}
use Rattle.std.specs.List.{IsDistinct, list_any}
use Rattle.std.proofs.lemmas.Bool.{cases_lt, eqb-true}
use Rattle.std.proofs.lemmas.List.{get_or_append_left, get_or-append_right}
use Rattle.std.proofs.lemmas.List.Elements.{Contains-append_left, Contains-get_or}
use Rattle.std.proofs.lemmas.Map.Steps.{length-le_from_distinct_below}
use Rattle.std.proofs.lemmas.Map.Views.{Contains-from_any}
use Rattle.std.proofs.lemmas.Option.{slice_get_within, same_Some}
use Rattle.repo_index.specs.trove-parts.declared.id.TroveId.{TroveId}
use Rattle.repo_index.specs.trove-stream.declared.parts.TroveParts.{TroveParts}
use Rattle.repo_index.specs.Places.{IsPlaceOf}
use Rattle.trove_spec.specs.Expansion.{Refers, IsReached}
use Rattle.trove_spec.specs.Reached.{IsPlaceOfOne, HasAddedPlaces, HasAddedRefs, ArePlacesReached}
use Rattle.cny_version.specs.cny-base.Reach.{IsReachedIn}
use Rattle.cny_version.proofs.cny-base.Lists.{contains_at, number_at, place_in}
use Rattle.cny_version.proofs.cny-base.Reaching.{reached_later}

-- ---- items at their places

-- ---- steps

-- ---- what was gathered

-- the trove at the place is reached in at most so many steps
pub record StandsReached (troves : List TroveParts) (roots : List TroveId) (n place : ℕ) : Type 0 where
  pub trove : TroveParts
  pub stands : slice_get troves place ≡ Some trove
  pub reached : IsReachedIn (Refers troves) (Contains roots) n trove.id

-- places of troves that are reached, each in at most as many steps as there are places before it; those of the roots are among
-- them, and those to which the first `done` of them refer
pub record IsGathered (troves : List TroveParts) (roots : List TroveId) (keys : List ℕ) (done : ℕ) : Type 0 where
  pub within : done ≤ length keys
  pub steps : (i : ℕ) → i < length keys → StandsReached troves roots i (get_or keys i 0)
  pub roots_in : (id : TroveId) (place : ℕ) → Contains roots id → IsPlaceOf troves id place → Contains keys place
  pub refs_in : (i : ℕ) → i < done → (t u : TroveParts) (next : ℕ) → slice_get troves (get_or keys i 0) ≡ Some t → slice_get troves next ≡ Some u → Contains t.refs u.id → Contains keys next

module _ (troves : List TroveParts) (roots : List TroveId) where
  -- a place of one of these ids, where each of them is reached in so many steps
  stands_of : (ids : List TroveId) (place n : ℕ) → IsPlaceOfOne troves ids place → ((id : TroveId) → Contains ids id → IsReachedIn (Refers troves) (Contains roots) n id) → StandsReached troves roots n place
  stands_of ids place n one each = record {
    trove = one.place_of.trove;
    stands = one.place_of.stands;
    reached = subst (λ (id : TroveId). IsReachedIn (Refers troves) (Contains roots) n id) (sym one.place_of.id_is) (each one.id one.among);
  }

  -- a place behind those that were there is one of those that were added
  added_at : (ids : List TroveId) (old new : List ℕ) (i : ℕ) → HasAddedPlaces troves ids old new → length old ≤ i → i < length new → IsPlaceOfOne troves ids (get_or new i 0)
  added_at ids old new i added past within =
      let long : length new ≡ length old + length added.more = ap length added.new_is ∙ length-append old added.more in
      let behind : i - length old < length added.more = omega (arith, long, past, within) in
      let read : get_or new i 0 ≡ get_or added.more (i - length old) 0 =
      ap (λ (l : List ℕ). get_or l i 0) added.new_is ∙ get_or-append_right old added.more (length old) i 0 refl past in
      subst (λ (place : ℕ). IsPlaceOfOne troves ids place) (sym read) (added.each (get_or added.more (i - length old) 0) (Contains-get_or added.more (i - length old) 0 behind))

  -- the places that were there stay
  kept_at : (ids : List TroveId) (old new : List ℕ) (i : ℕ) → HasAddedPlaces troves ids old new → i < length old → get_or new i 0 ≡ get_or old i 0
  kept_at ids old new i added within = ap (λ (l : List ℕ). get_or l i 0) added.new_is ∙ get_or_append_left old added.more 0 i within

  still_in : (ids : List TroveId) (old new : List ℕ) (place : ℕ) → HasAddedPlaces troves ids old new → Contains old place → Contains new place
  still_in ids old new place added among = subst (λ (l : List ℕ). Contains l place) (sym added.new_is) (Contains-append_left old added.more place among)

  -- the roots alone
  pub gathered_first : (keys : List ℕ) → HasAddedPlaces troves roots [] keys → IsGathered troves roots keys 0
  gathered_first keys added = record {
    within = omega arith;
    steps = λ i within.
        stands_of roots (get_or keys i 0) i (added_at roots [] keys i added (omega arith) within)
        (λ id among. reached_later (Refers troves) (Contains roots) 0 i id (omega arith) among);
    roots_in = λ id place among is. added.all id place among is;
    refs_in = λ i none. absurd (omega (arith, none));
  }

  -- and the references of one trove more
  pub gathered_more : (old new : List ℕ) (done : ℕ) → done < length old → IsGathered troves roots old done → HasAddedRefs troves (get_or old done 0) old new → IsGathered troves roots new (done + 1)
  gathered_more old new done within so_far adds =
      let here = so_far.steps done within in
      let t = here.trove in
      let added = adds t here.stands in
      let long : length new ≡ length old + length added.more = ap length added.new_is ∙ length-append old added.more in
      let one_more : (i : ℕ) → done < i → (id : TroveId) → Contains t.refs id → IsReachedIn (Refers troves) (Contains roots) i id =
      λ i past id among.
      reached_later (Refers troves) (Contains roots) (suc done) i id (omega (arith, past))
      (inr (t.id, here.reached, record { trove = t; there = contains_at troves (get_or old done 0) t here.stands; id_is = refl; refers = among })) in record {
        within = omega (arith, long, within);
        steps = λ i inside. elim (cases_lt i (length old)) [
          | inl before ↦ subst (λ (place : ℕ). StandsReached troves roots i place) (sym (kept_at t.refs old new i added before)) (so_far.steps i before)
          | inr behind ↦ stands_of t.refs (get_or new i 0) i (added_at t.refs old new i added behind inside) (one_more i (omega (arith, within, behind)))
        ];
        roots_in = λ id place among is. still_in t.refs old new place added (so_far.roots_in id place among is);
        refs_in = λ i below t' u next at there refers. elim (cases_lt i done) [
          | inl before ↦
              still_in t.refs old new next added
              (so_far.refs_in i before t' u next (ap (slice_get troves) (sym (kept_at t.refs old new i added (omega (arith, before, within)))) ∙ at) there refers)
          | inr behind ↦ (
              let last : i ≡ done = omega (arith, below, behind) in
              let read : get_or new i 0 ≡ get_or old done 0 = ap (λ (k : ℕ). get_or new k 0) last ∙ kept_at t.refs old new done added within in
              let one : t' ≡ t = same_Some t' t (sym at ∙ ap (slice_get troves) read ∙ here.stands) in
              added.all u.id next (subst (λ (v : TroveParts). Contains v.refs u.id) one refers) (record { trove = u; stands = there; id_is = refl }))
        ];
      }

  -- ---- the end of the search

  -- places of troves, no two of them equal, are at most as many as the troves
  pub places_fit : (keys : List ℕ) → IsDistinct eqb keys → ((i : ℕ) → i < length keys → StandsReached troves roots i (get_or keys i 0)) → length keys ≤ length troves
  places_fit keys distinct steps = length-le_from_distinct_below keys (length troves) distinct below
    where
      below : (q : ℕ) → list_any (eqb q) keys ≡ true → q < length troves
      below q is =
          let at = number_at keys q (Contains-from_any eqb-true q keys is) in
          let here = steps at.0 at.1 in
          subst (λ (n : ℕ). n < length troves) at.2 (slice_get_within troves (get_or keys at.0 0) here.trove here.stands)

  -- what is reached is among places that hold those of the roots and with each place those of its references
  all_steps : (keys : List ℕ) → ((id : TroveId) (place : ℕ) → Contains roots id → IsPlaceOf troves id place → Contains keys place)
      → ((place next : ℕ) (t u : TroveParts) → Contains keys place → slice_get troves place ≡ Some t → slice_get troves next ≡ Some u → Contains t.refs u.id → Contains keys next)
      → (n place : ℕ) (t : TroveParts) → slice_get troves place ≡ Some t → IsReachedIn (Refers troves) (Contains roots) n t.id → Contains keys place
  all_steps keys roots_in closed zero place t at is = roots_in t.id place is (record { trove = t; stands = at; id_is = refl })
  all_steps keys roots_in closed (suc n) place t at is = ⊎_elim
      (λ sooner. all_steps keys roots_in closed n place t at sooner)
      (λ step. (
      let refers = step.2 in
      let from = place_in troves refers.trove refers.there in
      let before : Contains keys from.0 =
      all_steps keys roots_in closed n from.0 refers.trove from.2 (subst (λ (id : TroveId). IsReachedIn (Refers troves) (Contains roots) n id) (sym refers.id_is) step.1) in
      closed from.0 place refers.trove t before from.2 at refers.refers))
      is

  pub gathered_all : (keys : List ℕ) (done : ℕ) → length keys ≤ done → IsDistinct eqb keys → IsGathered troves roots keys done → ArePlacesReached troves roots keys
  gathered_all keys done ended distinct gathered = record {
    distinct = distinct;
    reached = λ place t among at. (
        let i = number_at keys place among in
        let here = gathered.steps i.0 i.1 in
        let one : here.trove ≡ t = same_Some here.trove t (sym here.stands ∙ ap (slice_get troves) i.2 ∙ at) in
        let few = places_fit keys distinct gathered.steps in
        subst (λ (v : TroveParts). IsReached troves roots v.id) one
        (reached_later (Refers troves) (Contains roots) i.0 (length troves) here.trove.id (omega (arith, i.1, few)) here.reached));
    all = λ place t at is. all_steps keys gathered.roots_in closed (length troves) place t at is;
    closed = closed;
  }
    where
      closed : (place next : ℕ) (t u : TroveParts) → Contains keys place → slice_get troves place ≡ Some t → slice_get troves next ≡ Some u → Contains t.refs u.id → Contains keys next
      closed place next t u among at there refers =
          let i = number_at keys place among in
          gathered.refs_in i.0 (omega (arith, i.1, ended)) t u next (ap (slice_get troves) i.2 ∙ at) there refers
