-- The places that a search from some places gathers, one after the other.
use Rattle.std.proofs.Common.{◌≡◌, ℕ, zero, suc, ◌+◌, ◌-◌, ◌<◌, ◌≤◌, ⊎_elim, inl, inr, true, List, length, get_or, Contains, eqb, refl, sym, ap, subst, ◌∙◌, arith, length-append}
use Rattle.std.specs.List.{IsDistinct, list_any}
use Rattle.std.proofs.lemmas.Bool.{cases_lt, eqb-true}
use Rattle.std.proofs.lemmas.List.{get_or_append_left, get_or-append_right}
use Rattle.std.proofs.lemmas.List.Elements.{Contains-append_left, Contains-get_or}
use Rattle.std.proofs.lemmas.Map.Steps.{length-le_from_distinct_below}
use Rattle.std.proofs.lemmas.Map.Views.{Contains-from_any}
use Rattle.std.proofs.lemmas.Option.{slice_get_within, same_Some}
use Rattle.change_set.specs.trove-parts.declared.id.TroveId.{TroveId}
use Rattle.change_set.specs.trove-stream.declared.parts.TroveParts.{TroveParts}
use Rattle.update_job.specs.Gone.{IsPlace, Leads, LeadsPast}
use Rattle.update_job.specs.Places.{IsPlaceOfItem, HasAddedPlaces, HasAddedRefs, ArePlacesReached, HasSame, ArePlaces, name_of_id}
use Rattle.change_rel.specs.cny-base.Reach.{IsReachedIn}
use Rattle.change_rel.proofs.cny-base.Lists.{number_at}
use Rattle.change_rel.proofs.cny-base.Reaching.{reached_later}

-- ---- steps

-- where each step is a step of another kind, and each root a root of another kind
pub reached_also : {A : Type 0} (F G : A → A → Type 0) (R S : A → Type 0) → ((x y : A) → F x y → G x y) → ((x : A) → R x → S x) → (n : ℕ) (x : A) → IsReachedIn F R n x → IsReachedIn G S n x
reached_also F G R S steps roots zero x h = roots x h
reached_also F G R S steps roots (suc n) x h = ⊎_elim
    (λ sooner. inl (reached_also F G R S steps roots n x sooner))
    (λ last. inr (last.0, reached_also F G R S steps roots n last.0 last.1, steps last.0 x last.2))
    h

-- ---- what was gathered

-- places that are reached, each in at most as many steps as there are places before it; the first ones are among them, and those
-- to which the first `done` of them lead
pub record IsGathered (list : List TroveParts) (barred starts keys : List ℕ) (done : ℕ) : Type 0 where
  pub within : done ≤ length keys
  pub stand : (i : ℕ) → i < length keys → IsPlace list (get_or keys i 0)
  pub steps : (i : ℕ) → i < length keys → IsReachedIn (LeadsPast list (Contains barred)) (Contains starts) i (get_or keys i 0)
  pub starts_in : (place : ℕ) → Contains starts place → Contains keys place
  pub next_in : (i : ℕ) → i < done → (next : ℕ) → LeadsPast list (Contains barred) (get_or keys i 0) next → Contains keys next

-- places of the list, no two of them equal, are at most as many as its troves
pub places_fit : (list : List TroveParts) (keys : List ℕ) → IsDistinct eqb keys → ((i : ℕ) → i < length keys → IsPlace list (get_or keys i 0)) → length keys ≤ length list
places_fit list keys distinct stand = length-le_from_distinct_below keys (length list) distinct below
  where
    below : (q : ℕ) → list_any (eqb q) keys ≡ true → q < length list
    below q is =
        let at = number_at keys q (Contains-from_any eqb-true q keys is) in
        let here = stand at.0 at.1 in
        subst (λ (n : ℕ). n < length list) at.2 (slice_get_within list (get_or keys at.0 0) here.0 here.1)

module _ (list : List TroveParts) (barred starts : List ℕ) where
  -- a place behind those that were there is one of those that were added
  added_at : (ids : List TroveId) (old new : List ℕ) (i : ℕ) → HasAddedPlaces name_of_id list barred ids old new → length old ≤ i → i < length new → IsPlaceOfItem name_of_id list barred ids (get_or new i 0)
  added_at ids old new i added past within =
      let long : length new ≡ length old + length added.more = ap length added.new_is ∙ length-append old added.more in
      let behind : i - length old < length added.more = omega (arith, long, past, within) in
      let read : get_or new i 0 ≡ get_or added.more (i - length old) 0 =
      ap (λ (l : List ℕ). get_or l i 0) added.new_is ∙ get_or-append_right old added.more (length old) i 0 refl past in
      subst (λ (place : ℕ). IsPlaceOfItem name_of_id list barred ids place) (sym read) (added.each (get_or added.more (i - length old) 0) (Contains-get_or added.more (i - length old) 0 behind))

  -- the places that were there stay
  kept_at : (ids : List TroveId) (old new : List ℕ) (i : ℕ) → HasAddedPlaces name_of_id list barred ids old new → i < length old → get_or new i 0 ≡ get_or old i 0
  kept_at ids old new i added within = ap (λ (l : List ℕ). get_or l i 0) added.new_is ∙ get_or_append_left old added.more 0 i within

  still_in : (ids : List TroveId) (old new : List ℕ) (place : ℕ) → HasAddedPlaces name_of_id list barred ids old new → Contains old place → Contains new place
  still_in ids old new place added among = subst (λ (l : List ℕ). Contains l place) (sym added.new_is) (Contains-append_left old added.more place among)

  -- the first ones alone
  pub gathered_first : (keys : List ℕ) → ArePlaces list starts → HasSame starts keys → IsGathered list barred starts keys 0
  gathered_first keys stand same = record {
    within = omega arith;
    stand = λ i within. stand (get_or keys i 0) (same.back (get_or keys i 0) (Contains-get_or keys i 0 within));
    steps = λ i within.
        reached_later (LeadsPast list (Contains barred)) (Contains starts) 0 i (get_or keys i 0) (omega arith) (same.back (get_or keys i 0) (Contains-get_or keys i 0 within));
    starts_in = λ place among. same.there place among;
    next_in = λ i none. absurd (omega (arith, none));
  }

  -- and the references of one trove more
  pub gathered_more : (old new : List ℕ) (done : ℕ) → done < length old → IsGathered list barred starts old done → HasAddedRefs list barred (get_or old done 0) old new → IsGathered list barred starts new (done + 1)
  gathered_more old new done within so_far adds =
      let here = so_far.stand done within in
      let t = here.0 in
      let added = adds t here.1 in
      let long : length new ≡ length old + length added.more = ap length added.new_is ∙ length-append old added.more in
      let leads_to : (place : ℕ) → IsPlaceOfItem name_of_id list barred t.refs place → LeadsPast list (Contains barred) (get_or old done 0) place =
      λ place one. record {
        leads = record { trove = t; there = here.1; id = one.item; refers = one.among; named = one.place_of.place_of };
        free = one.place_of.free;
      } in
      let one_more : (i : ℕ) → done < i → (place : ℕ) → IsPlaceOfItem name_of_id list barred t.refs place → IsReachedIn (LeadsPast list (Contains barred)) (Contains starts) i place =
      λ i past place one.
      reached_later (LeadsPast list (Contains barred)) (Contains starts) (suc done) i place (omega (arith, past)) (inr (get_or old done 0, so_far.steps done within, leads_to place one)) in record {
        within = omega (arith, long, within);
        stand = λ i inside. elim (cases_lt i (length old)) [
          | inl before ↦ subst (IsPlace list) (sym (kept_at t.refs old new i added before)) (so_far.stand i before)
          | inr behind ↦ (
              let one = added_at t.refs old new i added behind inside in
              (one.place_of.place_of.trove, one.place_of.place_of.there))
        ];
        steps = λ i inside. elim (cases_lt i (length old)) [
          | inl before ↦ subst (IsReachedIn (LeadsPast list (Contains barred)) (Contains starts) i) (sym (kept_at t.refs old new i added before)) (so_far.steps i before)
          | inr behind ↦ one_more i (omega (arith, within, behind)) (get_or new i 0) (added_at t.refs old new i added behind inside)
        ];
        starts_in = λ place among. still_in t.refs old new place added (so_far.starts_in place among);
        next_in = λ i below next step. elim (cases_lt i done) [
          | inl before ↦
              still_in t.refs old new next added
              (so_far.next_in i before next (subst (λ (p : ℕ). LeadsPast list (Contains barred) p next) (kept_at t.refs old new i added (omega (arith, before, within))) step))
          | inr behind ↦ (
              let last : i ≡ done = omega (arith, below, behind) in
              let read : get_or new i 0 ≡ get_or old done 0 = ap (λ (k : ℕ). get_or new k 0) last ∙ kept_at t.refs old new done added within in
              let leads : Leads list (get_or old done 0) next = subst (λ (p : ℕ). Leads list p next) read step.leads in
              let one : leads.trove ≡ t = same_Some leads.trove t (sym leads.there ∙ here.1) in
              added.all leads.id next (subst (λ (v : TroveParts). Contains v.refs leads.id) one leads.refers) (record { place_of = leads.named; free = step.free }))
        ];
      }

  -- ---- the end of the search

  -- what is reached is among places that hold the first ones and with each place those to which it leads
  all_steps : (keys : List ℕ) → ((place : ℕ) → Contains starts place → Contains keys place)
      → ((place next : ℕ) → Contains keys place → LeadsPast list (Contains barred) place next → Contains keys next)
      → (n place : ℕ) → IsReachedIn (LeadsPast list (Contains barred)) (Contains starts) n place → Contains keys place
  all_steps keys starts_in closed zero place is = starts_in place is
  all_steps keys starts_in closed (suc n) place is = ⊎_elim
      (λ sooner. all_steps keys starts_in closed n place sooner)
      (λ step. closed step.0 place (all_steps keys starts_in closed n step.0 step.1) step.2)
      is

  pub gathered_all : (keys : List ℕ) (done : ℕ) → length keys ≤ done → IsDistinct eqb keys → IsGathered list barred starts keys done → ArePlacesReached list barred starts keys
  gathered_all keys done ended distinct gathered = record {
    reached = λ place among. (
        let i = number_at keys place among in
        let few = places_fit list keys distinct gathered.stand in
        subst (IsReachedIn (LeadsPast list (Contains barred)) (Contains starts) (length list)) i.2
        (reached_later (LeadsPast list (Contains barred)) (Contains starts) i.0 (length list) (get_or keys i.0 0) (omega (arith, i.1, few)) (gathered.steps i.0 i.1)));
    all = λ place is. all_steps keys gathered.starts_in closed (length list) place is;
  }
    where
      closed : (place next : ℕ) → Contains keys place → LeadsPast list (Contains barred) place next → Contains keys next
      closed place next among step =
          let i = number_at keys place among in
          gathered.next_in i.0 (omega (arith, i.1, ended)) next (subst (λ (p : ℕ). LeadsPast list (Contains barred) p next) (sym i.2) step)
