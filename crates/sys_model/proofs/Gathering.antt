-- The places that more roots reach.
use Rattle.std.proofs.Common.{◌≡◌, ℕ, ◌+◌, ◌-◌, ◌<◌, ◌≤◌, ⊎_elim, inl, inr, List, [], ◌++◌, length, get_or, slice_get, Contains, eqb, refl, sym, ap, subst, ◌∙◌, arith, length-append, append_assoc, append-nil}
use Rattle.std.specs.List.{IsDistinct}
use Rattle.std.proofs.lemmas.Bool.{cases_lt}
use Rattle.std.proofs.lemmas.List.{get_or_append_left, get_or-append_right}
use Rattle.std.proofs.lemmas.List.Elements.{Contains-append_cases, Contains-append_left, Contains-append_right, Contains-get_or}
use Rattle.repo_index.specs.cny-base.Reach.{IsReachedIn}
use Rattle.repo_index.specs.trove-parts.declared.id.TroveId.{TroveId}
use Rattle.repo_index.specs.trove-stream.declared.parts.TroveParts.{TroveParts}
use Rattle.repo_index.proofs.cny-base.Reaching.{reached_later}
use Rattle.trove_spec.specs.Expansion.{Refers}
use Rattle.trove_spec.specs.Reached.{IsPlaceOfOne, HasAddedPlaces, HasAddedRefs, ArePlacesReached}
use Rattle.trove_spec.proofs.Reaching as search
use Rattle.update_job.proofs.Searching.{reached_also}
use Rattle.sys_model.specs.Growing.{StandsReached, AreGathered, HasMore}

-- ---- the search from roots that are given

module _ (troves : List TroveParts) (roots : List TroveId) where
  to_stands : (n place : ℕ) → StandsReached troves roots n place → search.StandsReached troves roots n place
  to_stands n place is = record { trove = is.trove; stands = is.stands; reached = is.reached }

  from_stands : (n place : ℕ) → search.StandsReached troves roots n place → StandsReached troves roots n place
  from_stands n place is = record { trove = is.trove; stands = is.stands; reached = is.reached }

  to_search : (places : List ℕ) (done : ℕ) → AreGathered troves roots places done → search.IsGathered troves roots places done
  to_search places done is = record {
    within = is.within;
    steps = λ i below. to_stands i (get_or places i 0) (is.steps i below);
    roots_in = is.roots_in;
    refs_in = is.refs_in;
  }

  from_search : (places : List ℕ) (done : ℕ) → search.IsGathered troves roots places done → AreGathered troves roots places done
  from_search places done is = record {
    within = is.within;
    steps = λ i below. from_stands i (get_or places i 0) (is.steps i below);
    roots_in = is.roots_in;
    refs_in = is.refs_in;
  }

  pub gathered_more : (old new : List ℕ) (done : ℕ) → done < length old → AreGathered troves roots old done → HasAddedRefs troves (get_or old done 0) old new → AreGathered troves roots new (done + 1)
  gathered_more old new done within so_far adds = from_search new (done + 1) (search.gathered_more troves roots old new done within (to_search old done so_far) adds)

  pub places_fit : (places : List ℕ) (done : ℕ) → IsDistinct eqb places → AreGathered troves roots places done → length places ≤ length troves
  places_fit places done distinct is = search.places_fit troves roots places distinct (to_search places done is).steps

  pub gathered_all : (places : List ℕ) → IsDistinct eqb places → AreGathered troves roots places (length places) → ArePlacesReached troves roots places
  gathered_all places distinct is = search.gathered_all troves roots places (length places) (omega arith) distinct (to_search places (length places) is)

  pub none_gathered : roots ≡ [] → AreGathered troves roots [] 0
  none_gathered none = record {
    within = omega arith;
    steps = λ i below. absurd (omega (arith, below));
    roots_in = λ id place among is. absurd (no_root id among);
    refs_in = λ i below. absurd (omega (arith, below));
  }
    where
      no_root : (id : TroveId) → Contains roots id → ⊥
      no_root id among = (let within = (subst (λ (l : List TroveId). Contains l id) none among).1 in omega (arith, within))

-- ---- more roots

module _ (troves : List TroveParts) (front more : List TroveId) (old new : List ℕ) (added : HasAddedPlaces troves more old new) where
  long : length new ≡ length old + length added.more
  long = ap length added.new_is ∙ length-append old added.more

  kept_at : (i : ℕ) → i < length old → get_or new i 0 ≡ get_or old i 0
  kept_at i within = ap (λ (l : List ℕ). get_or l i 0) added.new_is ∙ get_or_append_left old added.more 0 i within

  still_in : (place : ℕ) → Contains old place → Contains new place
  still_in place among = subst (λ (l : List ℕ). Contains l place) (sym added.new_is) (Contains-append_left old added.more place among)

  added_at : (i : ℕ) → length old ≤ i → i < length new → IsPlaceOfOne troves more (get_or new i 0)
  added_at i past within =
      let behind : i - length old < length added.more = omega (arith, long, past, within) in
      let read : get_or new i 0 ≡ get_or added.more (i - length old) 0 =
      ap (λ (l : List ℕ). get_or l i 0) added.new_is ∙ get_or-append_right old added.more (length old) i 0 refl past in
      subst (λ (place : ℕ). IsPlaceOfOne troves more place) (sym read) (added.each (get_or added.more (i - length old) 0) (Contains-get_or added.more (i - length old) 0 behind))

  also : (n : ℕ) (id : TroveId) → IsReachedIn (Refers troves) (Contains front) n id → IsReachedIn (Refers troves) (Contains (front ++ more)) n id
  also n id is = reached_also (Refers troves) (Refers troves) (Contains front) (Contains (front ++ more)) (λ x y step. step) (λ x among. Contains-append_left front more x among) n id is

  own : (place n : ℕ) → IsPlaceOfOne troves more place → StandsReached troves (front ++ more) n place
  own place n one = record {
    trove = one.place_of.trove;
    stands = one.place_of.stands;
    reached = reached_later (Refers troves) (Contains (front ++ more)) 0 n one.place_of.trove.id (omega arith)
        (subst (Contains (front ++ more)) (sym one.place_of.id_is) (in_more one.id one.among));
  }
    where
      in_more : (id : TroveId) → Contains more id → Contains (front ++ more) id
      in_more id among = Contains-append_right front more id among

  pub gathered_roots : AreGathered troves front old (length old) → AreGathered troves (front ++ more) new (length old)
  gathered_roots so_far = record {
    within = omega (arith, long);
    steps = λ i within. elim (cases_lt i (length old)) [
      | inl before ↦ (
          let here = so_far.steps i before in
          subst (λ (place : ℕ). StandsReached troves (front ++ more) i place) (sym (kept_at i before)) (record { trove = here.trove; stands = here.stands; reached = also i here.trove.id here.reached }))
      | inr behind ↦ own (get_or new i 0) i (added_at i behind within)
    ];
    roots_in = λ id place among is. ⊎_elim
        (λ first. still_in place (so_far.roots_in id place first is))
        (λ later. added.all id place later is)
        (Contains-append_cases front more id among);
    refs_in = λ i below t u next at there refers. still_in next (so_far.refs_in i below t u next (ap (slice_get troves) (sym (kept_at i below)) ∙ at) there refers);
  }

-- ---- what stands first

abbrev pub more_first : {A : Type 0} (old : List A) → HasMore old old
more_first old = record { more = []; new_is = sym (append-nil old) }

abbrev pub more_then : {A : Type 0} (old mid new more : List A) → HasMore old mid → new ≡ mid ++ more → HasMore old new
more_then old mid new more first is = record { more = first.more ++ more; new_is = is ∙ ap (λ l. l ++ more) first.new_is ∙ append_assoc old first.more more }

pub added_more : (troves : List TroveParts) (ids : List TroveId) (old new : List ℕ) → HasAddedPlaces troves ids old new → HasMore old new
added_more troves ids old new added = record { more = added.more; new_is = added.new_is }

pub refs_more : (troves : List TroveParts) (roots : List TroveId) (first old new : List ℕ) (done : ℕ) → done < length old → AreGathered troves roots old done → HasAddedRefs troves (get_or old done 0) old new
    → HasMore first old → HasMore first new
refs_more troves roots first old new done within gathered adds more =
    let here = gathered.steps done within in
    let added = adds here.trove here.stands in
    more_then first old new added.more more added.new_is
