-- What is left of a list, by two searches.
use Rattle.std.proofs.Common.{◌≡◌, ℕ, zero, suc, ◌+◌, ◌<◌, ⊎_elim, inl, inr, Bool, true, false, cond, List, [], ◌∷◌, ◌++◌, length, Contains, eqb, refl, sym, subst, arith}
use Rattle.std.specs.List.{list_any}
use Rattle.std.proofs.lemmas.Bool.{eqb-true, cases_lt}
use Rattle.std.proofs.lemmas.List.Elements.{Contains-append_left, Contains-push, Contains-push_cases}
use Rattle.std.proofs.lemmas.Option.{slice_get_within}
use Rattle.std.proofs.lemmas.Map.Views.{Contains-from_any}
use Rattle.change_set.specs.trove-stream.declared.parts.TroveParts.{TroveParts}
use Rattle.update_job.specs.Gone.{IsPlace, Leads, LeadsPast, IsReached, IsOutside, IsKept, IsGone, IsLeft}
use Rattle.update_job.specs.Places.{ArePlacesReached, ArePlacesFrom, AreOthers, ArePlaces, ArePlacesLeft}
use Rattle.update_job.proofs.Elements.{apart, item_there}
use Rattle.update_job.proofs.Searching.{reached_also}
use Rattle.change_rel.specs.cny-base.Reach.{IsReachedIn}
use Rattle.change_rel.proofs.cny-base.Lists.{contains_cases, contains_first, nothing_in}
use Rattle.change_rel.proofs.cny-base.Reaching.{reached_later}

-- a place that is reached stands where the roots do
pub stands_reached : (list : List TroveParts) (IsBarred IsRoot : ℕ → Type 0) → ((place : ℕ) → IsRoot place → IsPlace list place) → (n place : ℕ) → IsReachedIn (LeadsPast list IsBarred) IsRoot n place → IsPlace list place
stands_reached list IsBarred IsRoot stand zero place is = stand place is
stands_reached list IsBarred IsRoot stand (suc n) place is = ⊎_elim
    (λ sooner. stands_reached list IsBarred IsRoot stand n place sooner)
    (λ step. (step.2.leads.named.trove, step.2.leads.named.there))
    is

-- ---- from one place

pub one_start : (start place : ℕ) → Contains (start ∷ []) place → place ≡ start
one_start start place among = ⊎_elim (λ same. sym same) (λ more. absurd (nothing_in place more)) (contains_cases start place [] among)

pub places_from_one : (list : List TroveParts) (start : ℕ) (places : List ℕ) → ArePlacesReached list [] (start ∷ []) places → ArePlacesFrom list start places
places_from_one list start places are = record {
  reached = λ place among.
      reached_also (LeadsPast list (Contains [])) (Leads list) (Contains (start ∷ [])) (λ (p : ℕ). p ≡ start) (λ x y step. step.leads) (one_start start) (length list) place (are.reached place among);
  all = λ place is.
      are.all place
      (reached_also (Leads list) (LeadsPast list (Contains [])) (λ (p : ℕ). p ≡ start) (Contains (start ∷ [])) (λ x y step. record { leads = step; free = λ none. nothing_in y none })
      (λ p same. subst (Contains (start ∷ [])) (sym same) (contains_first start [])) (length list) place is);
}

-- ---- from several

-- no root is kept
pub root_loose : (list : List TroveParts) (IsRoot : ℕ → Type 0) (n place : ℕ) → IsRoot place → IsReachedIn (LeadsPast list IsRoot) (IsOutside list IsRoot) n place → ⊥
root_loose list IsRoot zero place root is = is.is_not (reached_later (Leads list) IsRoot 0 (length list) place (omega arith) root)
root_loose list IsRoot (suc n) place root is = ⊎_elim (λ sooner. root_loose list IsRoot n place root sooner) (λ step. step.2.free root) is

pub root_goes : (list : List TroveParts) (IsRoot : ℕ → Type 0) (place : ℕ) → IsRoot place → IsGone list IsRoot place
root_goes list IsRoot place root = record {
  reached = reached_later (Leads list) IsRoot 0 (length list) place (omega arith) root;
  loose = λ kept. root_loose list IsRoot (length list) place root kept;
}

module _ (list : List TroveParts) (roots reached outside kept : List ℕ) (stand : ArePlaces list roots) (first : ArePlacesReached list [] roots reached) (others : AreOthers list reached outside)
    (second : ArePlacesReached list roots outside kept) where
  to_reached : (place : ℕ) → Contains reached place → IsReached list (Contains roots) place
  to_reached place among = reached_also (LeadsPast list (Contains [])) (Leads list) (Contains roots) (Contains roots) (λ x y step. step.leads) (λ x is. is) (length list) place (first.reached place among)

  from_reached : (place : ℕ) → IsReached list (Contains roots) place → Contains reached place
  from_reached place is =
      first.all place
      (reached_also (Leads list) (LeadsPast list (Contains [])) (Contains roots) (Contains roots) (λ x y step. record { leads = step; free = λ none. nothing_in y none }) (λ x root. root) (length list) place is)

  to_outside : (place : ℕ) → Contains outside place → IsOutside list (Contains roots) place
  to_outside place among = let other = others.each place among in record { stands = other.0; is_not = λ is. other.1 (from_reached place is) }

  from_outside : (place : ℕ) → IsOutside list (Contains roots) place → Contains outside place
  from_outside place is = others.all place is.stands (λ among. is.is_not (to_reached place among))

  to_kept : (place : ℕ) → Contains kept place → IsKept list (Contains roots) place
  to_kept place among =
      reached_also (LeadsPast list (Contains roots)) (LeadsPast list (Contains roots)) (Contains outside) (IsOutside list (Contains roots)) (λ x y step. step) to_outside (length list) place (second.reached place among)

  from_kept : (place : ℕ) → IsKept list (Contains roots) place → Contains kept place
  from_kept place is =
      second.all place
      (reached_also (LeadsPast list (Contains roots)) (LeadsPast list (Contains roots)) (IsOutside list (Contains roots)) (Contains outside) (λ x y step. step) from_outside (length list) place is)

  pub places_left_of : ArePlacesLeft list roots kept
  places_left_of = record {
    left = λ place among. record {
      stands = stands_reached list (Contains roots) (IsOutside list (Contains roots)) (λ other is. is.stands) (length list) place (to_kept place among);
      is_not = λ gone. gone.loose (to_kept place among);
    };
    all = λ place is. by place is (list_any (eqb place) kept) refl;
  }
    where
      by : (place : ℕ) → IsLeft list (Contains roots) place → (b : Bool) → list_any (eqb place) kept ≡ b → Contains kept place
      by place is true known = Contains-from_any eqb-true place kept known
      by place is false unknown = absurd (is.is_not (record { reached = in_reached (list_any (eqb place) reached) refl; loose = not_kept }))
        where
          not_kept : IsKept list (Contains roots) place → ⊥
          not_kept kept_is = apart kept place unknown (from_kept place kept_is)

          in_reached : (c : Bool) → list_any (eqb place) reached ≡ c → IsReached list (Contains roots) place
          in_reached true among = to_reached place (Contains-from_any eqb-true place reached among)
          in_reached false none =
              absurd (not_kept (reached_later (LeadsPast list (Contains roots)) (IsOutside list (Contains roots)) 0 (length list) place (omega arith)
              (record { stands = is.stands; is_not = λ reached_is. apart reached place none (from_reached place reached_is) })))

-- ---- the places that aren't among some others, one after the other

-- just the places before n that aren't among these
pub record OthersSoFar (places others : List ℕ) (n : ℕ) : Type 0 where
  pub below : (place : ℕ) → Contains others place → place < n
  pub each : (place : ℕ) → Contains others place → Contains places place → ⊥
  pub all : (place : ℕ) → place < n → (Contains places place → ⊥) → Contains others place

pub others_none : (places : List ℕ) → OthersSoFar places [] 0
others_none places = record {
  below = λ place among. absurd (nothing_in place among);
  each = λ place among. absurd (nothing_in place among);
  all = λ place below. absurd (omega (arith, below));
}

others_one : (places old : List ℕ) (n : ℕ) → OthersSoFar places old n → (b : Bool) → list_any (eqb n) places ≡ b → OthersSoFar places (cond b old (old ++ n ∷ [])) (n + 1)
others_one places old n so_far true known = record {
  below = λ place among. (let less = so_far.below place among in omega (arith, less));
  each = so_far.each;
  all = λ place below free. elim (cases_lt place n) [
    | inl less ↦ so_far.all place less free
    | inr most ↦ (let same : n ≡ place = omega (arith, below, most) in absurd (free (subst (Contains places) same (Contains-from_any eqb-true n places known))))
  ];
}
others_one places old n so_far false unknown = record {
  below = λ place among. ⊎_elim
      (λ before. (let less = so_far.below place before in omega (arith, less)))
      (λ last. omega (arith, last))
      (Contains-push_cases old n place among);
  each = λ place among. ⊎_elim
      (λ before. so_far.each place before)
      (λ last. (λ inside. apart places n unknown (subst (Contains places) (sym last) inside)))
      (Contains-push_cases old n place among);
  all = λ place below free. elim (cases_lt place n) [
    | inl less ↦ Contains-append_left old (n ∷ []) place (so_far.all place less free)
    | inr most ↦ (let same : n ≡ place = omega (arith, below, most) in subst (Contains (old ++ n ∷ [])) same (Contains-push old n))
  ];
}

pub others_more : (places old new : List ℕ) (n : ℕ) → OthersSoFar places old n → new ≡ cond (list_any (eqb n) places) old (old ++ n ∷ []) → OthersSoFar places new (n + 1)
others_more places old new n so_far is = subst (λ (l : List ℕ). OthersSoFar places l (n + 1)) (sym is) (others_one places old n so_far (list_any (eqb n) places) refl)

pub others_all : (list : List TroveParts) (places others : List ℕ) (n : ℕ) → n ≡ length list → OthersSoFar places others n → AreOthers list places others
others_all list places others n whole so_far = record {
  each = λ place among. (let below = so_far.below place among in (item_there list place (omega (arith, below, whole)), so_far.each place among));
  all = λ place stands free. (let within = slice_get_within list place stands.0 stands.1 in so_far.all place (omega (arith, within, whole)) free);
}

-- ---- other roots

-- where the same places are roots, the same places are left
module _ (list : List TroveParts) (R S : ℕ → Type 0) (to : (place : ℕ) → R place → S place) (back : (place : ℕ) → S place → R place) where
  reached_back : (place : ℕ) → IsReached list S place → IsReached list R place
  reached_back place is = reached_also (Leads list) (Leads list) S R (λ x y step. step) back (length list) place is

  kept_to : (place : ℕ) → IsKept list R place → IsKept list S place
  kept_to place is =
      reached_also (LeadsPast list R) (LeadsPast list S) (IsOutside list R) (IsOutside list S) (λ x y step. record { leads = step.leads; free = λ barred. step.free (back y barred) })
      (λ x other. record { stands = other.stands; is_not = λ reached. other.is_not (reached_back x reached) }) (length list) place is

  pub left_also : (place : ℕ) → IsLeft list R place → IsLeft list S place
  left_also place is = record {
    stands = is.stands;
    is_not = λ gone. is.is_not (record { reached = reached_back place gone.reached; loose = λ kept. gone.loose (kept_to place kept) });
  }
