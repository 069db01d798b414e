-- The places of the troves of one id more.
use Rattle.std.proofs.Common.{◌≡◌, ℕ, ⊎_elim, Bool, true, false, cond, List, [], ◌∷◌, ◌++◌, Contains, eqb, Some, None, refl, sym, ap, subst, ◌∙◌, append_assoc}
use Rattle.std.specs.List.{list_any}
use Rattle.std.proofs.lemmas.Bool.{eqb-true}
use Rattle.std.proofs.lemmas.List.Elements.{Contains-append_left, Contains-push, Contains-push_cases}
use Rattle.std.proofs.lemmas.Map.Views.{Contains-from_any}
use Rattle.std.proofs.lemmas.Option.{none-some, same_Some}
use Rattle.repo_index.specs.trove-parts.Places.{with_place}
use Rattle.repo_index.specs.trove-parts.declared.id.TroveId.{TroveId}
use Rattle.repo_index.specs.trove-stream.declared.parts.TroveParts.{TroveParts}
use Rattle.repo_index.specs.Places.{IsPlaceOf}
use Rattle.trove_spec.specs.Reached.{IsPlaceOfOne, HasAddedPlaces}

module _ (troves : List TroveParts) where
  -- a place of one of the ids before is one of one more id
  of_more : (seen : List TroveId) (id : TroveId) (place : ℕ) → IsPlaceOfOne troves seen place → IsPlaceOfOne troves (seen ++ id ∷ []) place
  of_more seen id place one = record { id = one.id; among = Contains-append_left seen (id ∷ []) one.id one.among; place_of = one.place_of }

  -- no trove has the id
  pub adds_nothing : (seen : List TroveId) (id : TroveId) (old new : List ℕ) → HasAddedPlaces troves seen old new → ((place : ℕ) → IsPlaceOf troves id place → None ≡ Some place)
      → HasAddedPlaces troves (seen ++ id ∷ []) old new
  adds_nothing seen id old new added none = record {
    more = added.more;
    new_is = added.new_is;
    each = λ place among. of_more seen id place (added.each place among);
    all = λ other place among is. ⊎_elim
        (λ before. added.all other place before is)
        (λ last. absurd (none-some place (none place (subst (λ (i : TroveId). IsPlaceOf troves i place) (sym last) is))))
        (Contains-push_cases seen id other among);
  }

  -- the trove of the id stands at this place alone
  pub adds_place : (seen : List TroveId) (id : TroveId) (old new newer : List ℕ) (found : ℕ) → HasAddedPlaces troves seen old new → IsPlaceOf troves id found
      → ((place : ℕ) → IsPlaceOf troves id place → Some found ≡ Some place) → newer ≡ with_place new found → HasAddedPlaces troves (seen ++ id ∷ []) old newer
  adds_place seen id old new newer found added found_is only inserted = by (list_any (eqb found) new) refl inserted
    where
      all_in : ((place : ℕ) → Contains new place → Contains newer place) → Contains newer found → (other : TroveId) (place : ℕ) → Contains (seen ++ id ∷ []) other → IsPlaceOf troves other place → Contains newer place
      all_in kept here other place among is = ⊎_elim
          (λ before. kept place (added.all other place before is))
          (λ last. subst (λ (n : ℕ). Contains newer n) (same_Some found place (only place (subst (λ (i : TroveId). IsPlaceOf troves i place) (sym last) is))) here)
          (Contains-push_cases seen id other among)

      by : (b : Bool) → list_any (eqb found) new ≡ b → newer ≡ cond b new (new ++ found ∷ []) → HasAddedPlaces troves (seen ++ id ∷ []) old newer
      by true known same =
          let there : Contains newer found = subst (λ (l : List ℕ). Contains l found) (sym same) (Contains-from_any eqb-true found new known) in record {
            more = added.more;
            new_is = same ∙ added.new_is;
            each = λ place among. of_more seen id place (added.each place among);
            all = all_in (λ place among. subst (λ (l : List ℕ). Contains l place) (sym same) among) there;
          }
      by false unknown longer =
          let there : Contains newer found = subst (λ (l : List ℕ). Contains l found) (sym longer) (Contains-push new found) in record {
            more = added.more ++ found ∷ [];
            new_is = longer ∙ ap (λ (l : List ℕ). l ++ found ∷ []) added.new_is ∙ append_assoc old added.more (found ∷ []);
            each = λ place among. ⊎_elim
                (λ before. of_more seen id place (added.each place before))
                (λ last. record { id = id; among = Contains-push seen id; place_of = subst (λ (n : ℕ). IsPlaceOf troves id n) last found_is })
                (Contains-push_cases added.more found place among);
            all = all_in (λ place among. subst (λ (l : List ℕ). Contains l place) (sym longer) (Contains-append_left new (found ∷ []) place among)) there;
          }
