-- The places of the troves of one name more.
use Rattle.std.proofs.Common.{◌≡◌, ℕ, ⊎_elim, Bool, true, false, cond, List, [], ◌∷◌, ◌++◌, Contains, eqb, Some, None, refl, sym, ap, subst, ◌∙◌, append-nil, append_assoc}
use Rattle.std.specs.List.{list_any}
use Rattle.std.proofs.lemmas.Bool.{eqb-true}
use Rattle.std.proofs.lemmas.List.Elements.{Contains-append_left, Contains-push, Contains-push_cases}
use Rattle.std.proofs.lemmas.Map.Views.{Contains-from_any}
use Rattle.std.proofs.lemmas.Option.{none-some, same_Some}
use Rattle.change_set.specs.trove-parts.Places.{with_place}
use Rattle.change_set.specs.trove-stream.declared.parts.TroveParts.{TroveParts}
use Rattle.update_job.specs.Places.{IsOpenPlace, IsPlaceOfItem, HasAddedPlaces}
use Rattle.change_rel.proofs.cny-base.Lists.{nothing_in}

module _ {A : Type 0} (name_of : A → List ℕ) (list : List TroveParts) (barred : List ℕ) where
  pub adds_none : (old : List ℕ) → HasAddedPlaces name_of list barred [] old old
  adds_none old = record {
    more = [];
    new_is = sym (append-nil old);
    each = λ place among. absurd (nothing_in place among);
    all = λ item place among. absurd (nothing_in item among);
  }

  -- a place of one of the items before is one of one more item
  of_more : (seen : List A) (item : A) (place : ℕ) → IsPlaceOfItem name_of list barred seen place → IsPlaceOfItem name_of list barred (seen ++ item ∷ []) place
  of_more seen item place one = record { item = one.item; among = Contains-append_left seen (item ∷ []) one.item one.among; place_of = one.place_of }

  -- no trove has the name
  pub adds_nothing : (seen : List A) (item : A) (old new : List ℕ) → HasAddedPlaces name_of list barred seen old new → ((place : ℕ) → IsOpenPlace list barred (name_of item) place → None ≡ Some place)
      → HasAddedPlaces name_of list barred (seen ++ item ∷ []) old new
  adds_nothing seen item old new added none = record {
    more = added.more;
    new_is = added.new_is;
    each = λ place among. of_more seen item place (added.each place among);
    all = λ other place among is. ⊎_elim
        (λ before. added.all other place before is)
        (λ last. absurd (none-some place (none place (subst (λ (x : A). IsOpenPlace list barred (name_of x) place) (sym last) is))))
        (Contains-push_cases seen item other among);
  }

  -- the trove of the name stands at this place alone
  pub adds_place : (seen : List A) (item : A) (old new newer : List ℕ) (found : ℕ) → HasAddedPlaces name_of list barred seen old new → IsOpenPlace list barred (name_of item) found
      → ((place : ℕ) → IsOpenPlace list barred (name_of item) place → Some found ≡ Some place) → newer ≡ with_place new found
      → HasAddedPlaces name_of list barred (seen ++ item ∷ []) old newer
  adds_place seen item old new newer found added found_is only inserted = by (list_any (eqb found) new) refl inserted
    where
      all_in : ((place : ℕ) → Contains new place → Contains newer place) → Contains newer found → (other : A) (place : ℕ) → Contains (seen ++ item ∷ []) other → IsOpenPlace list barred (name_of other) place → Contains newer place
      all_in kept here other place among is = ⊎_elim
          (λ before. kept place (added.all other place before is))
          (λ last. subst (λ (n : ℕ). Contains newer n) (same_Some found place (only place (subst (λ (x : A). IsOpenPlace list barred (name_of x) place) (sym last) is))) here)
          (Contains-push_cases seen item other among)

      by : (b : Bool) → list_any (eqb found) new ≡ b → newer ≡ cond b new (new ++ found ∷ []) → HasAddedPlaces name_of list barred (seen ++ item ∷ []) old newer
      by true known same =
          let there : Contains newer found = subst (λ (l : List ℕ). Contains l found) (sym same) (Contains-from_any eqb-true found new known) in record {
            more = added.more;
            new_is = same ∙ added.new_is;
            each = λ place among. of_more seen item place (added.each place among);
            all = all_in (λ place among. subst (λ (l : List ℕ). Contains l place) (sym same) among) there;
          }
      by false unknown longer =
          let there : Contains newer found = subst (λ (l : List ℕ). Contains l found) (sym longer) (Contains-push new found) in record {
            more = added.more ++ found ∷ [];
            new_is = longer ∙ ap (λ (l : List ℕ). l ++ found ∷ []) added.new_is ∙ append_assoc old added.more (found ∷ []);
            each = λ place among. ⊎_elim
                (λ before. of_more seen item place (added.each place before))
                (λ last. record { item = item; among = Contains-push seen item; place_of = subst (λ (n : ℕ). IsOpenPlace list barred (name_of item) n) last found_is })
                (Contains-push_cases added.more found place among);
            all = all_in (λ place among. subst (λ (l : List ℕ). Contains l place) (sym longer) (Contains-append_left new (found ∷ []) place among)) there;
          }
