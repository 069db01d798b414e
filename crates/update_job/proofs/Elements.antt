-- Items of lists, and sets of places.
use Rattle.std.proofs.Common.{◌≡◌, ℕ, ◌+◌, ◌<◌, ◌⊎◌, ⊎_elim, inl, Bool, true, false, cond, List, [], ◌∷◌, ◌++◌, length, get_or, take, slice_get, Contains, eqb, true≢false, Some, refl, sym, ap, subst, ◌∙◌, arith}
use Rattle.std.specs.List.{list_any}
use Rattle.std.proofs.lemmas.Bool.{eqb-true, eq-eqb}
use Rattle.std.proofs.lemmas.List.{take_more}
use Rattle.std.proofs.lemmas.List.Elements.{Contains-append_left, Contains-push, Contains-push_cases}
use Rattle.std.proofs.lemmas.Map.Keys.{any_passes_from_place}
use Rattle.std.proofs.lemmas.Map.Views.{Contains-from_any}
use Rattle.std.proofs.lemmas.Option.{slice_get-get_or}
use Rattle.change_set.specs.trove-parts.Places.{with_place}
use Rattle.update_job.specs.Places.{HasSame}
use Rattle.change_rel.proofs.cny-base.Lists.{place_in}

-- a place of a list has an item
pub item_there : {A : Type 0} (xs : List A) (i : ℕ) → i < length xs → (x : A) × (slice_get xs i ≡ Some x)
item_there [] i within = absurd (omega (arith, within))
item_there (x ∷ xs) i within = (get_or (x ∷ xs) i x, slice_get-get_or (x ∷ xs) i x within)

-- the first items and the next one
module _ {A : Type 0} (xs : List A) (i : ℕ) (d x : A) (within : i < length xs) (is : x ≡ get_or xs i d) where
  one_more : take (i + 1) xs ≡ take i xs ++ x ∷ []
  one_more = take_more xs i d within ∙ ap (λ (z : A). take i xs ++ z ∷ []) (sym is)

  pub in_more : (y : A) → Contains (take (i + 1) xs) y → Contains (take i xs) y ⊎ (x ≡ y)
  in_more y among = Contains-push_cases (take i xs) x y (subst (λ (l : List A). Contains l y) one_more among)

  pub more_in : (y : A) → Contains (take i xs) y → Contains (take (i + 1) xs) y
  more_in y among = subst (λ (l : List A). Contains l y) (sym one_more) (Contains-append_left (take i xs) (x ∷ []) y among)

  pub next_in : Contains (take (i + 1) xs) x
  next_in = subst (λ (l : List A). Contains l x) (sym one_more) (Contains-push (take i xs) x)

-- ---- a key inserted in a set

at_key : (keys : List ℕ) (key : ℕ) (b : Bool) → list_any (eqb key) keys ≡ b → (other : ℕ) → Contains (cond b keys (keys ++ key ∷ [])) other → Contains keys other ⊎ (key ≡ other)
at_key keys key true known other among = inl among
at_key keys key false unknown other among = Contains-push_cases keys key other among

pub in_inserted : (keys : List ℕ) (key other : ℕ) → Contains (with_place keys key) other → Contains keys other ⊎ (key ≡ other)
in_inserted keys key other among = at_key keys key (list_any (eqb key) keys) refl other among

kept_key : (keys : List ℕ) (key : ℕ) (b : Bool) → list_any (eqb key) keys ≡ b → (other : ℕ) → Contains keys other → Contains (cond b keys (keys ++ key ∷ [])) other
kept_key keys key true known other among = among
kept_key keys key false unknown other among = Contains-append_left keys (key ∷ []) other among

pub inserted_keeps : (keys : List ℕ) (key other : ℕ) → Contains keys other → Contains (with_place keys key) other
inserted_keeps keys key other among = kept_key keys key (list_any (eqb key) keys) refl other among

own_key : (keys : List ℕ) (key : ℕ) (b : Bool) → list_any (eqb key) keys ≡ b → Contains (cond b keys (keys ++ key ∷ [])) key
own_key keys key true known = Contains-from_any eqb-true key keys known
own_key keys key false unknown = Contains-push keys key

pub inserted_in : (keys : List ℕ) (key : ℕ) → Contains (with_place keys key) key
inserted_in keys key = own_key keys key (list_any (eqb key) keys) refl

-- ---- a place that isn't in a set

pub apart : (keys : List ℕ) (place : ℕ) → list_any (eqb place) keys ≡ false → Contains keys place → ⊥
apart keys place none among =
    let at = place_in keys place among in
    true≢false (sym (any_passes_from_place (eqb place) keys at.0 place at.2 (eq-eqb place place refl)) ∙ none)

-- ---- the first of some places as a set

-- one place more is inserted
pub same_more : (places : List ℕ) (i : ℕ) (old new : List ℕ) → i < length places → HasSame (take i places) old → new ≡ with_place old (get_or places i 0) → HasSame (take (i + 1) places) new
same_more places i old new within same inserted =
    let key = get_or places i 0 in record {
      there = λ place among. subst (λ (l : List ℕ). Contains l place) (sym inserted) (⊎_elim
          (λ before. inserted_keeps old key place (same.there place before))
          (λ last. subst (λ (n : ℕ). Contains (with_place old key) n) last (inserted_in old key))
          (in_more places i 0 key within refl place among));
      back = λ place among. ⊎_elim
          (λ before. more_in places i 0 key within refl place (same.back place before))
          (λ last. subst (λ (n : ℕ). Contains (take (i + 1) places) n) last (next_in places i 0 key within refl))
          (in_inserted old key place (subst (λ (l : List ℕ). Contains l place) inserted among));
    }
