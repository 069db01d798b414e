-- What the search for the latest trove finds.
use Rattle.std.proofs.Common.{◌≡◌, ◌⊎◌, ⊎_elim, inl, inr, Bool, true, false, cond, List, [], ◌∷◌, Option, Some, None, refl, sym, ap, ◌∙◌}
use Rattle.std.specs.List.{filter, last_or}
use Rattle.std.proofs.lemmas.Option.{none-some, same_Some}

-- the last of those that pass two tests, or what was there before
module _ {A : Type 0} (p q : A → Bool) where
  abbrev pub passes : A → Type 0
  passes t = (p t ≡ true) × (q t ≡ true)

  -- what is searched among the rest
  abbrev pub Ends : List A → Option A → A → Type 0
  Ends ys o t = last_or o ys ≡ Some t → (o ≡ Some t) ⊎ passes t

  pub first_step : (x : A) (ys : List A) (o : Option A) (t : A) → q x ≡ true → ((o' : Option A) → Ends ys o' t) → (b : Bool) → p x ≡ b → last_or o (cond b (x ∷ ys) ys) ≡ Some t → (o ≡ Some t) ⊎ passes t
  first_step x ys o t second rest true first is = ⊎_elim
      (λ here. (let same = same_Some x t here in inr (ap p (sym same) ∙ first, ap q (sym same) ∙ second)))
      (λ later. inr later)
      (rest (Some x) is)
  first_step x ys o t second rest false first is = rest o is

  pub second_step : (x : A) (xs : List A) (o : Option A) (t : A) → ((o' : Option A) → Ends (filter p (filter q xs)) o' t) → (a : Bool) → q x ≡ a → last_or o (filter p (cond a (x ∷ filter q xs) (filter q xs))) ≡ Some t → (o ≡ Some t) ⊎ passes t
  second_step x xs o t rest true second is = first_step x (filter p (filter q xs)) o t second rest (p x) refl is
  second_step x xs o t rest false second is = rest o is

  pub last_passes : (xs : List A) (o : Option A) (t : A) → last_or o (filter p (filter q xs)) ≡ Some t → (o ≡ Some t) ⊎ passes t
  last_passes [] o t is = inl is
  last_passes (x ∷ xs) o t is = second_step x xs o t (λ o'. last_passes xs o' t) (q x) refl is

  pub last_found : (xs : List A) (t : A) → last_or None (filter p (filter q xs)) ≡ Some t → (p t ≡ true) × (q t ≡ true)
  last_found xs t is = ⊎_elim (λ none. absurd (none-some t none)) (λ found. found) (last_passes xs None t is)
