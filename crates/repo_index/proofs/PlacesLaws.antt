-- What is found among the items at some places, place by place.
use Rattle.std.specs.Prelude.{◌≡◌, ℕ, Bool, true, false, cond, List, [], ◌∷◌, ◌++◌, filter, slice_get, Option, Some, None, refl}
use Rattle.std.specs.List.{cons_option, filter_map, last_or}
use Rattle.std.proofs.Common.{ap, ◌∙◌, append-nil}
use Rattle.std.proofs.lemmas.List.Elements.{filter_map-append, filter-append}

-- the last of a list with one item more
pub last_or-push : {A : Type 0} (o : Option A) (xs : List A) (y : A) → last_or o (xs ++ y ∷ []) ≡ Some y
last_or-push o [] y = refl
last_or-push o (x ∷ xs) y = last_or-push (Some x) xs y

module _ {A : Type 0} (xs : List A) where
  -- the items at some places
  abbrev pub at : List ℕ → List A
  at places = filter_map (slice_get xs) places

  pub at-push : (places : List ℕ) (place : ℕ) → at (places ++ place ∷ []) ≡ at places ++ cons_option (slice_get xs place) []
  at-push places place = filter_map-append (slice_get xs) places (place ∷ [])

  module _ (test : A → Bool) where
    -- ---- the last that passes, from the back

    pub last_at-none : (places : List ℕ) (place : ℕ) → slice_get xs place ≡ None → last_or None (filter test (at (places ++ place ∷ []))) ≡ last_or None (filter test (at places))
    last_at-none places place none =
        ap (λ (l : List A). last_or None (filter test l)) (at-push places place ∙ ap (λ (o : Option A). at places ++ cons_option o []) none ∙ append-nil (at places))

    pub passing-push : (places : List ℕ) (place : ℕ) (x : A) → slice_get xs place ≡ Some x → filter test (at (places ++ place ∷ [])) ≡ filter test (at places) ++ cond (test x) (x ∷ []) []
    passing-push places place x some =
        ap (filter test) (at-push places place ∙ ap (λ (o : Option A). at places ++ cons_option o []) some) ∙ filter-append test (at places) (x ∷ [])

    pub last_at-other : (places : List ℕ) (place : ℕ) (x : A) → slice_get xs place ≡ Some x → test x ≡ false
        → last_or None (filter test (at (places ++ place ∷ []))) ≡ last_or None (filter test (at places))
    last_at-other places place x some fails =
        ap (last_or None) (passing-push places place x some ∙ ap (λ (b : Bool). filter test (at places) ++ cond b (x ∷ []) []) fails ∙ append-nil (filter test (at places)))

    pub last_at-found : (places : List ℕ) (place : ℕ) (x : A) → slice_get xs place ≡ Some x → test x ≡ true → last_or None (filter test (at (places ++ place ∷ []))) ≡ Some x
    last_at-found places place x some passes =
        ap (last_or None) (passing-push places place x some ∙ ap (λ (b : Bool). filter test (at places) ++ cond b (x ∷ []) []) passes) ∙ last_or-push None (filter test (at places)) x
