-- The trove that is chosen among candidates.
use Rattle.std.proofs.Common.{◌≡◌, ℕ, Bool, true, false, cond, ◌&&◌, List, [], ◌∷◌, ◌++◌, filter, slice_get, Option, Some, None, refl, ap, ◌∙◌, append-nil, option_and_then}
use Rattle.std.specs.List.{last_or, cons_option}
use Rattle.std.proofs.lemmas.Grind.{fold-append}
use Rattle.cny_dep.specs.declared.parts.Parts.{Parts}
use Rattle.cny_version.specs.Label.{LabelParts}
use Rattle.cny_version.specs.Version.{WholeVersion}
use Rattle.repo_index.specs.trove-stream.declared.parts.TroveParts.{TroveParts}
use Rattle.repo_index.specs.Places.{troves_at}
use Rattle.repo_index.proofs.PlacesLaws.{at, at-push, passing-push}
use Rattle.trove_spec.specs.Resolve.{better_of, best, kept, chosen_of, of_version, candidates_of, is_candidate, has_version, is_wanted}

-- one item more
pub best-push : (system : Parts) (xs : List TroveParts) (t : TroveParts) → best system (xs ++ t ∷ []) ≡ Some (kept system (best system xs) t)
best-push system [] t = refl
best-push system (x ∷ xs) t = ap (λ (o : TroveParts). Some o) (fold-append (better_of system) x xs (t ∷ []))

filtered_one : {A : Type 0} (p q : A → Bool) (xs : List A) (x : A) → filter q (filter p xs) ≡ filter (λ y. q y && p y) xs → (a b : Bool) → q x ≡ b
    → filter q (cond a (x ∷ filter p xs) (filter p xs)) ≡ cond (b && a) (x ∷ filter (λ y. q y && p y) xs) (filter (λ y. q y && p y) xs)
filtered_one {A} p q xs x rest true true is = ap (λ (c : Bool). cond c (x ∷ filter q (filter p xs)) (filter q (filter p xs))) is ∙ ap (λ (l : List A). x ∷ l) rest
filtered_one {A} p q xs x rest true false is = ap (λ (c : Bool). cond c (x ∷ filter q (filter p xs)) (filter q (filter p xs))) is ∙ rest
filtered_one {A} p q xs x rest false true is = rest
filtered_one {A} p q xs x rest false false is = rest

-- items that pass two tests, one after the other
pub filter-filter : {A : Type 0} (p q : A → Bool) (xs : List A) → filter q (filter p xs) ≡ filter (λ x. q x && p x) xs
filter-filter p q [] = refl
filter-filter p q (x ∷ xs) = filtered_one p q xs x (filter-filter p q xs) (p x) (q x) refl

module _ (system : Parts) (test : TroveParts → Bool) (troves : List TroveParts) (places : List ℕ) (place : ℕ) where
  pub best_at-none : slice_get troves place ≡ None → best system (filter test (troves_at troves (places ++ place ∷ []))) ≡ best system (filter test (troves_at troves places))
  best_at-none none =
      ap (λ (l : List TroveParts). best system (filter test l))
      (at-push troves places place ∙ ap (λ (o : Option TroveParts). at troves places ++ cons_option o []) none ∙ append-nil (at troves places))

  pub best_at-other : (x : TroveParts) → slice_get troves place ≡ Some x → test x ≡ false
      → best system (filter test (troves_at troves (places ++ place ∷ []))) ≡ best system (filter test (troves_at troves places))
  best_at-other x some fails =
      ap (best system)
      (passing-push troves test places place x some ∙ ap (λ (b : Bool). filter test (at troves places) ++ cond b (x ∷ []) []) fails ∙ append-nil (filter test (at troves places)))

  pub best_at-found : (x : TroveParts) → slice_get troves place ≡ Some x → test x ≡ true
      → best system (filter test (troves_at troves (places ++ place ∷ []))) ≡ Some (kept system (best system (filter test (troves_at troves places))) x)
  best_at-found x some passes =
      ap (best system) (passing-push troves test places place x some ∙ ap (λ (b : Bool). filter test (at troves places) ++ cond b (x ∷ []) []) passes)
      ∙ best-push system (filter test (troves_at troves places)) x

-- the candidates of the newest version are those that pass both tests
pub wanted_are : (label : Option LabelParts) (version : Option WholeVersion) (system : Parts) (newest : WholeVersion) (troves : List TroveParts)
    → of_version newest (candidates_of label version system troves) ≡ filter (is_wanted label version system newest) troves
wanted_are label version system newest troves =
    filter-filter (is_candidate label version system) (has_version newest) troves

pub chosen_is : (system : Parts) (candidates : List TroveParts) (last : TroveParts) → last_or None candidates ≡ Some last
    → chosen_of system candidates ≡ best system (of_version last.id.version candidates)
chosen_is system candidates last some = ap (option_and_then (λ (t : TroveParts). best system (of_version t.id.version candidates))) some
