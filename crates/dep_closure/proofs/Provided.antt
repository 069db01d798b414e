-- What a trove provides.
use Rattle.std.proofs.Common.{◌≡◌, ℕ, ⊎_elim, List, [], ◌∷◌, All, Contains, refl, sym, subst}
use Rattle.std.proofs.lemmas.List.Elements.{All-head, All-nil}
use Rattle.cny_dep.specs.Dep.{Dependency}
use Rattle.cny_dep.specs.Satisfies.{Satisfies}
use Rattle.dep_closure.specs.Closed.{IsSatisfiedBy}
use Rattle.trove_stream.proofs.cny-base.Lists.{contains_first as first, contains_cases as first_or_later, contains_rest as later, nothing_in}

-- ---- flags

pub no_flags : (flags : List (List ℕ)) → flags ≡ [] → All (Contains []) flags
no_flags flags none = subst (All (Contains [])) (sym none) (All-nil (Contains []))

pub flags_of_none : (flags : List (List ℕ)) → All (Contains []) flags → flags ≡ []
flags_of_none [] all = refl
flags_of_none (f ∷ flags) all = absurd (nothing_in f (All-head (Contains []) f flags all))

-- ---- one more provide

pub by_first : (p : Dependency) (provides : List Dependency) (dep : Dependency) → Satisfies p dep → IsSatisfiedBy (p ∷ provides) dep
by_first p provides dep is = record { provide = p; provided = first p provides; satisfies = is }

pub by_later : (p : Dependency) (provides : List Dependency) (dep : Dependency) → (q : Dependency) × Contains provides q × Satisfies q dep → IsSatisfiedBy (p ∷ provides) dep
by_later p provides dep (q, provided, is) = record { provide = q; provided = later p q provides provided; satisfies = is }

pub by_rest : (p : Dependency) (provides : List Dependency) (dep : Dependency) → (Satisfies p dep → ⊥) → IsSatisfiedBy (p ∷ provides) dep → (q : Dependency) × Contains provides q × Satisfies q dep
by_rest p provides dep not_first is = ⊎_elim
    (λ same. absurd (not_first (subst (λ (q : Dependency). Satisfies q dep) (sym same) is.satisfies)))
    (λ there. (is.provide, there, is.satisfies))
    (first_or_later p is.provide provides is.provided)
