-- Places beside names, one more at a time.
use Rattle.std.proofs.Common.{◌≡◌, ℕ, ◌+◌, ◌<◌, Bool, cond, List, [], ◌∷◌, ◌++◌, length, get_or, take, Contains, sym, ap, ◌∙◌, subst, ⊎_elim}
use Rattle.std.specs.Str.{bytes_eq}
use Rattle.std.proofs.lemmas.List.Elements.{Contains-append_left, Contains-push}
use Rattle.cny_dep.specs.Dep.{Dependency}
use Rattle.repo_index.proofs.cny-base.ByteLists.{bytes_itself}
use Rattle.repo_index.proofs.cny-base.Lists.{contains_cases}
use Rattle.update_job.proofs.Elements.{in_more}

-- ---- one name

-- the places beside each name, before and after one was added beside this one
module _ (P Q : List ℕ → List ℕ) (name : List ℕ) (place : ℕ) (added : (other : List ℕ) → Q other ≡ P other ++ cond (bytes_eq name other) (place ∷ []) []) where
  pub kept_added : (other : List ℕ) (q : ℕ) → Contains (P other) q → Contains (Q other) q
  kept_added other q h = subst (λ (l : List ℕ). Contains l q) (sym (added other)) (Contains-append_left (P other) (cond (bytes_eq name other) (place ∷ []) []) q h)

  pub own_added : Contains (Q name) place
  own_added =
      subst (λ (l : List ℕ). Contains l place) (sym (added name ∙ ap (λ (b : Bool). P name ++ cond b (place ∷ []) []) (bytes_itself name))) (Contains-push (P name) place)

-- ---- several

-- the place stands beside the name of each of these
abbrev pub IsBeside : (List ℕ → List ℕ) → List Dependency → ℕ → Type 0
IsBeside P deps place = (dep : Dependency) → Contains deps dep → Contains (P dep.name) place

abbrev pub IsKept : (List ℕ → List ℕ) → (List ℕ → List ℕ) → Type 0
IsKept P Q = (other : List ℕ) (q : ℕ) → Contains (P other) q → Contains (Q other) q

pub beside_more : (P Q : List ℕ → List ℕ) (deps : List Dependency) (i : ℕ) (dep : Dependency) (place : ℕ) → i < length deps → dep ≡ get_or deps i dep → IsKept P Q → IsBeside P (take i deps) place
    → Contains (Q dep.name) place → IsBeside Q (take (i + 1) deps) place
beside_more P Q deps i dep place within is kept beside own other among = ⊎_elim
    (λ before. kept other.name place (beside other before))
    (λ same. subst (λ (d : Dependency). Contains (Q d.name) place) same own)
    (in_more deps i dep dep within is other among)

pub beside_first : (P : List ℕ → List ℕ) (first : Dependency) (deps : List Dependency) (place : ℕ) → Contains (P first.name) place → IsBeside P deps place → IsBeside P (first ∷ deps) place
beside_first P first deps place own rest dep among = ⊎_elim
    (λ same. subst (λ (d : Dependency). Contains (P d.name) place) same own)
    (λ later. rest dep later)
    (contains_cases first dep deps among)
