-- Shared lemmas: recorded.
use Rattle.cny_base.proofs.Bools.{or_later}
use Rattle.cny_base.proofs.Lists.{contains_cases, nothing_in}
use Rattle.std.proofs.Common.{Bool, Contains, List, [], ap, false, refl, true, ⊎_elim, ◌||◌, ◌∙◌, ◌∷◌}
use Rattle.std.specs.List.{list_any}
use Rattle.std.specs.Prelude.{IsTrue}

pub any_of : {A : Type 0} (p : A → Bool) (xs : List A) (x : A) → Contains xs x → IsTrue (p x) → IsTrue (list_any p xs)
any_of p [] x h passes = absurd (nothing_in x h)
any_of p (y ∷ xs) x h passes = ⊎_elim
    (λ e. first (p y) (list_any p xs) (ap p e ∙ passes))
    (λ later. or_later (p y) (list_any p xs) (any_of p xs x later passes))
    (contains_cases y x xs h)
  where
    first : (a b : Bool) → IsTrue a → IsTrue (a || b)
    first true b is = refl
    first false b is = absurd (cc is)
