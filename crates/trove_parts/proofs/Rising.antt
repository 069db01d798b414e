-- Strictly rising lists: fronts of them, and one more element.
use Rattle.std.proofs.Common.{◌≡◌, ℕ, suc, ◌+◌, ◌-◌, ◌<◌, Bool, true, false, IsTrue, List, [], ◌∷◌, ◌++◌, length, get_or, refl, sym, ap, ◌∙◌, arith, Ordering}
use Rattle.std.specs.Cmp.{IsTotalOrder}
use Rattle.std.specs.List.{AllByRecursion, IsAllAdjacentAnswer}
use Rattle.std.specs.List.Sorted.{IsStrictlySortedBy}
use Rattle.std.specs.declared.cmp.Ordering.TheVariants.{Less, Equal, Greater}
use Rattle.std.specs.Ordering.{is_lt}
use Rattle.std.proofs.lemmas.Bool.{false≢true}
use Rattle.std.proofs.lemmas.Map.Keys.{Less-from_sorted, sorted_from_all_adjacent}
use Rattle.cny_version.proofs.cny-base.Orders.{less}
use Rattle.cny_dep.proofs.Sorted.{all_above}

all_front : {K : Type 0} (P : K → Type 0) (a b : List K) → AllByRecursion P (a ++ b) → AllByRecursion P a
all_front P [] b all = tt
all_front P (x ∷ a) b all = (all.0, all_front P a b all.1)

pub rising_front : {K : Type 0} (R : K → K → Ordering) (a b : List K) → IsStrictlySortedBy R (a ++ b) → IsStrictlySortedBy R a
unfolding IsStrictlySortedBy
rising_front R [] b rising = tt
rising_front R (x ∷ a) b rising = (all_front (λ y. R x y ≡ Less) a b rising.0, rising_front R a b rising.1)

module _ {K : Type 0} {R : K → K → Ordering} (o : IsTotalOrder R) where
  -- one more element, above the last
  pub rising_push : (xs : List K) (y : K) → IsStrictlySortedBy R xs → ((d : K) → 0 < length xs → R (get_or xs (length xs - 1) d) y ≡ Less) → IsStrictlySortedBy R (xs ++ y ∷ [])
  unfolding IsStrictlySortedBy
  rising_push [] y rising above = (tt, tt)
  rising_push (x ∷ []) y rising above = ((above x (omega arith), tt), (tt, tt))
  rising_push (x ∷ z ∷ xs) y rising above =
      let place : length (x ∷ z ∷ xs) - 1 ≡ suc (length (z ∷ xs) - 1) = omega arith in
      let rest = rising_push (z ∷ xs) y rising.1 (λ d some. sym (ap (λ (n : ℕ). R (get_or (x ∷ z ∷ xs) n d) y) place) ∙ above d (omega arith)) in
      ((rising.0.0, all_above o x z (xs ++ y ∷ []) rising.0.0 rest.0), rest)

-- the element before the last of a rising list is below the last
pub below_pushed : {K : Type 0} (R : K → K → Ordering) (xs : List K) (y d : K) → IsStrictlySortedBy R (xs ++ y ∷ []) → 0 < length xs → R (get_or xs (length xs - 1) d) y ≡ Less
unfolding IsStrictlySortedBy
below_pushed R [] y d rising some = absurd (omega arith)
below_pushed R (x ∷ []) y d rising some = rising.0.0
below_pushed R (x ∷ z ∷ xs) y d rising some =
    let place : length (x ∷ z ∷ xs) - 1 ≡ suc (length (z ∷ xs) - 1) = omega arith in
    ap (λ (n : ℕ). R (get_or (x ∷ z ∷ xs) n d) y) place ∙ below_pushed R (z ∷ xs) y d rising.1 (omega arith)

-- ---- by neighbours

abbrev pub is_less : {K : Type 0} → (K → K → Ordering) → K → K → Bool
is_less R x y = is_lt (R x y)

pub less_iff : (r : Ordering) (b : Bool) → b ≡ is_lt r → (IsTrue b → r ≡ Less) × (r ≡ Less → IsTrue b)
less_iff Less b h = (λ _. refl, λ _. h)
less_iff Equal b h = (λ t. absurd (cc), λ e. absurd (cc))
less_iff Greater b h = (λ t. absurd (cc), λ e. absurd (cc))

module _ {K : Type 0} {R : K → K → Ordering} (o : IsTotalOrder R) where
  pub rises_from : (xs : List K) → ((k : ℕ) (d : K) → k + 1 < length xs → true ≡ is_less R (get_or xs k d) (get_or xs (k + 1) d)) → IsStrictlySortedBy R xs
  unfolding IsStrictlySortedBy
  rises_from [] all = tt
  rises_from (x ∷ xs) all = sorted_from_all_adjacent o (x ∷ xs) x (λ k within. less (R (get_or (x ∷ xs) k x) (get_or (x ∷ xs) (k + 1) x)) (all k x within))

  pub rising_answer : (xs : List K) (b : Bool) → IsAllAdjacentAnswer (λ x y b. b ≡ is_less R x y) xs b → (IsTrue b → IsStrictlySortedBy R xs) × (IsStrictlySortedBy R xs → IsTrue b)
  rising_answer xs true answer = (λ _. rises_from xs (λ k d within. answer k d within), λ _. refl)
  rising_answer [] false answer = absurd (omega arith)
  rising_answer (x ∷ xs) false answer = (
    λ h. absurd (false≢true h),
    λ sorted. absurd (false≢true (answer.2 x ∙ ap is_lt (Less-from_sorted R (x ∷ xs) answer.0 (answer.0 + 1) x sorted (omega arith) answer.1))),
  )
