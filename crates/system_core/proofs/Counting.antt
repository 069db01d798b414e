-- The numbers of a stack, and of the stack once several jobs are gone.
use Rattle.std.proofs.Common.{◌≡◌, ◌≢◌, ⊎_elim, ℕ, ◌+◌, ◌-◌, ◌<◌, ◌≤◌, Bool, true, false, List, [], ◌∷◌, ◌++◌, length, Contains, refl, sym, ◌∙◌, ap, arith, take-append-drop}
use Rattle.std.specs.Prelude.{nat_lt, if◌then◌else◌}
use Rattle.std.proofs.lemmas.Bool.{cases_order}
use Rattle.std.proofs.lemmas.Bool.Decides.{nat_tests}
use Rattle.local_db.specs.SystemState.{AreNumbered, StackItem, newest, oldest}
use Rattle.local_db.proofs.Systems.{low_at_least, numbers_by_length}
use Rattle.rollback_stack.specs.Database.{newest_below, oldest_below}
use Rattle.system_core.specs.Several.{HasJob, count_to, jobs_below, jobs_to}
use Rattle.local_db.proofs.Several.{numbered_end}
use Rattle.local_db.proofs.cny-base.Lists.{contains_cases, contains_first, contains_rest, nothing_in}

-- ---- which numbers have a job

pub least : (stack : List StackItem) (o : StackItem) → AreNumbered stack → Contains stack o → (oldest stack ≤ o.number) × (o.number ≤ newest stack)
least [] o numbered among = absurd (nothing_in o among)
least (p ∷ []) o numbered among = ⊎_elim
    (λ same. let is : p.number ≡ o.number = ap (λ (j : StackItem). j.number) same in (omega (arith, is), omega (arith, is)))
    (λ none. absurd (nothing_in o none))
    (contains_cases p o [] among)
least (p ∷ r ∷ olds) o numbered among = ⊎_elim
    (λ same.
    let is : p.number ≡ o.number = ap (λ (j : StackItem). j.number) same in
    let far = numbers_by_length r olds numbered.1 in
    let next = numbered.0 in
    (omega (arith, is, far, next), omega (arith, is)))
    (λ later.
    let both = least (r ∷ olds) o numbered.1 later in
    let low = both.0 in
    let high = both.1 in
    let next = numbered.0 in
    (low, omega (arith, high, next)))
    (contains_cases p o (r ∷ olds) among)

-- each number in between has one
pub has_job : (stack : List StackItem) (number : ℕ) → AreNumbered stack → newest stack ≢ 0 → oldest stack ≤ number → number ≤ newest stack → HasJob stack number
has_job [] number numbered some low high = absurd (some refl)
has_job (o ∷ []) number numbered some low high = (o, contains_first o [], omega (arith, low, high))
has_job (o ∷ p ∷ olds) number numbered some low high = ⊎_elim
    (λ same. (o, contains_first o (p ∷ olds), sym same))
    (λ differ.
    let next = numbered.0 in
    let first : oldest (p ∷ olds) + length olds ≡ p.number = numbers_by_length p olds numbered.1 in
    let least_ : 1 ≤ oldest (p ∷ olds) = low_at_least p olds numbered.1 in
    let below : number ≤ p.number = ⊎_elim (λ (lt : number < o.number). omega (arith, lt, next)) (λ (gt : o.number < number). absurd (omega (arith, gt, high))) differ in
    let later = has_job (p ∷ olds) number numbered.1 (λ none. absurd (omega (arith, first, least_, none))) low below in
    (later.0, contains_rest o later.0 (p ∷ olds) later.1, later.2))
    (cases_order number o.number)

-- ---- how many there are

-- so many jobs, down to this number, are on the stack
pub few_jobs : (stack : List StackItem) (count number : ℕ) → AreNumbered stack → newest stack ≢ 0 → oldest stack ≤ number → count + number ≤ newest stack + 1 → count ≤ length stack
few_jobs [] count number numbered some low top = absurd (some refl)
few_jobs (o ∷ olds) count number numbered some low top =
    let far = numbers_by_length o olds numbered in
    omega (arith, far, low, top)

-- ---- the rest of the stack

pub numbers_apart : (o : StackItem) (os : List StackItem) (r : StackItem) (rest : List StackItem) → AreNumbered (o ∷ (os ++ r ∷ rest)) → o.number ≡ r.number + length (o ∷ os)
numbers_apart o [] r rest numbered = let next = numbered.0 in omega (arith, next)
numbers_apart o (p ∷ os) r rest numbered =
    let next = numbered.0 in
    let later = numbers_apart p os r rest numbered.1 in
    omega (arith, next, later)

pub oldest_stays : (os : List StackItem) (r : StackItem) (rest : List StackItem) → oldest (os ++ r ∷ rest) ≡ oldest (r ∷ rest)
oldest_stays [] r rest = refl
oldest_stays (o ∷ []) r rest = refl
oldest_stays (o ∷ p ∷ os) r rest = oldest_stays (p ∷ os) r rest

pub is_below : (a b : ℕ) → a < b → nat_lt a b ≡ true
is_below a b lt = grind (arith, nat_tests)

pub chosen : (b : Bool) (x y : ℕ) → b ≡ true → (if b then x else y) ≡ x
chosen true x y is = refl
chosen false x y is = absurd (cc is)

pub other : (b : Bool) (x y : ℕ) → b ≡ false → (if b then x else y) ≡ y
other true x y is = absurd (cc is)
other false x y is = refl

pub not_lower : (a b : ℕ) → b ≤ a → nat_lt a b ≡ false
not_lower a b le = grind (arith, nat_tests)

pub record AreLeft (stack rest : List StackItem) (number : ℕ) : Type 0 where
  pub low : oldest_below (oldest stack) number ≡ oldest rest
  pub high : newest_below (oldest stack) number ≡ newest rest

-- the numbers below a number are those of the jobs that are left
pub numbers_left : (os rest : List StackItem) (number : ℕ) → AreNumbered (os ++ rest) → oldest (os ++ rest) ≤ number → number ≤ newest (os ++ rest) → length os + number ≡ newest (os ++ rest) + 1 → AreLeft (os ++ rest) rest number
numbers_left [] rest number numbered low high count = absurd (omega (arith, count, high))
numbers_left (o ∷ os) [] number numbered low high count =
    let none : oldest (o ∷ (os ++ [])) ≡ number = all_gone in
    let no : nat_lt (oldest (o ∷ (os ++ []))) number ≡ false = not_lower (oldest (o ∷ (os ++ []))) number (omega (arith, none)) in
    record {
      low = other (nat_lt (oldest (o ∷ (os ++ []))) number) (oldest (o ∷ (os ++ []))) 0 no;
      high = other (nat_lt (oldest (o ∷ (os ++ []))) number) (number - 1) 0 no;
    }
  where
    same_length : (l : List StackItem) → length (l ++ []) ≡ length l
    same_length [] = refl
    same_length (p ∷ l) = let later = same_length l in omega (arith, later)

    all_gone : oldest (o ∷ (os ++ [])) ≡ number
    all_gone =
        let far = numbers_by_length o (os ++ []) numbered in
        let long = same_length os in
        omega (arith, far, long, low, count)
numbers_left (o ∷ os) (r ∷ rest) number numbered low high count =
    let apart = numbers_apart o os r rest numbered in
    let bottom : oldest (o ∷ (os ++ r ∷ rest)) ≡ oldest (r ∷ rest) = oldest_stays (o ∷ os) r rest in
    let far = numbers_by_length r rest (numbered_end (o ∷ os) (r ∷ rest) numbered) in
    let next : r.number + 1 ≡ number = omega (arith, apart, count) in
    let yes : nat_lt (oldest (o ∷ (os ++ r ∷ rest))) number ≡ true = is_below (oldest (o ∷ (os ++ r ∷ rest))) number (omega (arith, bottom, far, next)) in
    let less : number - 1 ≡ r.number = omega (arith, next) in
    record {
      low = chosen (nat_lt (oldest (o ∷ (os ++ r ∷ rest))) number) (oldest (o ∷ (os ++ r ∷ rest))) 0 yes ∙ bottom;
      high = chosen (nat_lt (oldest (o ∷ (os ++ r ∷ rest))) number) (number - 1) 0 yes ∙ less;
    }

-- ---- the jobs down to a number

pub split_at : (number : ℕ) (stack : List StackItem) → stack ≡ jobs_to number stack ++ jobs_below number stack
split_at number stack = sym (take-append-drop (count_to number stack) stack)
