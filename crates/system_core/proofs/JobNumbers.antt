-- The numbers of the stack after one more job.
use Rattle.std.proofs.Common.{◌≡◌, inl, inr, ℕ, ◌+◌, ◌<◌, ◌≤◌, List, [], ◌∷◌, length, take, Result, IfErr, IsErrAnd, refl, ◌∙◌, ap, subst, arith}
use Rattle.std.specs.Prelude.{◌≢◌}
use Rattle.std.proofs.lemmas.List.{length-take}
use Rattle.rollback_stack.specs.cny-base.declared.limits.TheConstants.{DATABASE_LIMIT, JOBS_LIMIT, STACK_LIMIT}
use Rattle.rollback_stack.specs.cny-base.declared.refusal.Fault.{Fault}
use Rattle.rollback_stack.specs.cny-base.declared.refusal.Fault.TheVariants as fault
use Rattle.rollback_stack.specs.cny-base.declared.refusal.Refusal.TheVariants.{TooLarge}
use Rattle.rollback_stack.specs.cny-base.declared.refusal.What.TheVariants.{Database}
use Rattle.rollback_stack.specs.trove-stream.declared.parts.TroveParts.{TroveParts}
use Rattle.local_db.specs.Writing.{IsTooLargeOrMemory}
use Rattle.rollback_stack.specs.Numbers.{IsFull}
use Rattle.local_db.specs.Formats.{AreEnds}
use Rattle.local_db.specs.SystemState.{StackItem, newest, oldest, AreNumbered}
use Rattle.local_db.specs.Steps.{pushed}
use Rattle.local_db.proofs.Systems.{low_at_least, numbered_more, numbered_take, numbers_by_length}
use Rattle.system_core.specs.Last.{database_size, number_after, oldest_after, IsLastOrMemory}
use Rattle.local_db.proofs.cny-base.Faults.{passed_on}

jobs_is : JOBS_LIMIT ≡ 4294967295
jobs_is = refl

stack_is : STACK_LIMIT ≡ 4096
stack_is = refl

pub number_is : (newest : ℕ) → newest ≤ JOBS_LIMIT → newest ≢ JOBS_LIMIT → number_after newest ≡ newest + 1
number_is newest most other = omega (arith, jobs_is, most, other)

-- there was room for one more
pub room_of : (newest : ℕ) → number_after newest ≡ newest + 1 → newest ≢ JOBS_LIMIT
room_of newest is full = omega (arith, jobs_is, is, full)

-- they are those of a database
pub ends_after : (oldest newest : ℕ) → AreEnds oldest newest → newest ≢ JOBS_LIMIT → AreEnds (oldest_after oldest (number_after newest)) (number_after newest)
ends_after oldest newest (inl none) room = inr (
  omega (arith, jobs_is, stack_is, none.0, none.1),
  omega (arith, jobs_is, stack_is, none.0, none.1),
  omega (arith, jobs_is, stack_is, none.0, none.1),
  omega (arith, jobs_is, stack_is, none.0, none.1),
)
ends_after oldest newest (inr some) room = inr (
  omega (arith, jobs_is, stack_is, some.0, some.1, some.2, some.3, room),
  omega (arith, jobs_is, stack_is, some.0, some.1, some.2, some.3, room),
  omega (arith, jobs_is, stack_is, some.0, some.1, some.2, some.3, room),
  omega (arith, jobs_is, stack_is, some.0, some.1, some.2, some.3, room),
)

-- the oldest of a stack with one more job
pub oldest_pushed : (o : StackItem) (olds : List StackItem) → AreNumbered olds → length olds ≤ STACK_LIMIT → o.number ≡ newest olds + 1 → newest olds ≤ JOBS_LIMIT → newest olds ≢ JOBS_LIMIT
    → oldest (pushed o olds) ≡ oldest_after (oldest olds) (number_after (newest olds))
oldest_pushed o [] numbered few is most room = omega (arith, jobs_is, stack_is, is)
oldest_pushed o (p ∷ olds) numbered few is most room =
    let all : AreNumbered (o ∷ p ∷ olds) = numbered_more (p ∷ olds) o numbered is in
    let one = numbers_by_length o (take 4095 (p ∷ olds)) (numbered_take 4095 o (p ∷ olds) all) in
    let two = numbers_by_length p olds numbered in
    let low = low_at_least p olds numbered in
    omega (arith, jobs_is, stack_is, one, two, low, length-take 4095 (p ∷ olds), few, is, most, room)

-- ---- the last tests

large : (newest : ℕ) (list : List TroveParts) (size : ℕ) (e : Fault) → size ≡ database_size list → IsTooLargeOrMemory size e → IsLastOrMemory newest list e
large newest list size fault.Memory same is = tt
large newest list size (fault.Refused why) same is = inl (subst (λ (n : ℕ). DATABASE_LIMIT < n) same is.1, is.0 ∙ ap (TooLarge Database) same)

-- the database is too large
pub large_last : {T : Type 0} (newest : ℕ) (list : List TroveParts) (size : ℕ) (e : Fault) (r : Result T Fault) → size ≡ database_size list → IsErrAnd r (λ f. f ≡ e) → IsTooLargeOrMemory size e
    → IfErr r (IsLastOrMemory newest list)
large_last newest list size e r same is cause = passed_on (IsLastOrMemory newest list) e r (large newest list size e same cause) is

full : (newest : ℕ) (list : List TroveParts) (size : ℕ) (e : Fault) → size ≡ database_size list → size ≤ DATABASE_LIMIT → IsFull newest e → IsLastOrMemory newest list e
full newest list size fault.Memory same short is = absurd is
full newest list size (fault.Refused why) same short is = inr (subst (λ (n : ℕ). n ≤ DATABASE_LIMIT) same short, is.1, is.0)

-- there is no number
pub full_last : {T : Type 0} (newest : ℕ) (list : List TroveParts) (size : ℕ) (e : Fault) (r : Result T Fault) → size ≡ database_size list → size ≤ DATABASE_LIMIT → IsErrAnd r (λ f. f ≡ e)
    → IsFull newest e → IfErr r (IsLastOrMemory newest list)
full_last newest list size e r same short is cause = passed_on (IsLastOrMemory newest list) e r (full newest list size e same short cause) is
