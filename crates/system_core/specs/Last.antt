-- The last tests of a job, on values: its database isn't too large, it changes something, and there is a number for it.
use Rattle.std.specs.Prelude.{◌≡◌, ◌≢◌, ◌⊎◌, ℕ, ◌+◌, ◌-◌, ◌<◌, ◌≤◌, max, min, List, [], length}
use Rattle.rollback_stack.specs.cny-base.declared.limits.TheConstants.{DATABASE_LIMIT, JOBS_LIMIT, STACK_LIMIT}
use Rattle.rollback_stack.specs.cny-base.declared.refusal.Fault.{Fault}
use Rattle.rollback_stack.specs.cny-base.declared.refusal.Fault.TheVariants as fault
use Rattle.rollback_stack.specs.cny-base.declared.refusal.Refusal.{Refusal}
use Rattle.rollback_stack.specs.cny-base.declared.refusal.Refusal.TheVariants.{TooLarge}
use Rattle.rollback_stack.specs.cny-base.declared.refusal.What.TheVariants.{Database, Jobs}
use Rattle.rollback_stack.specs.journal-log.declared.put.Put.{Put}
use Rattle.rollback_stack.specs.trove-stream.declared.parts.TroveParts.{TroveParts}
use Rattle.local_db.specs.declared.format.Format.TheVariants.{Two}
use Rattle.local_db.specs.Formats.{database_bytes}
use Rattle.local_db.specs.declared.db.Db.{Db}

-- the number of the oldest job once there is one of this number: where the stack had as many as it has room for, it rises by one
abbrev pub oldest_after : ℕ → ℕ → ℕ
oldest_after oldest number = max (max oldest (number - (STACK_LIMIT - 1))) 1

-- the number of the next job (past the greatest number there is none)
abbrev pub number_after : ℕ → ℕ
number_after newest = min (newest + 1) JOBS_LIMIT

-- the database with this list after one more job
abbrev pub db_after : Db → List TroveParts → Db
db_after db list = record { installed = list; oldest = oldest_after db.oldest (number_after db.newest); newest = number_after db.newest }

-- the size of the database with a list, whatever its numbers
abbrev pub database_size : List TroveParts → ℕ
database_size list = length (database_bytes Two list 0 0)

-- neither the tree nor the list changes
pub record ChangesNeither (db : Db) (list : List TroveParts) (puts : List Put) : Type 0 where
  pub no_target : puts ≡ []
  pub same_list : list ≡ db.installed

-- The last tests pass.
pub record PassesLast (db : Db) (list : List TroveParts) (puts : List Put) : Type 0 where
  pub short : database_size list ≤ DATABASE_LIMIT
  pub something : ChangesNeither db list puts → ⊥
  pub room : db.newest ≢ JOBS_LIMIT

-- This is the first of the last tests that fails.
pub data IsRefusedLast (db : Db) (list : List TroveParts) (puts : List Put) (why : Refusal) : Type 0 where
  too_large : DATABASE_LIMIT < database_size list → why ≡ TooLarge Database (database_size list) → IsRefusedLast db list puts why
  too_many : database_size list ≤ DATABASE_LIMIT → (ChangesNeither db list puts → ⊥) → db.newest ≡ JOBS_LIMIT → why ≡ TooLarge Jobs JOBS_LIMIT → IsRefusedLast db list puts why

-- the same, where something changes; or no memory was left
abbrev pub IsLastOrMemory : ℕ → List TroveParts → Fault → Type 0
IsLastOrMemory newest list fault.Memory = Unit {0}
IsLastOrMemory newest list (fault.Refused why) =
    (DATABASE_LIMIT < database_size list) × (why ≡ TooLarge Database (database_size list))
    ⊎ (database_size list ≤ DATABASE_LIMIT) × (newest ≡ JOBS_LIMIT) × (why ≡ TooLarge Jobs JOBS_LIMIT)
