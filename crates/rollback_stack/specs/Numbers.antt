-- The numbers of jobs.
use Rattle.std.specs.Prelude.{◌≡◌, ℕ, zero, suc, ◌-◌}
use Rattle.job_targets.specs.cny-base.declared.limits.TheConstants.{JOBS_LIMIT}
use Rattle.job_targets.specs.cny-base.declared.refusal.Fault.{Fault}
use Rattle.job_targets.specs.cny-base.declared.refusal.Fault.TheVariants as fault
use Rattle.job_targets.specs.cny-base.declared.refusal.Refusal.TheVariants.{TooLarge}
use Rattle.job_targets.specs.cny-base.declared.refusal.What.TheVariants.{Jobs}

-- the newest job has the greatest number; want of memory never comes
abbrev pub IsFull : ℕ → Fault → Type 0
IsFull newest fault.Memory = ⊥
IsFull newest (fault.Refused why) = (why ≡ TooLarge Jobs JOBS_LIMIT) × (newest ≡ JOBS_LIMIT)

-- so many jobs has a stack with these numbers
abbrev pub job_count : ℕ → ℕ → ℕ
job_count zero newest = zero
job_count (suc below) newest = newest - below
