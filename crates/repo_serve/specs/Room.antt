-- What has no room in a message.
use Rattle.std.specs.Prelude.{◌≡◌, ℕ, ◌<◌}
use Rattle.repo_load.specs.cny-base.declared.limits.TheConstants.{MESSAGE_LIMIT}
use Rattle.repo_load.specs.cny-base.declared.refusal.Fault.{Fault}
use Rattle.repo_load.specs.cny-base.declared.refusal.Fault.TheVariants as fault
use Rattle.repo_load.specs.cny-base.declared.refusal.Refusal.{Refusal}
use Rattle.repo_load.specs.cny-base.declared.refusal.Refusal.TheVariants.{TooLarge}
use Rattle.repo_load.specs.cny-base.declared.refusal.What.TheVariants.{Message}

-- a stream of replies of so many bytes is longer than a message may be, and is refused with its length
pub record IsLong (len : ℕ) (refusal : Refusal) : Type 0 where
  pub long : MESSAGE_LIMIT < len
  pub refused : refusal ≡ TooLarge Message len

-- that refusal, or want of memory
abbrev pub IsLongOrMemory : ℕ → Fault → Type 0
IsLongOrMemory len (fault.Refused refusal) = IsLong len refusal
IsLongOrMemory len fault.Memory = Unit {0}
