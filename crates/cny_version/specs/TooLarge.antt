-- Why no version or revision is made.
use Rattle.std.specs.Prelude.{◌≡◌, ℕ}
use Rattle.cny_base.specs.declared.refusal.Fault.{Fault}
use Rattle.cny_base.specs.declared.refusal.Fault.TheVariants as fault
use Rattle.cny_base.specs.declared.refusal.Refusal.TheVariants as refusal
use Rattle.cny_base.specs.declared.refusal.What.{What}

-- the refusal of this quantity at this size, or want of memory
abbrev pub TooLargeOrMemory : What → ℕ → Fault → Type 0
TooLargeOrMemory what size fault.Memory = Unit {0}
TooLargeOrMemory what size (fault.Refused refused) = refused ≡ refusal.TooLarge what size
