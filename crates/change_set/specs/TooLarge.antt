-- Change sets that are too large to be written.
use Rattle.std.specs.Prelude.{◌≡◌, nat_lt, if◌then◌else◌, length, Option, Some, None}
use Rattle.trove_stream.specs.cny-base.declared.limits.TheConstants.{CHANGE_SET_LIMIT, PARTS_LIMIT}
use Rattle.trove_stream.specs.cny-base.declared.refusal.Refusal.{Refusal}
use Rattle.trove_stream.specs.cny-base.declared.refusal.Refusal.TheVariants.{TooLarge}
use Rattle.trove_stream.specs.cny-base.declared.refusal.What.TheVariants as what
use Rattle.trove_stream.specs.cny-base.declared.refusal.Fault.{Fault}
use Rattle.trove_stream.specs.cny-base.declared.refusal.Fault.TheVariants as fault
use Rattle.change_set.specs.declared.change.ChangeSet.{ChangeSet}
use Rattle.change_set.specs.ChangeSet.{change_bytes}

-- the refusal of more parts than the limit, with their number; and otherwise of more bytes, with theirs
abbrev pub too_large : ChangeSet → Option Refusal
too_large set =
    if nat_lt PARTS_LIMIT (length set.parts) then Some (TooLarge what.ChangeSet (length set.parts))
    else if nat_lt CHANGE_SET_LIMIT (length (change_bytes set)) then Some (TooLarge what.ChangeSet (length (change_bytes set)))
    else None

-- the refusal of a set that is too large, or want of memory
abbrev pub IsTooLargeOrMemory : ChangeSet → Fault → Type 0
IsTooLargeOrMemory set (fault.Refused refusal) = too_large set ≡ Some refusal
IsTooLargeOrMemory set fault.Memory = Unit {0}
