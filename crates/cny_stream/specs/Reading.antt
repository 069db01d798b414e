-- The record that some bytes spell, read from the front.
use Rattle.std.specs.Prelude.{ℕ, ◌/◌, ◌%◌, Bool, true, false, not, ◌&&◌, ◌||◌, nat_le, ◌==◌, if◌then◌else◌, List, [], ◌∷◌, length, take, drop, slice_index, Option, Some, None, option_and_then}
use Rattle.std.specs.Int.{w16, w32, from_be_bytes}
use Rattle.cny_base.specs.declared.limits.TheConstants.{CONTENT_LIMIT}
use Rattle.cny_base.specs.Target.{is_target}
use Rattle.cny_stream.specs.declared.encoding.Encoding.{Encoding}
use Rattle.cny_stream.specs.declared.record.Flags.{Flags}
use Rattle.cny_stream.specs.declared.record.FileRec.{FileRec}
use Rattle.cny_stream.specs.declared.record.FileRec.TheVariants.{Dir, File, Link}
use Rattle.cny_stream.specs.Owner.{OwnerNames, is_owner, root_owner}
use Rattle.cny_stream.specs.Record.{names_owner}

-- the flags with these bits, below 8
abbrev pub flags_of : ℕ → Flags
flags_of bits = record { config = bits % 2 == 1; initial = bits / 2 % 2 == 1; transient = bits / 4 == 1 }

abbrev pub flags_at : ℕ → Option Flags
flags_at bits = if nat_le bits 7 then Some (flags_of bits) else None

-- the value of the str at the front, and what stands behind it
abbrev pub str_front : List ℕ → Option (List ℕ × List ℕ)
str_front bytes =
    if (nat_le 2 (length bytes) && nat_le (from_be_bytes w16 (take 2 bytes)) (length (drop 2 bytes)))
    then Some (take (from_be_bytes w16 (take 2 bytes)) (drop 2 bytes), drop (from_be_bytes w16 (take 2 bytes)) (drop 2 bytes)) else None

-- ---- owners

abbrev pub checked_owner : OwnerNames → List ℕ → Option (OwnerNames × List ℕ)
checked_owner owner rest = if is_owner owner then Some (owner, rest) else None

abbrev pub owner_from : List ℕ × List ℕ → Option (OwnerNames × List ℕ)
owner_from user = option_and_then (λ group. checked_owner (record { user = user.0; group = group.0 }) group.1) (str_front user.1)

-- the owner at the front and what stands behind it; root, where none is named
abbrev pub owner_at : Bool → List ℕ → Option (OwnerNames × List ℕ)
owner_at true bytes = option_and_then owner_from (str_front bytes)
owner_at false bytes = Some (root_owner, bytes)

abbrev pub same : Bool → Bool → Bool
same true b = b
same false b = not b

-- whether a record of this kind names its owner as the encoding has it; a link names none
abbrev pub is_named_rightly : Encoding → ℕ → Bool → OwnerNames → Bool
is_named_rightly encoding kind named owner = same (not (kind == 108) && names_owner encoding owner) named

-- ---- records

abbrev pub dir_at : ℕ → ℕ → OwnerNames → List ℕ → Option FileRec
dir_at flags mode owner rest = if (nat_le mode 4095 && (flags == 0 && length rest == 0)) then Some (Dir mode owner) else None

abbrev pub file_at : ℕ → ℕ → OwnerNames → List ℕ → Option FileRec
file_at flags mode owner rest =
    if (nat_le mode 4095 && (nat_le flags 7 && (length rest == 24 && nat_le (from_be_bytes w32 (take 4 rest)) CONTENT_LIMIT)))
    then Some (File mode owner (flags_of flags) (from_be_bytes w32 (take 4 rest)) (drop 4 rest)) else None

-- a target with nothing behind it
abbrev pub target_at : List ℕ × List ℕ → Option FileRec
target_at found = if (length found.1 == 0 && is_target found.0) then Some (Link found.0) else None

abbrev pub link_at : ℕ → ℕ → List ℕ → Option FileRec
link_at flags mode rest = if (flags == 0 && mode == 0) then option_and_then target_at (str_front rest) else None

unfoldable pub kind_at : ℕ → ℕ → ℕ → OwnerNames → List ℕ → Option FileRec
kind_at kind flags mode owner rest =
    if kind == 100 then dir_at flags mode owner rest
    else (if kind == 102 then file_at flags mode owner rest else (if kind == 108 then link_at flags mode rest else None))

abbrev pub owned_at : Encoding → Bool → ℕ → ℕ → ℕ → OwnerNames × List ℕ → Option FileRec
owned_at encoding named kind flags mode found =
    if is_named_rightly encoding kind named found.0 then kind_at kind flags mode found.0 found.1 else None

-- what stands behind the form
unfoldable pub form_at : Encoding → Bool → ℕ → ℕ → ℕ → List ℕ → Option FileRec
form_at encoding named kind flags mode rest = option_and_then (owned_at encoding named kind flags mode) (owner_at named rest)

abbrev pub record_of : Encoding → List ℕ → Option FileRec
record_of encoding bytes =
    if (nat_le 5 (length bytes) && (slice_index bytes 0 == 1 || slice_index bytes 0 == 2))
    then form_at encoding (slice_index bytes 0 == 2) (slice_index bytes 1) (slice_index bytes 2) (from_be_bytes w16 (slice_index bytes 3 ∷ slice_index bytes 4 ∷ []))
    (drop 5 bytes) else None
