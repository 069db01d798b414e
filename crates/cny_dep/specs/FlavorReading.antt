-- What reading the front of some bytes gives: a value, and the bytes after it.
use Rattle.std.specs.Prelude.{◌≡◌, ℕ, zero, suc, List, [], ◌∷◌, ◌++◌, take, drop, Option, Some, None, Result, Ok, Err, ◌==◌, if◌then◌else◌}
use Rattle.std.specs.List.{prefix_len}
use Rattle.std.specs.Option.{option_map, option_and_then}
use Rattle.cny_base.specs.Name.{is_word_byte}
use Rattle.cny_base.specs.declared.text.TextFault.{TextFault}
use Rattle.cny_base.specs.declared.text.TextFault.TheVariants as fault
use Rattle.cny_dep.specs.declared.parts.FlavorFlag.{FlavorFlag}
use Rattle.cny_dep.specs.declared.parts.InstructionSet.{InstructionSet}
use Rattle.cny_dep.specs.declared.parts.Parts.{Parts}
use Rattle.cny_dep.specs.declared.parts.Sense.{Sense}
use Rattle.cny_dep.specs.declared.parts.Sense.TheVariants.{Required, Preferred, PreferNot, Forbidden}
use Rattle.cny_dep.specs.FlavorOrder.{in_order}

-- What a function answered, seen by `view`, is what was read, unless memory ran out.
abbrev pub Fails : {Y : Type 0} → TextFault → Option Y → Type 0
Fails fault.Memory read = Unit {0}
Fails fault.Bad read = read ≡ None

abbrev pub Gives : {X Y : Type 0} → (X → Y) → Result X TextFault → Option Y → Type 0
Gives view (Ok x) read = read ≡ Some (view x)
Gives view (Err e) read = Fails e read

-- the bytes after a first byte, where that is the one wanted
abbrev pub after_byte : ℕ → List ℕ → Option (List ℕ)
after_byte wanted [] = None
after_byte wanted (b ∷ bs) = if b == wanted then Some bs else None

abbrev pub skip_spaces : List ℕ → List ℕ
skip_spaces [] = []
skip_spaces (b ∷ bs) = if b == 32 then skip_spaces bs else b ∷ bs

abbrev pub word_len : List ℕ → ℕ
word_len bytes = prefix_len is_word_byte bytes

-- ---- flags

abbrev pub sense_after_tilde : List ℕ → Option (List ℕ) → Sense × List ℕ
sense_after_tilde rest None = (Preferred, rest)
sense_after_tilde rest (Some more) = (PreferNot, more)

abbrev pub sense_without_tilde : List ℕ → Option (List ℕ) → Sense × List ℕ
sense_without_tilde bytes None = (Required, bytes)
sense_without_tilde bytes (Some rest) = (Forbidden, rest)

abbrev pub sense_from : List ℕ → Option (List ℕ) → Sense × List ℕ
sense_from bytes (Some rest) = sense_after_tilde rest (after_byte 33 rest)
sense_from bytes None = sense_without_tilde bytes (after_byte 33 bytes)

abbrev pub sense_at : List ℕ → Sense × List ℕ
sense_at bytes = sense_from bytes (after_byte 126 bytes)

abbrev pub flag_from : Sense × List ℕ → FlavorFlag × List ℕ
flag_from s = (record { sense = s.0; word = take (word_len s.1) s.1 }, drop (word_len s.1) s.1)

unfoldable pub flag_at : List ℕ → FlavorFlag × List ℕ
flag_at bytes = flag_from (sense_at bytes)

abbrev pub with_front : {X : Type 0} → List X → Option (List X × List ℕ) → Option (List X × List ℕ)
with_front front read = option_map (λ r. (front ++ r.0, r.1)) read

-- a flag, and the flags after a comma, where one follows
abbrev pub flags_from : FlavorFlag × List ℕ → Option (Option (List FlavorFlag × List ℕ)) → Option (List FlavorFlag × List ℕ)
flags_from r None = Some (r.0 ∷ [], r.1)
flags_from r (Some read) = with_front (r.0 ∷ []) read

-- so many flags at most
unfoldable pub flags_at : ℕ → List ℕ → Option (List FlavorFlag × List ℕ)
flags_at zero bytes = None
flags_at (suc n) bytes = flags_from (flag_at bytes) (option_map (λ rest. flags_at n (skip_spaces rest)) (after_byte 44 (flag_at bytes).1))

abbrev pub in_order_of : Option (List FlavorFlag × List ℕ) → Option (List FlavorFlag × List ℕ)
in_order_of read = option_map (λ r. (in_order (λ f. f.word) r.0, r.1)) read

unfoldable pub ordered_flags_at : List ℕ → Option (List FlavorFlag × List ℕ)
ordered_flags_at bytes = in_order_of (flags_at 64 bytes)

-- ---- sets

abbrev pub closed : List FlavorFlag × List ℕ → Option (List FlavorFlag × List ℕ)
closed r = option_map (λ rest. (r.0, rest)) (after_byte 41 r.1)

abbrev pub own_flags_from : List ℕ → Option (List ℕ) → Option (List FlavorFlag × List ℕ)
own_flags_from bytes None = Some ([], bytes)
own_flags_from bytes (Some rest) = option_and_then closed (ordered_flags_at rest)

abbrev pub own_flags_at : List ℕ → Option (List FlavorFlag × List ℕ)
own_flags_at bytes = own_flags_from bytes (after_byte 40 bytes)

abbrev pub with_word : List ℕ → Option (List FlavorFlag × List ℕ) → Option (InstructionSet × List ℕ)
with_word word read = option_map (λ r. (record { word = word; flags = r.0 }, r.1)) read

unfoldable pub set_at : List ℕ → Option (InstructionSet × List ℕ)
set_at bytes = with_word (take (word_len bytes) bytes) (own_flags_at (drop (word_len bytes) bytes))

abbrev pub with_first_set : InstructionSet → Option (List InstructionSet) → Option (List InstructionSet)
with_first_set s read = option_map (λ ss. s ∷ ss) read

-- a set, and the sets after a space, where the bytes don't end
abbrev pub sets_from : InstructionSet → List ℕ → Option (Option (List InstructionSet)) → Option (List InstructionSet)
sets_from s [] more = Some (s ∷ [])
sets_from s (b ∷ bs) None = None
sets_from s (b ∷ bs) (Some read) = with_first_set s read

-- so many sets at most, to the end of the bytes
unfoldable pub sets_at : ℕ → List ℕ → Option (List InstructionSet)
sets_at zero bytes = None
sets_at (suc n) bytes = option_and_then (λ r. sets_from r.0 r.1 (option_map (λ rest. sets_at n (skip_spaces rest)) (after_byte 32 r.1))) (set_at bytes)

-- ---- flavors

-- the bytes after `is:`, where they begin so
abbrev pub after_is : List ℕ → Option (List ℕ)
after_is bytes = option_and_then (after_byte 58) (option_and_then (after_byte 115) (after_byte 105 bytes))

abbrev pub ordered_sets : Option (List InstructionSet) → Option (List InstructionSet)
ordered_sets read = option_map (in_order (λ s. s.word)) read

-- the sets after `is:`
unfoldable pub sets_part_at : List ℕ → Option (List InstructionSet)
sets_part_at bytes = option_and_then (λ rest. ordered_sets (sets_at 64 (skip_spaces rest))) (after_is bytes)

abbrev pub with_flags : List FlavorFlag → Option (List InstructionSet) → Option Parts
with_flags fs read = option_map (λ ss. record { flags = fs; sets = ss }) read

abbrev pub sets_after_from : List ℕ → Option (List ℕ) → Option (List InstructionSet)
sets_after_from [] space = Some []
sets_after_from (b ∷ bs) None = None
sets_after_from (b ∷ bs) (Some rest) = sets_part_at (skip_spaces rest)

-- what follows the flags: nothing, or sets after a space
unfoldable pub sets_after_at : List ℕ → Option (List InstructionSet)
sets_after_at bytes = sets_after_from bytes (after_byte 32 bytes)

-- flags, or sets alone where the bytes begin with `is:`
abbrev pub parts_from : List ℕ → Option (List ℕ) → Option Parts
parts_from bytes None = option_and_then (λ r. with_flags r.0 (sets_after_at r.1)) (ordered_flags_at bytes)
parts_from bytes (Some rest) = with_flags [] (sets_part_at bytes)

-- the whole text; the empty one has no parts
unfoldable pub parts_at : List ℕ → Option Parts
parts_at [] = Some (record { flags = []; sets = [] })
parts_at (b ∷ bs) = parts_from (b ∷ bs) (after_is (b ∷ bs))
