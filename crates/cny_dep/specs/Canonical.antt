-- The values of flavors, and their canonical texts.
use Rattle.std.specs.Prelude.{ℕ, Bool, ◌&&◌, List, [], ◌∷◌, ◌++◌, length, ◌+◌, nat_le, codes}
use Rattle.std.specs.List.{list_all, flat_map, sum_by}
use Rattle.cny_base.specs.Name.{is_word}
use Rattle.cny_dep.specs.declared.parts.FlavorFlag.{FlavorFlag}
use Rattle.cny_dep.specs.declared.parts.InstructionSet.{InstructionSet}
use Rattle.cny_dep.specs.declared.parts.Parts.{Parts}
use Rattle.cny_dep.specs.declared.parts.Sense.{Sense}
use Rattle.cny_dep.specs.declared.parts.Sense.TheVariants.{Required, Preferred, PreferNot, Forbidden}
use Rattle.cny_dep.specs.FlavorOrder.{rise}

-- ---- values

-- a word of a flavor: a word of at most 255 bytes
abbrev pub is_flavor_word : List ℕ → Bool
is_flavor_word word = nat_le (length word) 255 && is_word word

abbrev pub is_flag : FlavorFlag → Bool
is_flag f = is_flavor_word f.word

-- flags whose words strictly rise
abbrev pub are_flags : List FlavorFlag → Bool
are_flags fs = list_all is_flag fs && rise (λ f. f.word) fs

abbrev pub is_set : InstructionSet → Bool
is_set s = is_flavor_word s.word && are_flags s.flags

-- sets whose words strictly rise
abbrev pub are_sets : List InstructionSet → Bool
are_sets ss = list_all is_set ss && rise (λ s. s.word) ss

-- how many flags a set counts for: itself, and its own flags
abbrev pub set_count : InstructionSet → ℕ
set_count s = 1 + length s.flags

-- how many flags there are, sets and their flags counted
abbrev pub flag_count : Parts → ℕ
flag_count p = length p.flags + sum_by set_count p.sets

-- the value of a flavor: at most 64 flags, the words of each list strictly rising
abbrev pub is_flavor : Parts → Bool
is_flavor p = nat_le (flag_count p) 64 && (are_flags p.flags && are_sets p.sets)

-- ---- texts

-- nothing for required, `~` for preferred, `~!` for not preferred, `!` for forbidden
abbrev pub sense_text : Sense → List ℕ
sense_text Required = []
sense_text Preferred = codes "~"
sense_text PreferNot = codes "~!"
sense_text Forbidden = codes "!"

abbrev pub flag_text : FlavorFlag → List ℕ
flag_text f = sense_text f.sense ++ f.word

abbrev pub after_comma : FlavorFlag → List ℕ
after_comma f = 44 ∷ flag_text f

-- flags, with a comma between two
abbrev pub flags_text : List FlavorFlag → List ℕ
flags_text [] = []
flags_text (f ∷ fs) = flag_text f ++ flat_map after_comma fs

-- flags in parentheses; nothing where there are none
abbrev pub own_flags_text : List FlavorFlag → List ℕ
own_flags_text [] = []
own_flags_text (f ∷ fs) = 40 ∷ flags_text (f ∷ fs) ++ 41 ∷ []

abbrev pub set_text : InstructionSet → List ℕ
set_text s = s.word ++ own_flags_text s.flags

abbrev pub after_space : InstructionSet → List ℕ
after_space s = 32 ∷ set_text s

-- sets, with a space between two
abbrev pub sets_text : List InstructionSet → List ℕ
sets_text [] = []
sets_text (s ∷ ss) = set_text s ++ flat_map after_space ss

-- `is: ` and the sets, after a space where there are flags; nothing where there are no sets
abbrev pub sets_part : List FlavorFlag → List InstructionSet → List ℕ
sets_part fs [] = []
sets_part [] (s ∷ ss) = codes "is: " ++ sets_text (s ∷ ss)
sets_part (f ∷ fs) (s ∷ ss) = codes " is: " ++ sets_text (s ∷ ss)

-- the canonical text
abbrev pub flavor_text : Parts → List ℕ
flavor_text p = flags_text p.flags ++ sets_part p.flags p.sets

-- the empty flavor, whose text is empty
abbrev pub no_parts : Parts
no_parts = record { flags = []; sets = [] }
