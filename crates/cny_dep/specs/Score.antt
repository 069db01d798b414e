-- How well a trove's flavor fits a system's.
use Rattle.std.specs.Prelude.{ℕ, ℤ, pos, negsuc, ◌+ℤ◌, List, [], ◌∷◌, ◌++◌, map, Option, Some, None, if◌then◌else◌}
use Rattle.std.specs.List.{flat_map}
use Rattle.std.specs.Option.{option_map}
use Rattle.std.specs.Str.{bytes_eq}
use Rattle.cny_dep.specs.declared.parts.FlavorFlag.{FlavorFlag}
use Rattle.cny_dep.specs.declared.parts.InstructionSet.{InstructionSet}
use Rattle.cny_dep.specs.declared.parts.Parts.{Parts}
use Rattle.cny_dep.specs.declared.parts.Sense.{Sense}
use Rattle.cny_dep.specs.declared.parts.Sense.TheVariants.{Required, Preferred, PreferNot, Forbidden}

-- the table: what a flag of the trove is worth by its sense and by that of the system's flag of the same word, if there is one;
-- None is a refusal
abbrev pub cell : Sense → Option Sense → Option ℤ
cell Required (Some Required) = Some (pos 2)
cell Required (Some Preferred) = Some (pos 1)
cell Required (Some PreferNot) = None
cell Required (Some Forbidden) = None
cell Required None = None
cell Preferred (Some Required) = Some (pos 1)
cell Preferred (Some Preferred) = Some (pos 2)
cell Preferred (Some PreferNot) = Some (negsuc 0)
cell Preferred (Some Forbidden) = Some (negsuc 1)
cell Preferred None = Some (negsuc 0)
cell PreferNot (Some Required) = Some (negsuc 1)
cell PreferNot (Some Preferred) = Some (negsuc 0)
cell PreferNot (Some PreferNot) = Some (pos 2)
cell PreferNot (Some Forbidden) = Some (pos 1)
cell PreferNot None = Some (pos 1)
cell Forbidden (Some Required) = None
cell Forbidden (Some Preferred) = None
cell Forbidden (Some PreferNot) = Some (pos 1)
cell Forbidden (Some Forbidden) = Some (pos 2)
cell Forbidden None = Some (pos 0)

-- the item of that word, if there is one
abbrev pub named : {X : Type 0} → (X → List ℕ) → List ℕ → List X → Option X
named word wanted [] = None
named word wanted (x ∷ xs) = if bytes_eq (word x) wanted then Some x else named word wanted xs

-- the sense of the flag of that word, if there is one
abbrev pub sense_of : List ℕ → List FlavorFlag → Option Sense
sense_of word fs = option_map (λ f. f.sense) (named (λ f. f.word) word fs)

-- the set of that word, if there is one
abbrev pub set_named : List ℕ → List InstructionSet → Option InstructionSet
set_named word ss = named (λ s. s.word) word ss

abbrev pub flag_cell : List FlavorFlag → FlavorFlag → Option ℤ
flag_cell system f = cell f.sense (sense_of f.word system)

abbrev pub flag_cells : List FlavorFlag → List FlavorFlag → List (Option ℤ)
flag_cells system fs = map (flag_cell system) fs

-- a set counts as one required flag, and its flags are looked up in the system's set of the same word
abbrev pub cells_with : InstructionSet → Option InstructionSet → List (Option ℤ)
cells_with s None = cell Required None ∷ flag_cells [] s.flags
cells_with s (Some other) = cell Required (Some Required) ∷ flag_cells other.flags s.flags

abbrev pub set_cells : List InstructionSet → InstructionSet → List (Option ℤ)
set_cells system s = cells_with s (set_named s.word system)

-- the sum, refused where one of the cells refuses
abbrev pub total : List (Option ℤ) → Option ℤ
total [] = Some (pos 0)
total (None ∷ cells) = None
total (Some n ∷ cells) = option_map (λ sum. n +ℤ sum) (total cells)

-- the cells of all flags and sets of the trove
abbrev pub score_cells : Parts → Parts → List (Option ℤ)
score_cells trove system = flag_cells system.flags trove.flags ++ flat_map (set_cells system.sets) trove.sets

abbrev pub flavor_score : Parts → Parts → Option ℤ
flavor_score trove system = total (score_cells trove system)
