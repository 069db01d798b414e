-- The relaxed texts of flavors: the words in any order, and more or fewer spaces.
use Rattle.std.specs.Prelude.{◌≡◌, ℕ, true, List, [], ◌∷◌, ◌++◌, map, replicate, codes, Result, Ok, Err}
use Rattle.std.specs.List.{flat_map}
use Rattle.cny_base.specs.declared.text.TextFault.{TextFault}
use Rattle.cny_base.specs.declared.text.TextFault.TheVariants as fault
use Rattle.cny_dep.specs.declared.parts.FlavorFlag.{FlavorFlag}
use Rattle.cny_dep.specs.declared.parts.InstructionSet.{InstructionSet}
use Rattle.cny_dep.specs.declared.parts.Parts.{Parts}
use Rattle.cny_dep.specs.Canonical.{flag_text, is_flavor, flavor_text}
use Rattle.cny_dep.specs.FlavorOrder.{in_order}

-- a flag as it is written, and how many spaces stand between it and the comma before it, where there is one
pub record SpacedFlag : Type 0 where
  pub spaces : ℕ
  pub flag : FlavorFlag

-- a set as it is written, and how many spaces more than one stand before it, where a set precedes it
pub record SpacedSet : Type 0 where
  pub spaces : ℕ
  pub word : List ℕ
  pub flags : List SpacedFlag

-- a flavor as it is written: flags and sets in any order, with how many spaces more than one stand before `is:`,
-- where flags precede it, and how many stand after it
pub record Spelling : Type 0 where
  pub flags : List SpacedFlag
  pub before : ℕ
  pub after : ℕ
  pub sets : List SpacedSet

-- ---- the text of a spelling

abbrev pub spaces : ℕ → List ℕ
spaces n = replicate n 32

abbrev pub comma_and_flag : SpacedFlag → List ℕ
comma_and_flag f = 44 ∷ spaces f.spaces ++ flag_text f.flag

abbrev pub spelled_flags : List SpacedFlag → List ℕ
spelled_flags [] = []
spelled_flags (f ∷ fs) = flag_text f.flag ++ flat_map comma_and_flag fs

abbrev pub spelled_own_flags : List SpacedFlag → List ℕ
spelled_own_flags [] = []
spelled_own_flags (f ∷ fs) = 40 ∷ spelled_flags (f ∷ fs) ++ 41 ∷ []

abbrev pub spelled_set : SpacedSet → List ℕ
spelled_set s = s.word ++ spelled_own_flags s.flags

abbrev pub space_and_set : SpacedSet → List ℕ
space_and_set s = 32 ∷ spaces s.spaces ++ spelled_set s

abbrev pub spelled_sets : List SpacedSet → List ℕ
spelled_sets [] = []
spelled_sets (s ∷ ss) = spelled_set s ++ flat_map space_and_set ss

abbrev pub spelled_sets_part : List SpacedFlag → ℕ → ℕ → List SpacedSet → List ℕ
spelled_sets_part fs before after [] = []
spelled_sets_part [] before after (s ∷ ss) = codes "is:" ++ (spaces after ++ spelled_sets (s ∷ ss))
spelled_sets_part (f ∷ fs) before after (s ∷ ss) = 32 ∷ spaces before ++ (codes "is:" ++ (spaces after ++ spelled_sets (s ∷ ss)))

abbrev pub spelling_text : Spelling → List ℕ
spelling_text s = spelled_flags s.flags ++ spelled_sets_part s.flags s.before s.after s.sets

-- ---- what a spelling stands for

abbrev pub flags_of : List SpacedFlag → List FlavorFlag
flags_of fs = in_order (λ f. f.word) (map (λ f. f.flag) fs)

abbrev pub set_of : SpacedSet → InstructionSet
set_of s = record { word = s.word; flags = flags_of s.flags }

abbrev pub sets_of : List SpacedSet → List InstructionSet
sets_of ss = in_order (λ s. s.word) (map set_of ss)

-- the flags and sets in the order of their words
abbrev pub value_of : Spelling → Parts
value_of s = record { flags = flags_of s.flags; sets = sets_of s.sets }

-- the text spells the parts, which are those of a flavor
pub record IsRelaxedText (text : List ℕ) (parts : Parts) : Type 0 where
  pub spelling : Spelling
  pub text_is : text ≡ spelling_text spelling
  pub parts_are : parts ≡ value_of spelling
  pub flavor : is_flavor parts ≡ true

-- the canonical text of a flavor of these parts
pub record IsCanonicalText (text : List ℕ) (parts : Parts) : Type 0 where
  pub text_is : text ≡ flavor_text parts
  pub flavor : is_flavor parts ≡ true

-- What a reader of a text of these parts answers: the parts, or that memory ran out.
abbrev pub IsReadAs : Result Parts TextFault → Parts → Type 0
IsReadAs (Ok read) parts = read ≡ parts
IsReadAs (Err fault.Memory) parts = Unit {0}
IsReadAs (Err fault.Bad) parts = ⊥
