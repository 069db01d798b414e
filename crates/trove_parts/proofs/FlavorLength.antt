-- How long the text of a flavor may be: 64 flags of a word of 255 bytes, a sense of two and a comma each, and ` is: `.
use Rattle.std.proofs.Common.{◌≡◌, ℕ, ◌+◌, ◌*◌, ◌≤◌, true, ◌&&◌, nat_le, List, [], ◌∷◌, length, arith, length-append}
use Rattle.std.specs.Cmp.{first_so, second_so}
use Rattle.std.specs.List.{list_all, flat_map, sum_by}
use Rattle.std.specs.Prelude.{codes}
use Rattle.std.proofs.lemmas.Bool.{leb-true}
use Rattle.std.proofs.lemmas.List.Sums.{sum_by-cons}
use Rattle.cny_version.specs.cny-base.Name.{is_word}
use Rattle.cny_dep.specs.declared.parts.FlavorFlag.{FlavorFlag}
use Rattle.cny_dep.specs.declared.parts.InstructionSet.{InstructionSet}
use Rattle.cny_dep.specs.declared.parts.Parts.{Parts}
use Rattle.cny_dep.specs.declared.parts.Sense.{Sense}
use Rattle.cny_dep.specs.declared.parts.Sense.TheVariants.{Required, Preferred, PreferNot, Forbidden}
use Rattle.cny_dep.specs.Canonical.{is_flavor_word, is_flag, are_flags, is_set, are_sets, set_count, flag_count, is_flavor, sense_text, flag_text, after_comma, flags_text, own_flags_text, set_text, after_space, sets_text, sets_part, flavor_text}
use Rattle.cny_dep.specs.FlavorOrder.{rise}
use Rattle.cny_dep.proofs.Utf8.{good_words as good_flags}

word_length : (word : List ℕ) → is_flavor_word word ≡ true → length word ≤ 255
word_length word is = leb-true (length word) 255 (first_so (nat_le (length word) 255) (is_word word) is)

sense_length : (s : Sense) → length (sense_text s) ≤ 2
sense_length Required = omega arith
sense_length Preferred = omega arith
sense_length PreferNot = omega arith
sense_length Forbidden = omega arith

flag_length : (f : FlavorFlag) → is_flag f ≡ true → length (flag_text f) ≤ 257
flag_length f is = omega (arith, length-append (sense_text f.sense) f.word, sense_length f.sense, word_length f.word is)

more_flags_length : (fs : List FlavorFlag) → list_all is_flag fs ≡ true → length (flat_map after_comma fs) ≤ 258 * length fs
more_flags_length [] all = omega arith
more_flags_length (f ∷ fs) all =
    omega (arith, length-append (after_comma f) (flat_map after_comma fs), flag_length f (first_so (is_flag f) (list_all is_flag fs) all), more_flags_length fs (second_so (is_flag f) (list_all is_flag fs) all))

flags_length : (fs : List FlavorFlag) → list_all is_flag fs ≡ true → length (flags_text fs) ≤ 258 * length fs
flags_length [] all = omega arith
flags_length (f ∷ fs) all =
    omega (arith, length-append (flag_text f) (flat_map after_comma fs), flag_length f (first_so (is_flag f) (list_all is_flag fs) all), more_flags_length fs (second_so (is_flag f) (list_all is_flag fs) all))

own_length : (fs : List FlavorFlag) → list_all is_flag fs ≡ true → length (own_flags_text fs) ≤ 258 * length fs + 2
own_length [] all = omega arith
own_length (f ∷ fs) all = omega (arith, length-append (40 ∷ flags_text (f ∷ fs)) (41 ∷ []), flags_length (f ∷ fs) all)

set_length : (s : InstructionSet) → is_set s ≡ true → length (set_text s) + 1 ≤ 258 * set_count s
set_length s is =
    omega (
      arith,
      length-append s.word (own_flags_text s.flags),
      word_length s.word (first_so (is_flavor_word s.word) (are_flags s.flags) is),
      own_length s.flags (good_flags s.flags (second_so (is_flavor_word s.word) (are_flags s.flags) is)),
    )

more_sets_length : (ss : List InstructionSet) → list_all is_set ss ≡ true → length (flat_map after_space ss) ≤ 258 * sum_by set_count ss
more_sets_length [] all = omega arith
more_sets_length (s ∷ ss) all =
    omega (arith, sum_by-cons set_count s ss, length-append (after_space s) (flat_map after_space ss), set_length s (first_so (is_set s) (list_all is_set ss) all), more_sets_length ss (second_so (is_set s) (list_all is_set ss) all))

sets_length : (ss : List InstructionSet) → list_all is_set ss ≡ true → length (sets_text ss) ≤ 258 * sum_by set_count ss
sets_length [] all = omega arith
sets_length (s ∷ ss) all =
    omega (arith, sum_by-cons set_count s ss, length-append (set_text s) (flat_map after_space ss), set_length s (first_so (is_set s) (list_all is_set ss) all), more_sets_length ss (second_so (is_set s) (list_all is_set ss) all))

part_length : (fs : List FlavorFlag) (ss : List InstructionSet) → list_all is_set ss ≡ true → length (sets_part fs ss) ≤ 5 + 258 * sum_by set_count ss
part_length fs [] all = omega arith
part_length [] (s ∷ ss) all = omega (arith, length-append (codes "is: ") (sets_text (s ∷ ss)), sets_length (s ∷ ss) all)
part_length (f ∷ fs) (s ∷ ss) all = omega (arith, length-append (codes " is: ") (sets_text (s ∷ ss)), sets_length (s ∷ ss) all)

pub flavor_short : (p : Parts) → is_flavor p ≡ true → length (flavor_text p) ≤ 16517
flavor_short p is =
    let both = second_so (nat_le (flag_count p) 64) (are_flags p.flags && are_sets p.sets) is in
    let few : flag_count p ≤ 64 = leb-true (flag_count p) 64 (first_so (nat_le (flag_count p) 64) (are_flags p.flags && are_sets p.sets) is) in
    let sets = first_so (list_all is_set p.sets) (rise (λ s. s.word) p.sets) (second_so (are_flags p.flags) (are_sets p.sets) both) in
    let flags = good_flags p.flags (first_so (are_flags p.flags) (are_sets p.sets) both) in
    omega (arith, length-append (flags_text p.flags) (sets_part p.flags p.sets), flags_length p.flags flags, part_length p.flags p.sets sets)
