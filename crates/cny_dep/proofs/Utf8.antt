-- The canonical text of a flavor is ASCII.
use Rattle.std.specs.Prelude.{◌≡◌, ℕ, true, ◌&&◌, nat_le, List, [], ◌∷◌, length, codes}
use Rattle.std.proofs.Common.{lit<}
use Rattle.std.proofs.lemmas.Str.{IsAscii-append}
use Rattle.std.proofs.lemmas.Str.Ascii.{IsAscii-nil, IsAscii-cons}
use Rattle.std.specs.Cmp.{first_so, second_so}
use Rattle.std.specs.List.{flat_map, list_all}
use Rattle.std.specs.Str.{IsAscii}
use Rattle.cny_base.specs.Name.{is_word}
use Rattle.cny_base.proofs.Utf8Laws.{word_ascii}
use Rattle.cny_dep.specs.declared.parts.FlavorFlag.{FlavorFlag}
use Rattle.cny_dep.specs.declared.parts.InstructionSet.{InstructionSet}
use Rattle.cny_dep.specs.declared.parts.Parts.{Parts}
use Rattle.cny_dep.specs.declared.parts.Sense.{Sense}
use Rattle.cny_dep.specs.declared.parts.Sense.TheVariants.{Required, Preferred, PreferNot, Forbidden}
use Rattle.cny_dep.specs.Canonical.{is_flavor_word, is_flag, are_flags, is_set, are_sets, flag_count, is_flavor, sense_text, flag_text, after_comma, flags_text, own_flags_text, set_text, after_space, sets_text, sets_part, flavor_text}
use Rattle.cny_dep.specs.FlavorOrder.{rise}

ascii_word : (word : List ℕ) → is_flavor_word word ≡ true → IsAscii word
ascii_word word is = word_ascii word (second_so (nat_le (length word) 255) (is_word word) is)

ascii_sense : (s : Sense) → IsAscii (sense_text s)
ascii_sense Required = IsAscii-nil
ascii_sense Preferred = IsAscii-cons 126 [] (lit< tt) IsAscii-nil
ascii_sense PreferNot = IsAscii-cons 126 (33 ∷ []) (lit< tt) (IsAscii-cons 33 [] (lit< tt) IsAscii-nil)
ascii_sense Forbidden = IsAscii-cons 33 [] (lit< tt) IsAscii-nil

ascii_flag : (f : FlavorFlag) → is_flag f ≡ true → IsAscii (flag_text f)
ascii_flag f is = IsAscii-append (sense_text f.sense) f.word (ascii_sense f.sense) (ascii_word f.word is)

ascii_others : (fs : List FlavorFlag) → list_all is_flag fs ≡ true → IsAscii (flat_map after_comma fs)
ascii_others [] all = IsAscii-nil
ascii_others (f ∷ fs) all =
    IsAscii-append (after_comma f) (flat_map after_comma fs) (IsAscii-cons 44 (flag_text f) (lit< tt) (ascii_flag f (first_so (is_flag f) (list_all is_flag fs) all)))
    (ascii_others fs (second_so (is_flag f) (list_all is_flag fs) all))

ascii_flags : (fs : List FlavorFlag) → list_all is_flag fs ≡ true → IsAscii (flags_text fs)
ascii_flags [] all = IsAscii-nil
ascii_flags (f ∷ fs) all =
    IsAscii-append (flag_text f) (flat_map after_comma fs) (ascii_flag f (first_so (is_flag f) (list_all is_flag fs) all)) (ascii_others fs (second_so (is_flag f) (list_all is_flag fs) all))

ascii_own : (fs : List FlavorFlag) → list_all is_flag fs ≡ true → IsAscii (own_flags_text fs)
ascii_own [] all = IsAscii-nil
ascii_own (f ∷ fs) all =
    IsAscii-append (40 ∷ flags_text (f ∷ fs)) (41 ∷ []) (IsAscii-cons 40 (flags_text (f ∷ fs)) (lit< tt) (ascii_flags (f ∷ fs) all)) (IsAscii-cons 41 [] (lit< tt) IsAscii-nil)

pub good_words : (fs : List FlavorFlag) → are_flags fs ≡ true → list_all is_flag fs ≡ true
good_words fs is = first_so (list_all is_flag fs) (rise (λ f. f.word) fs) is

ascii_set : (s : InstructionSet) → is_set s ≡ true → IsAscii (set_text s)
ascii_set s is =
    IsAscii-append s.word (own_flags_text s.flags) (ascii_word s.word (first_so (is_flavor_word s.word) (are_flags s.flags) is))
    (ascii_own s.flags (good_words s.flags (second_so (is_flavor_word s.word) (are_flags s.flags) is)))

ascii_more_sets : (ss : List InstructionSet) → list_all is_set ss ≡ true → IsAscii (flat_map after_space ss)
ascii_more_sets [] all = IsAscii-nil
ascii_more_sets (s ∷ ss) all =
    IsAscii-append (after_space s) (flat_map after_space ss) (IsAscii-cons 32 (set_text s) (lit< tt) (ascii_set s (first_so (is_set s) (list_all is_set ss) all)))
    (ascii_more_sets ss (second_so (is_set s) (list_all is_set ss) all))

ascii_sets : (ss : List InstructionSet) → list_all is_set ss ≡ true → IsAscii (sets_text ss)
ascii_sets [] all = IsAscii-nil
ascii_sets (s ∷ ss) all =
    IsAscii-append (set_text s) (flat_map after_space ss) (ascii_set s (first_so (is_set s) (list_all is_set ss) all)) (ascii_more_sets ss (second_so (is_set s) (list_all is_set ss) all))

ascii_is : IsAscii (codes "is: ")
ascii_is =
    IsAscii-cons 105 (115 ∷ 58 ∷ 32 ∷ []) (lit< tt) (IsAscii-cons 115 (58 ∷ 32 ∷ []) (lit< tt) (IsAscii-cons 58 (32 ∷ []) (lit< tt) (IsAscii-cons 32 [] (lit< tt) IsAscii-nil)))

ascii_part : (fs : List FlavorFlag) (ss : List InstructionSet) → list_all is_set ss ≡ true → IsAscii (sets_part fs ss)
ascii_part fs [] all = IsAscii-nil
ascii_part [] (s ∷ ss) all = IsAscii-append (codes "is: ") (sets_text (s ∷ ss)) ascii_is (ascii_sets (s ∷ ss) all)
ascii_part (f ∷ fs) (s ∷ ss) all =
    IsAscii-append (codes " is: ") (sets_text (s ∷ ss)) (IsAscii-cons 32 (codes "is: ") (lit< tt) ascii_is) (ascii_sets (s ∷ ss) all)

pub flavor_ascii : (p : Parts) → is_flavor p ≡ true → IsAscii (flavor_text p)
flavor_ascii p is =
    let both = second_so (nat_le (flag_count p) 64) (are_flags p.flags && are_sets p.sets) is in
    let sets = second_so (are_flags p.flags) (are_sets p.sets) both in
    IsAscii-append (flags_text p.flags) (sets_part p.flags p.sets) (ascii_flags p.flags (good_words p.flags (first_so (are_flags p.flags) (are_sets p.sets) both)))
    (ascii_part p.flags p.sets (first_so (list_all is_set p.sets) (rise (λ s. s.word) p.sets) sets))
