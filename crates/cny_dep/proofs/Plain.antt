-- The canonical text is a relaxed one.
use Rattle.std.specs.Prelude.{◌≡◌, ◌↔◌, ℕ, Bool, true, false, not, IsTrue, ◌&&◌, nat_le, List, [], ◌∷◌, ◌++◌, map, codes, Result, Err, Some, refl}
use Rattle.std.proofs.Common.{sym, ◌∙◌, ap, subst}
use Rattle.std.proofs.lemmas.Option.{same_Some}
use Rattle.std.specs.Cmp.{first_so, second_so}
use Rattle.std.specs.Str.{bytes_eq}
use Rattle.std.specs.List.{flat_map, list_all}
use Rattle.cny_base.specs.declared.text.TextFault.{TextFault}
use Rattle.cny_base.specs.declared.text.TextFault.TheVariants as fault
use Rattle.cny_dep.specs.declared.parts.FlavorFlag.{FlavorFlag}
use Rattle.cny_dep.specs.declared.parts.InstructionSet.{InstructionSet}
use Rattle.cny_dep.specs.declared.parts.Parts.{Parts}
use Rattle.cny_dep.specs.Canonical.{is_flavor_word, is_flag, are_flags, is_set, are_sets, flag_count, is_flavor, flag_text, after_comma, flags_text, own_flags_text, set_text, after_space, sets_text, sets_part, flavor_text}
use Rattle.cny_dep.specs.FlavorOrder.{in_order, rise}
use Rattle.cny_dep.specs.FlavorReading.{Fails, parts_at}
use Rattle.cny_dep.specs.Spelling.{SpacedFlag, SpacedSet, Spelling, comma_and_flag, spelled_flags, spelled_own_flags, spelled_set, space_and_set, spelled_sets, spelled_sets_part, spelling_text, flags_of, set_of, sets_of, value_of, IsRelaxedText, IsCanonicalText, IsReadAs}
use Rattle.cny_dep.proofs.Putting.{in_order-rising}
use Rattle.cny_dep.proofs.FlavorFound.{parts_found}
use Rattle.cny_dep.proofs.Again.{parts_again}
use Rattle.cny_base.proofs.ByteLists.{bytes_mean as equal_bytes, bytes_itself as own_bytes}

abbrev plain_flag : FlavorFlag → SpacedFlag
plain_flag f = record { spaces = 0; flag = f }

abbrev plain_set : InstructionSet → SpacedSet
plain_set s = record { spaces = 0; word = s.word; flags = map plain_flag s.flags }

-- the spelling that the canonical text is
abbrev plain : Parts → Spelling
plain p = record { flags = map plain_flag p.flags; before = 0; after = 1; sets = map plain_set p.sets }

-- ---- its text

commas_plain : (fs : List FlavorFlag) → flat_map after_comma fs ≡ flat_map comma_and_flag (map plain_flag fs)
commas_plain [] = refl
commas_plain (f ∷ fs) = ap (λ l. after_comma f ++ l) (commas_plain fs)

flags_plain : (fs : List FlavorFlag) → flags_text fs ≡ spelled_flags (map plain_flag fs)
flags_plain [] = refl
flags_plain (f ∷ fs) = ap (λ l. flag_text f ++ l) (commas_plain fs)

own_plain : (fs : List FlavorFlag) → own_flags_text fs ≡ spelled_own_flags (map plain_flag fs)
own_plain [] = refl
own_plain (f ∷ fs) = ap (λ l. 40 ∷ (l ++ 41 ∷ [])) (flags_plain (f ∷ fs))

set_plain : (s : InstructionSet) → set_text s ≡ spelled_set (plain_set s)
set_plain s = ap (λ l. s.word ++ l) (own_plain s.flags)

spaces_plain : (ss : List InstructionSet) → flat_map after_space ss ≡ flat_map space_and_set (map plain_set ss)
spaces_plain [] = refl
spaces_plain (s ∷ ss) = ap (λ l. (32 ∷ l) ++ flat_map after_space ss) (set_plain s) ∙ ap (λ l. (32 ∷ spelled_set (plain_set s)) ++ l) (spaces_plain ss)

sets_plain : (ss : List InstructionSet) → sets_text ss ≡ spelled_sets (map plain_set ss)
sets_plain [] = refl
sets_plain (s ∷ ss) = ap (λ l. l ++ flat_map after_space ss) (set_plain s) ∙ ap (λ l. spelled_set (plain_set s) ++ l) (spaces_plain ss)

part_plain : (fs : List FlavorFlag) (ss : List InstructionSet) → sets_part fs ss ≡ spelled_sets_part (map plain_flag fs) 0 1 (map plain_set ss)
part_plain [] [] = refl
part_plain (f ∷ fs) [] = refl
part_plain [] (s ∷ ss) = ap (λ l. codes "is: " ++ l) (sets_plain (s ∷ ss))
part_plain (f ∷ fs) (s ∷ ss) = ap (λ l. codes " is: " ++ l) (sets_plain (s ∷ ss))

text_plain : (p : Parts) → flavor_text p ≡ spelling_text (plain p)
text_plain p = ap (λ l. l ++ sets_part p.flags p.sets) (flags_plain p.flags) ∙ ap (λ l. spelled_flags (map plain_flag p.flags) ++ l) (part_plain p.flags p.sets)

-- ---- its value

unspaced : (fs : List FlavorFlag) → map (λ f. f.flag) (map plain_flag fs) ≡ fs
unspaced [] = refl
unspaced (f ∷ fs) = ap (λ l. f ∷ l) (unspaced fs)

flags_same : (fs : List FlavorFlag) → are_flags fs ≡ true → flags_of (map plain_flag fs) ≡ fs
flags_same fs is = ap (in_order (λ f. f.word)) (unspaced fs) ∙ in_order-rising (λ f. f.word) fs (second_so (list_all is_flag fs) (rise (λ f. f.word) fs) is)

set_with : List ℕ → List FlavorFlag → InstructionSet
set_with word flags = record { word = word; flags = flags }

set_same : (s : InstructionSet) → is_set s ≡ true → set_of (plain_set s) ≡ s
unfolding set_with
set_same s is = ap (set_with s.word) (flags_same s.flags (second_so (is_flavor_word s.word) (are_flags s.flags) is))

each_same : (ss : List InstructionSet) → list_all is_set ss ≡ true → map set_of (map plain_set ss) ≡ ss
each_same [] all = refl
each_same (s ∷ ss) all =
    ap (λ x. x ∷ map set_of (map plain_set ss)) (set_same s (first_so (is_set s) (list_all is_set ss) all)) ∙ ap (λ l. s ∷ l) (each_same ss (second_so (is_set s) (list_all is_set ss) all))

sets_same : (ss : List InstructionSet) → are_sets ss ≡ true → sets_of (map plain_set ss) ≡ ss
sets_same ss is =
    ap (in_order (λ s. s.word)) (each_same ss (first_so (list_all is_set ss) (rise (λ s. s.word) ss) is))
    ∙ in_order-rising (λ s. s.word) ss (second_so (list_all is_set ss) (rise (λ s. s.word) ss) is)

parts_with : List FlavorFlag → List InstructionSet → Parts
parts_with flags sets = record { flags = flags; sets = sets }

value_plain : (p : Parts) → is_flavor p ≡ true → value_of (plain p) ≡ p
unfolding parts_with
value_plain p is =
    let both = second_so (nat_le (flag_count p) 64) (are_flags p.flags && are_sets p.sets) is in
    ap (λ l. parts_with l (sets_of (map plain_set p.sets))) (flags_same p.flags (first_so (are_flags p.flags) (are_sets p.sets) both))
    ∙ ap (parts_with p.flags) (sets_same p.sets (second_so (are_flags p.flags) (are_sets p.sets) both))

pub canonical_relaxed : (text : List ℕ) (p : Parts) → IsCanonicalText text p → IsRelaxedText text p
canonical_relaxed text p is = record {
  spelling = plain p;
  text_is = is.text_is ∙ text_plain p;
  parts_are = sym (value_plain p is.flavor);
  flavor = is.flavor;
}

-- ---- what reading gives

pub relaxed_read : (text : List ℕ) (p : Parts) → IsRelaxedText text p → parts_at text ≡ Some p
relaxed_read text p is =
    ap parts_at is.text_is ∙ parts_again is.spelling (ap is_flavor (sym is.parts_are) ∙ is.flavor) ∙ ap Some (sym is.parts_are)

pub read_relaxed : (text : List ℕ) (p : Parts) → parts_at text ≡ Some p → is_flavor p ≡ true → IsRelaxedText text p
read_relaxed text p read is =
    let found = parts_found text p read in
    record { spelling = found.written; text_is = found.text; parts_are = found.parts_are; flavor = is }

-- flavors with one text are one
pub same_from_text : (a b : Parts) → is_flavor a ≡ true → is_flavor b ≡ true → flavor_text a ≡ flavor_text b → a ≡ b
same_from_text a b good_a good_b same =
    same_Some a b
    (sym (relaxed_read (flavor_text a) a (canonical_relaxed (flavor_text a) a (record { text_is = refl; flavor = good_a })))
    ∙ relaxed_read (flavor_text a) b (canonical_relaxed (flavor_text a) b (record { text_is = same; flavor = good_b })))

-- a text of a flavor isn't refused
pub failing_reader : (e : TextFault) (text : List ℕ) (p : Parts) (r : Result Parts TextFault) → Fails e (parts_at text) → r ≡ Err e → IsRelaxedText text p → IsReadAs r p
failing_reader fault.Memory text p r fails is relaxed = subst (λ (x : Result Parts TextFault). IsReadAs x p) (sym is) tt
failing_reader fault.Bad text p r fails is relaxed = absurd (cc (fails, relaxed_read text p relaxed))

-- ---- equal bytes

not_false : (v : Bool) → false ≡ not v → v ≡ true
not_false true h = refl
not_false false h = absurd (cc h)

pub same_bytes : (a b : List ℕ) → false ≡ not (bytes_eq a b) → a ≡ b
same_bytes a b h = equal_bytes a b (not_false (bytes_eq a b) h)

pub other_bytes : (a b : List ℕ) → true ≡ not (bytes_eq a b) → a ≡ b → ⊥
other_bytes a b h same = cc (h, ap (bytes_eq a) (sym same) ∙ own_bytes a)

-- the test of texts tells whether the flavors are equal
pub tells_equal : (v : Bool) (a b : Parts) → is_flavor a ≡ true → is_flavor b ≡ true → v ≡ bytes_eq (flavor_text a) (flavor_text b) → IsTrue v ↔ (a ≡ b)
tells_equal v a b good_a good_b is = (
  λ yes. same_from_text a b good_a good_b (equal_bytes (flavor_text a) (flavor_text b) (sym is ∙ yes)),
  λ same. is ∙ ap (λ p. bytes_eq (flavor_text a) (flavor_text p)) (sym same) ∙ own_bytes (flavor_text a),
)
