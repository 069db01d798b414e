-- What is spelled so is read.
use Rattle.std.specs.Prelude.{◌≡◌, ℕ, zero, Bool, true, false, cond, ◌==◌, ◌&&◌, ◌||◌, not, nat_le, List, [], ◌∷◌, ◌++◌, map, length, take, drop, codes, Option, Some, None, refl}
use Rattle.std.proofs.Common.{suc, ◌+◌, ◌≤◌, sym, ◌∙◌, ap, subst, arith, append_assoc}
use Rattle.std.proofs.lemmas.Bool.Decides.{nat_tests}
use Rattle.std.proofs.lemmas.List.{append-nil, length-map}
use Rattle.std.proofs.lemmas.List.Sums.{sum_by-cons}
use Rattle.std.proofs.Math.Seq.{take-append_seam, drop-append_seam}
use Rattle.std.specs.Char.{is_ascii_alphanumeric}
use Rattle.std.specs.Cmp.{first_so, second_so}
use Rattle.std.specs.Cmp.Derive.{both_true}
use Rattle.std.specs.List.{flat_map, list_all, sum_by}
use Rattle.std.specs.Option.{option_map, option_and_then}
use Rattle.cny_base.specs.Name.{is_word, is_word_byte}
use Rattle.cny_dep.specs.declared.parts.FlavorFlag.{FlavorFlag}
use Rattle.cny_dep.specs.declared.parts.InstructionSet.{InstructionSet}
use Rattle.cny_dep.specs.declared.parts.Sense.{Sense}
use Rattle.cny_dep.specs.declared.parts.Sense.TheVariants.{Required, Preferred, PreferNot, Forbidden}
use Rattle.cny_dep.specs.Canonical.{is_flavor_word, is_flag, are_flags, is_set, are_sets, set_count, is_flavor, sense_text, flag_text}
use Rattle.cny_dep.specs.FlavorOrder.{rise}
use Rattle.cny_dep.specs.Spelling.{SpacedFlag, SpacedSet, Spelling, spaces, comma_and_flag, spelled_flags, spelled_own_flags, spelled_set, space_and_set, spelled_sets, spelled_sets_part, spelling_text, flags_of, set_of, sets_of, value_of}
use Rattle.cny_dep.specs.FlavorReading.{after_byte, skip_spaces, word_len, sense_after_tilde, sense_without_tilde, sense_from, sense_at, flag_from, flag_at, with_front, flags_from, flags_at, in_order_of, ordered_flags_at, closed, own_flags_from, own_flags_at, with_word, set_at, with_first_set, sets_from, sets_at, after_is, ordered_sets, sets_part_at, with_flags, sets_after_at, parts_from, parts_at}
use Rattle.cny_dep.proofs.Putting.{list_all-in_order, length-in_order}
use Rattle.cny_base.proofs.Bools.{or_left as any_first}
use Rattle.cny_base.proofs.Counts.{at_most, is_at_most}
use Rattle.cny_base.proofs.Again.{not_true}

-- ---- words

-- bytes that don't go on with a word
abbrev ends_word : List ℕ → Bool
ends_word [] = true
ends_word (b ∷ bs) = not (is_word_byte b)

-- a word's first byte
record First (word : List ℕ) : Type 0 where
  byte : ℕ
  rest : List ℕ
  word_is : word ≡ byte ∷ rest
  alphanumeric : is_ascii_alphanumeric byte ≡ true

first_of_word : (word : List ℕ) → is_word word ≡ true → First word
first_of_word [] is = absurd (cc is)
first_of_word (b ∷ bs) is = record { byte = b; rest = bs; word_is = refl; alphanumeric = first_so (is_ascii_alphanumeric b) (list_all is_word_byte bs) is }

first_byte : (word : List ℕ) → is_flavor_word word ≡ true → First word
first_byte word is = first_of_word word (second_so (nat_le (length word) 255) (is_word word) is)

word_bytes_here : (word : List ℕ) → is_word word ≡ true → list_all is_word_byte word ≡ true
word_bytes_here [] is = refl
word_bytes_here (b ∷ bs) is =
    both_true (any_first (is_ascii_alphanumeric b) (b == 95 || (b == 45 || (b == 46 || b == 43))) (first_so (is_ascii_alphanumeric b) (list_all is_word_byte bs) is))
    (second_so (is_ascii_alphanumeric b) (list_all is_word_byte bs) is)

word_bytes : (word : List ℕ) → is_flavor_word word ≡ true → list_all is_word_byte word ≡ true
word_bytes word is = word_bytes_here word (second_so (nat_le (length word) 255) (is_word word) is)

ended_len : (rest : List ℕ) → ends_word rest ≡ true → word_len rest ≡ 0
ended_len [] ends = refl
ended_len (b ∷ bs) ends = ap (λ v. cond v (1 + word_len bs) 0) (not_true (is_word_byte b) ends)

one_plus : (n : ℕ) → 1 + n ≡ suc n
one_plus n = omega arith

whole_len : (word rest : List ℕ) → list_all is_word_byte word ≡ true → ends_word rest ≡ true → word_len (word ++ rest) ≡ length word
whole_len [] rest all ends = ended_len rest ends
whole_len (b ∷ bs) rest all ends =
    ap (λ v. cond v (1 + word_len (bs ++ rest)) 0) (first_so (is_word_byte b) (list_all is_word_byte bs) all)
    ∙ ap (λ n. 1 + n) (whole_len bs rest (second_so (is_word_byte b) (list_all is_word_byte bs) all) ends)
    ∙ one_plus (length bs)

word_again : (word rest : List ℕ) → is_flavor_word word ≡ true → ends_word rest ≡ true → take (word_len (word ++ rest)) (word ++ rest) ≡ word
word_again word rest is ends = ap (λ n. take n (word ++ rest)) (whole_len word rest (word_bytes word is) ends) ∙ take-append_seam word rest

rest_again : (word rest : List ℕ) → is_flavor_word word ≡ true → ends_word rest ≡ true → drop (word_len (word ++ rest)) (word ++ rest) ≡ rest
rest_again word rest is ends = ap (λ n. drop n (word ++ rest)) (whole_len word rest (word_bytes word is) ends) ∙ drop-append_seam word rest

-- ---- flags

not_sense : (b : ℕ) → is_ascii_alphanumeric b ≡ true → ((b == 126) ≡ false) × ((b == 33) ≡ false) × ((b == 32) ≡ false) × ((b == 40) ≡ false)
not_sense b is = (grind (arith, nat_tests), grind (arith, nat_tests), grind (arith, nat_tests), grind (arith, nat_tests))

absent : (wanted b : ℕ) (bs : List ℕ) → (b == wanted) ≡ false → after_byte wanted (b ∷ bs) ≡ None
absent wanted b bs not_so = ap (λ v. cond v (Some bs) None) not_so

sense_again : (s : Sense) (b : ℕ) (bs : List ℕ) → is_ascii_alphanumeric b ≡ true → sense_at (sense_text s ++ b ∷ bs) ≡ (s, b ∷ bs)
sense_again Required b bs is = ap (sense_from (b ∷ bs)) (absent 126 b bs (not_sense b is).0) ∙ ap (sense_without_tilde (b ∷ bs)) (absent 33 b bs (not_sense b is).1)
sense_again Preferred b bs is = ap (sense_after_tilde (b ∷ bs)) (absent 33 b bs (not_sense b is).1)
sense_again PreferNot b bs is = refl
sense_again Forbidden b bs is = refl

flag_with : Sense → List ℕ → List ℕ → FlavorFlag × List ℕ
flag_with sense word rest = (record { sense = sense; word = word }, rest)

flag_again : (f : FlavorFlag) (rest : List ℕ) → is_flag f ≡ true → ends_word rest ≡ true → flag_at (flag_text f ++ rest) ≡ (f, rest)
unfolding flag_at flag_with
flag_again f rest is ends =
    let first = first_byte f.word is in
    let front : f.word ++ rest ≡ first.byte ∷ (first.rest ++ rest) = ap (λ l. l ++ rest) first.word_is in
    let sensed : sense_at (flag_text f ++ rest) ≡ (f.sense, f.word ++ rest) =
    ap sense_at (append_assoc (sense_text f.sense) f.word rest ∙ ap (λ l. sense_text f.sense ++ l) front)
    ∙ sense_again f.sense first.byte (first.rest ++ rest) first.alphanumeric ∙ ap (λ l. (f.sense, l)) (sym front) in
    ap flag_from sensed
    ∙ ap (λ w. flag_with f.sense w (drop (word_len (f.word ++ rest)) (f.word ++ rest))) (word_again f.word rest is ends)
    ∙ ap (flag_with f.sense f.word) (rest_again f.word rest is ends)

skip_all : (n : ℕ) (bytes : List ℕ) → skip_spaces bytes ≡ bytes → skip_spaces (spaces n ++ bytes) ≡ bytes
skip_all zero bytes is = is
skip_all (suc n) bytes is = skip_all n bytes is

no_skip : (b : ℕ) (bs : List ℕ) → (b == 32) ≡ false → skip_spaces (b ∷ bs) ≡ b ∷ bs
no_skip b bs not_space = ap (λ v. cond v (skip_spaces bs) (b ∷ bs)) not_space

no_skip_word : (word rest : List ℕ) → is_flavor_word word ≡ true → skip_spaces (word ++ rest) ≡ word ++ rest
no_skip_word word rest is =
    let first = first_byte word is in
    let front : word ++ rest ≡ first.byte ∷ (first.rest ++ rest) = ap (λ l. l ++ rest) first.word_is in
    ap skip_spaces front ∙ no_skip first.byte (first.rest ++ rest) (not_sense first.byte first.alphanumeric).2 ∙ sym front

no_skip_sensed : (s : Sense) (word rest : List ℕ) → is_flavor_word word ≡ true → skip_spaces (sense_text s ++ (word ++ rest)) ≡ sense_text s ++ (word ++ rest)
no_skip_sensed Required word rest is = no_skip_word word rest is
no_skip_sensed Preferred word rest is = refl
no_skip_sensed PreferNot word rest is = refl
no_skip_sensed Forbidden word rest is = refl

no_skip_flag : (f : FlavorFlag) (rest : List ℕ) → is_flag f ≡ true → skip_spaces (flag_text f ++ rest) ≡ flag_text f ++ rest
no_skip_flag f rest is = ap skip_spaces (append_assoc (sense_text f.sense) f.word rest) ∙ no_skip_sensed f.sense f.word rest is ∙ sym (append_assoc (sense_text f.sense) f.word rest)

abbrev written : List SpacedFlag → List FlavorFlag
written fs = map (λ f. f.flag) fs

no_skip_flags : (f : SpacedFlag) (fs : List SpacedFlag) (rest : List ℕ) → is_flag f.flag ≡ true → skip_spaces (spelled_flags (f ∷ fs) ++ rest) ≡ spelled_flags (f ∷ fs) ++ rest
no_skip_flags f fs rest is =
    let group = append_assoc (flag_text f.flag) (flat_map comma_and_flag fs) rest in
    ap skip_spaces group ∙ no_skip_flag f.flag (flat_map comma_and_flag fs ++ rest) is ∙ sym group

-- what is read at the front, by its first flag
pub flags_opens : (n : ℕ) (bytes : List ℕ) (r : FlavorFlag × List ℕ) (next : Option (List ℕ)) → flag_at bytes ≡ r → after_byte 44 r.1 ≡ next
    → flags_at (suc n) bytes ≡ flags_from r (option_map (λ rest. flags_at n (skip_spaces rest)) next)
unfolding flags_at
flags_opens n bytes r next is then =
    ap (λ x. flags_from x (option_map (λ rest. flags_at n (skip_spaces rest)) (after_byte 44 x.1))) is
    ∙ ap (λ x. flags_from r (option_map (λ rest. flags_at n (skip_spaces rest)) x)) then

regroup_flags : (a s t r rest : List ℕ) → (a ++ ((44 ∷ s ++ t) ++ r)) ++ rest ≡ a ++ (44 ∷ (s ++ ((t ++ r) ++ rest)))
regroup_flags a s t r rest = simp append_assoc

flags_again : (n : ℕ) (f : SpacedFlag) (fs : List SpacedFlag) (rest : List ℕ) → length (f ∷ fs) ≤ n → list_all is_flag (written (f ∷ fs)) ≡ true → ends_word rest ≡ true → after_byte 44 rest ≡ None
    → flags_at n (spelled_flags (f ∷ fs) ++ rest) ≡ Some (written (f ∷ fs), rest)
flags_again zero f fs rest within all ends no_comma = absurd (omega arith)
flags_again (suc n) f [] rest within all ends no_comma =
    ap (λ l. flags_at (suc n) (l ++ rest)) (append-nil (flag_text f.flag))
    ∙ flags_opens n (flag_text f.flag ++ rest) (f.flag, rest) None (flag_again f.flag rest (first_so (is_flag f.flag) true all) ends) no_comma
flags_again (suc n) f (g ∷ gs) rest within all ends no_comma =
    let good = second_so (is_flag f.flag) (list_all is_flag (written (g ∷ gs))) all in
    let more = spaces g.spaces ++ (spelled_flags (g ∷ gs) ++ rest) in
    let skips : skip_spaces more ≡ spelled_flags (g ∷ gs) ++ rest =
    skip_all g.spaces (spelled_flags (g ∷ gs) ++ rest) (no_skip_flags g gs rest (first_so (is_flag g.flag) (list_all is_flag (written gs)) good)) in
    ap (flags_at (suc n)) (regroup_flags (flag_text f.flag) (spaces g.spaces) (flag_text g.flag) (flat_map comma_and_flag gs) rest)
    ∙ flags_opens n (flag_text f.flag ++ 44 ∷ more) (f.flag, 44 ∷ more) (Some more) (flag_again f.flag (44 ∷ more) (first_so (is_flag f.flag) (list_all is_flag (written (g ∷ gs))) all) refl) refl
    ∙ ap (with_front (f.flag ∷ [])) (ap (flags_at n) skips ∙ flags_again n g gs rest (omega arith) good ends no_comma)

ordered_again : (f : SpacedFlag) (fs : List SpacedFlag) (rest : List ℕ) → length (f ∷ fs) ≤ 64 → list_all is_flag (written (f ∷ fs)) ≡ true → ends_word rest ≡ true → after_byte 44 rest ≡ None
    → ordered_flags_at (spelled_flags (f ∷ fs) ++ rest) ≡ Some (flags_of (f ∷ fs), rest)
unfolding ordered_flags_at
ordered_again f fs rest within all ends no_comma = ap in_order_of (flags_again 64 f fs rest within all ends no_comma)

-- ---- sets

-- a set that can be read: a set whose flags are no more than a flavor's
abbrev fits : InstructionSet → Bool
fits s = is_set s && nat_le (length s.flags) 64

record SetParts (s : SpacedSet) : Type 0 where
  word : is_flavor_word s.word ≡ true
  flags : list_all is_flag (written s.flags) ≡ true
  within : length s.flags ≤ 64

set_parts : (s : SpacedSet) → fits (set_of s) ≡ true → SetParts s
set_parts s is =
    let set = first_so (is_set (set_of s)) (nat_le (length (flags_of s.flags)) 64) is in
    let count = second_so (is_set (set_of s)) (nat_le (length (flags_of s.flags)) 64) is in
    let flags = second_so (is_flavor_word s.word) (are_flags (flags_of s.flags)) set in
    record {
      word = first_so (is_flavor_word s.word) (are_flags (flags_of s.flags)) set;
      flags = sym (list_all-in_order is_flag (λ f. f.word) (written s.flags)) ∙ first_so (list_all is_flag (flags_of s.flags)) (rise (λ f. f.word) (flags_of s.flags)) flags;
      within = subst (λ n. n ≤ 64) (length-in_order (λ f. f.word) (written s.flags) ∙ length-map s.flags (λ f. f.flag)) (at_most (length (flags_of s.flags)) 64 count);
    }

regroup_own : (t rest : List ℕ) → (40 ∷ t ++ 41 ∷ []) ++ rest ≡ 40 ∷ (t ++ (41 ∷ rest))
regroup_own t rest = simp append_assoc

own_again : (fs : List SpacedFlag) (rest : List ℕ) → length fs ≤ 64 → list_all is_flag (written fs) ≡ true → after_byte 40 rest ≡ None → own_flags_at (spelled_own_flags fs ++ rest) ≡ Some (flags_of fs, rest)
own_again [] rest within all none = ap (own_flags_from rest) none
own_again (f ∷ fs) rest within all none =
    ap own_flags_at (regroup_own (spelled_flags (f ∷ fs)) rest)
    ∙ ap (option_and_then closed) (ordered_again f fs (41 ∷ rest) within all refl refl)

own_ends : (fs : List SpacedFlag) (rest : List ℕ) → ends_word rest ≡ true → ends_word (spelled_own_flags fs ++ rest) ≡ true
own_ends [] rest ends = ends
own_ends (f ∷ fs) rest ends = refl

set_again : (s : SpacedSet) (rest : List ℕ) → fits (set_of s) ≡ true → ends_word rest ≡ true → after_byte 40 rest ≡ None → set_at (spelled_set s ++ rest) ≡ Some (set_of s, rest)
unfolding set_at
set_again s rest is ends none =
    let parts = set_parts s is in
    let own = spelled_own_flags s.flags ++ rest in
    let group : spelled_set s ++ rest ≡ s.word ++ own = append_assoc s.word (spelled_own_flags s.flags) rest in
    let stops = own_ends s.flags rest ends in
    ap set_at group
    ∙ ap (λ w. with_word w (own_flags_at (drop (word_len (s.word ++ own)) (s.word ++ own)))) (word_again s.word own parts.word stops)
    ∙ ap (λ l. with_word s.word (own_flags_at l)) (rest_again s.word own parts.word stops)
    ∙ ap (with_word s.word) (own_again s.flags rest parts.within parts.flags none)

no_skip_sets : (s : SpacedSet) (ss : List SpacedSet) → fits (set_of s) ≡ true → skip_spaces (spelled_sets (s ∷ ss)) ≡ spelled_sets (s ∷ ss)
no_skip_sets s ss is =
    let group = append_assoc s.word (spelled_own_flags s.flags) (flat_map space_and_set ss) in
    ap skip_spaces group ∙ no_skip_word s.word (spelled_own_flags s.flags ++ flat_map space_and_set ss) (set_parts s is).word ∙ sym group

regroup_sets : (s t r : List ℕ) → (32 ∷ s ++ t) ++ r ≡ 32 ∷ (s ++ (t ++ r))
regroup_sets s t r = simp append_assoc

sets_goes : (n : ℕ) (bytes more : List ℕ) (s : InstructionSet) → set_at bytes ≡ Some (s, 32 ∷ more) → sets_at (suc n) bytes ≡ with_first_set s (sets_at n (skip_spaces more))
unfolding sets_at
sets_goes n bytes more s is = ap (option_and_then (λ r. sets_from r.0 r.1 (option_map (λ rest. sets_at n (skip_spaces rest)) (after_byte 32 r.1)))) is

sets_stop : (n : ℕ) (bytes : List ℕ) (s : InstructionSet) → set_at bytes ≡ Some (s, []) → sets_at (suc n) bytes ≡ Some (s ∷ [])
unfolding sets_at
sets_stop n bytes s is = ap (option_and_then (λ r. sets_from r.0 r.1 (option_map (λ rest. sets_at n (skip_spaces rest)) (after_byte 32 r.1)))) is

sets_again : (n : ℕ) (s : SpacedSet) (ss : List SpacedSet) → length (s ∷ ss) ≤ n → list_all fits (map set_of (s ∷ ss)) ≡ true → sets_at n (spelled_sets (s ∷ ss)) ≡ Some (map set_of (s ∷ ss))
sets_again zero s ss within all = absurd (omega arith)
sets_again (suc n) s [] within all = sets_stop n (spelled_sets (s ∷ [])) (set_of s) (set_again s [] (first_so (fits (set_of s)) true all) refl refl)
sets_again (suc n) s (t ∷ ts) within all =
    let good = second_so (fits (set_of s)) (list_all fits (map set_of (t ∷ ts))) all in
    let more = spaces t.spaces ++ spelled_sets (t ∷ ts) in
    let group : flat_map space_and_set (t ∷ ts) ≡ 32 ∷ more = regroup_sets (spaces t.spaces) (spelled_set t) (flat_map space_and_set ts) in
    let skips : skip_spaces more ≡ spelled_sets (t ∷ ts) = skip_all t.spaces (spelled_sets (t ∷ ts)) (no_skip_sets t ts (first_so (fits (set_of t)) (list_all fits (map set_of ts)) good)) in
    ap (λ l. sets_at (suc n) (spelled_set s ++ l)) group
    ∙ sets_goes n (spelled_set s ++ 32 ∷ more) more (set_of s) (set_again s (32 ∷ more) (first_so (fits (set_of s)) (list_all fits (map set_of (t ∷ ts))) all) refl refl)
    ∙ ap (with_first_set (set_of s)) (ap (sets_at n) skips ∙ sets_again n t ts (omega arith) good)

-- ---- flavors

part_again : (after : ℕ) (s : SpacedSet) (ss : List SpacedSet) → length (s ∷ ss) ≤ 64 → list_all fits (map set_of (s ∷ ss)) ≡ true
    → sets_part_at (codes "is:" ++ (spaces after ++ spelled_sets (s ∷ ss))) ≡ Some (sets_of (s ∷ ss))
unfolding sets_part_at
part_again after s ss within all =
    ap (λ l. ordered_sets (sets_at 64 l)) (skip_all after (spelled_sets (s ∷ ss)) (no_skip_sets s ss (first_so (fits (set_of s)) (list_all fits (map set_of ss)) all)))
    ∙ ap ordered_sets (sets_again 64 s ss within all)

after_again : (f : SpacedFlag) (fs : List SpacedFlag) (before after : ℕ) (ss : List SpacedSet) → length ss ≤ 64 → list_all fits (map set_of ss) ≡ true
    → sets_after_at (spelled_sets_part (f ∷ fs) before after ss) ≡ Some (sets_of ss)
unfolding sets_after_at
after_again f fs before after [] within all = refl
after_again f fs before after (s ∷ ss) within all =
    ap sets_part_at (skip_all before (codes "is:" ++ (spaces after ++ spelled_sets (s ∷ ss))) refl) ∙ part_again after s ss within all

part_ends : (f : SpacedFlag) (fs : List SpacedFlag) (before after : ℕ) (ss : List SpacedSet) → ends_word (spelled_sets_part (f ∷ fs) before after ss) ≡ true
part_ends f fs before after [] = refl
part_ends f fs before after (s ∷ ss) = refl

part_no_comma : (f : SpacedFlag) (fs : List SpacedFlag) (before after : ℕ) (ss : List SpacedSet) → after_byte 44 (spelled_sets_part (f ∷ fs) before after ss) ≡ None
part_no_comma f fs before after [] = refl
part_no_comma f fs before after (s ∷ ss) = refl

-- ---- flags don't begin with `is:`

second_none : (v : Bool) (ys : List ℕ) → after_byte 58 ys ≡ None → option_and_then (after_byte 58) (cond v (Some ys) None) ≡ None
second_none true ys none = none
second_none false ys none = refl

first_none : (v : Bool) (xs : List ℕ) → option_and_then (after_byte 58) (after_byte 115 xs) ≡ None → option_and_then (after_byte 58) (option_and_then (after_byte 115) (cond v (Some xs) None)) ≡ None
first_none true xs none = none
first_none false xs none = refl

no_s : (b : ℕ) → not (is_word_byte b) ≡ true → (b == 115) ≡ false
no_s b is = grind (arith, nat_tests)

no_colon : (b : ℕ) → is_word_byte b ≡ true → (b == 58) ≡ false
no_colon b is = grind (arith, nat_tests)

ended_no_s : (rest : List ℕ) → ends_word rest ≡ true → after_byte 115 rest ≡ None
ended_no_s [] ends = refl
ended_no_s (b ∷ bs) ends = absent 115 b bs (no_s b ends)

word_no_is : (word rest : List ℕ) → list_all is_word_byte word ≡ true → (word ≡ [] → ⊥) → ends_word rest ≡ true → after_byte 58 rest ≡ None → after_is (word ++ rest) ≡ None
word_no_is [] rest all some ends none = absurd (some refl)
word_no_is (a ∷ []) rest all some ends none = first_none (a == 105) rest (ap (option_and_then (after_byte 58)) (ended_no_s rest ends))
word_no_is (a ∷ b ∷ []) rest all some ends none = first_none (a == 105) (b ∷ rest) (second_none (b == 115) rest none)
word_no_is (a ∷ b ∷ d ∷ ds) rest all some ends none =
    let good = second_so (is_word_byte b) (is_word_byte d && list_all is_word_byte ds) (second_so (is_word_byte a) (is_word_byte b && (is_word_byte d && list_all is_word_byte ds)) all) in
    first_none (a == 105) (b ∷ d ∷ (ds ++ rest)) (second_none (b == 115) (d ∷ (ds ++ rest)) (absent 58 d (ds ++ rest) (no_colon d (first_so (is_word_byte d) (list_all is_word_byte ds) good))))

some_word : (word : List ℕ) → is_word word ≡ true → word ≡ [] → ⊥
some_word [] is none = cc is
some_word (b ∷ bs) is none = cc none

sensed_no_is : (s : Sense) (word rest : List ℕ) → is_flavor_word word ≡ true → ends_word rest ≡ true → after_byte 58 rest ≡ None → after_is (sense_text s ++ (word ++ rest)) ≡ None
sensed_no_is Required word rest is ends none = word_no_is word rest (word_bytes word is) (some_word word (second_so (nat_le (length word) 255) (is_word word) is)) ends none
sensed_no_is Preferred word rest is ends none = refl
sensed_no_is PreferNot word rest is ends none = refl
sensed_no_is Forbidden word rest is ends none = refl

flag_no_is : (f : FlavorFlag) (rest : List ℕ) → is_flag f ≡ true → ends_word rest ≡ true → after_byte 58 rest ≡ None → after_is (flag_text f ++ rest) ≡ None
flag_no_is f rest is ends none = ap after_is (append_assoc (sense_text f.sense) f.word rest) ∙ sensed_no_is f.sense f.word rest is ends none

others_end : (fs : List SpacedFlag) (rest : List ℕ) → ends_word rest ≡ true → ends_word (flat_map comma_and_flag fs ++ rest) ≡ true
others_end [] rest ends = ends
others_end (f ∷ fs) rest ends = refl

others_no_colon : (fs : List SpacedFlag) (rest : List ℕ) → after_byte 58 rest ≡ None → after_byte 58 (flat_map comma_and_flag fs ++ rest) ≡ None
others_no_colon [] rest none = none
others_no_colon (f ∷ fs) rest none = refl

part_no_colon : (f : SpacedFlag) (fs : List SpacedFlag) (before after : ℕ) (ss : List SpacedSet) → after_byte 58 (spelled_sets_part (f ∷ fs) before after ss) ≡ None
part_no_colon f fs before after [] = refl
part_no_colon f fs before after (s ∷ ss) = refl

flags_no_is : (f : SpacedFlag) (fs : List SpacedFlag) (rest : List ℕ) → is_flag f.flag ≡ true → ends_word rest ≡ true → after_byte 58 rest ≡ None → after_is (spelled_flags (f ∷ fs) ++ rest) ≡ None
flags_no_is f fs rest is ends none =
    ap after_is (append_assoc (flag_text f.flag) (flat_map comma_and_flag fs) rest)
    ∙ flag_no_is f.flag (flat_map comma_and_flag fs ++ rest) is (others_end fs rest ends) (others_no_colon fs rest none)

some_flag : (s : Sense) (word rest : List ℕ) → is_word word ≡ true → ((sense_text s ++ word) ++ rest) ≡ [] → ⊥
some_flag Required [] rest is none = cc is
some_flag Required (b ∷ bs) rest is none = cc none
some_flag Preferred word rest is none = cc none
some_flag PreferNot word rest is none = cc none
some_flag Forbidden word rest is none = cc none

some_flags : (f : SpacedFlag) (fs : List SpacedFlag) (rest : List ℕ) → is_flag f.flag ≡ true → spelled_flags (f ∷ fs) ++ rest ≡ [] → ⊥
some_flags f fs rest is none =
    some_flag f.flag.sense f.flag.word (flat_map comma_and_flag fs ++ rest) (second_so (nat_le (length f.flag.word) 255) (is_word f.flag.word) is)
    (sym (append_assoc (flag_text f.flag) (flat_map comma_and_flag fs) rest) ∙ none)

-- ---- whole texts

parts_by_flags : (bytes : List ℕ) → (bytes ≡ [] → ⊥) → after_is bytes ≡ None → parts_at bytes ≡ parts_from bytes None
unfolding parts_at
parts_by_flags [] some none = absurd (some refl)
parts_by_flags (b ∷ bs) some none = ap (parts_from (b ∷ bs)) none

-- what makes a spelling readable
record Readable (fs : List SpacedFlag) (ss : List SpacedSet) : Type 0 where
  flags : list_all is_flag (written fs) ≡ true
  flags_within : length fs ≤ 64
  sets : list_all fits (map set_of ss) ≡ true
  sets_within : length ss ≤ 64

parts_again_from : (fs : List SpacedFlag) (before after : ℕ) (ss : List SpacedSet) → Readable fs ss
    → parts_at (spelled_flags fs ++ spelled_sets_part fs before after ss) ≡ Some (record { flags = flags_of fs; sets = sets_of ss })
unfolding parts_at
parts_again_from [] before after [] good = refl
parts_again_from [] before after (s ∷ ss) good = ap (with_flags []) (part_again after s ss good.sets_within good.sets)
parts_again_from (f ∷ fs) before after ss good =
    let part = spelled_sets_part (f ∷ fs) before after ss in
    let first = first_so (is_flag f.flag) (list_all is_flag (written fs)) good.flags in
    parts_by_flags (spelled_flags (f ∷ fs) ++ part) (some_flags f fs part first)
    (flags_no_is f fs part first (part_ends f fs before after ss) (part_no_colon f fs before after ss))
    ∙ ap (option_and_then (λ r. with_flags r.0 (sets_after_at r.1))) (ordered_again f fs part good.flags_within good.flags (part_ends f fs before after ss) (part_no_comma f fs before after ss))
    ∙ ap (with_flags (flags_of (f ∷ fs))) (after_again f fs before after ss good.sets_within good.sets)

all_fit : (ss : List InstructionSet) → list_all is_set ss ≡ true → sum_by set_count ss ≤ 64 → list_all fits ss ≡ true
all_fit [] all within = refl
all_fit (s ∷ ss) all within =
    let sum = sum_by-cons set_count s ss in
    both_true (both_true (first_so (is_set s) (list_all is_set ss) all) (is_at_most (length s.flags) 64 (omega arith)))
    (all_fit ss (second_so (is_set s) (list_all is_set ss) all) (omega arith))

length-le-count : (ss : List InstructionSet) → length ss ≤ sum_by set_count ss
length-le-count [] = omega arith
length-le-count (s ∷ ss) = omega (arith, sum_by-cons set_count s ss, length-le-count ss)

readable : (fs : List SpacedFlag) (ss : List SpacedSet) → is_flavor (record { flags = flags_of fs; sets = sets_of ss }) ≡ true → Readable fs ss
readable fs ss is =
    let count = at_most (length (flags_of fs) + sum_by set_count (sets_of ss)) 64
    (first_so (nat_le (length (flags_of fs) + sum_by set_count (sets_of ss)) 64) (are_flags (flags_of fs) && are_sets (sets_of ss)) is) in
    let both = second_so (nat_le (length (flags_of fs) + sum_by set_count (sets_of ss)) 64) (are_flags (flags_of fs) && are_sets (sets_of ss)) is in
    let flags = first_so (list_all is_flag (flags_of fs)) (rise (λ f. f.word) (flags_of fs)) (first_so (are_flags (flags_of fs)) (are_sets (sets_of ss)) both) in
    let sets = first_so (list_all is_set (sets_of ss)) (rise (λ s. s.word) (sets_of ss)) (second_so (are_flags (flags_of fs)) (are_sets (sets_of ss)) both) in
    let flag_len : length (flags_of fs) ≡ length fs = length-in_order (λ f. f.word) (written fs) ∙ length-map fs (λ f. f.flag) in
    let set_len : length (sets_of ss) ≡ length ss = length-in_order (λ s. s.word) (map set_of ss) ∙ length-map ss set_of in
    record {
      flags = sym (list_all-in_order is_flag (λ f. f.word) (written fs)) ∙ flags;
      flags_within = omega arith;
      sets = sym (list_all-in_order fits (λ s. s.word) (map set_of ss)) ∙ all_fit (sets_of ss) sets (omega arith);
      sets_within = omega (arith, length-le-count (sets_of ss));
    }

pub parts_again : (s : Spelling) → is_flavor (value_of s) ≡ true → parts_at (spelling_text s) ≡ Some (value_of s)
parts_again s is = parts_again_from s.flags s.before s.after s.sets (readable s.flags s.sets is)
