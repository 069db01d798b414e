-- What the bytes of names and flags are, and aren't.
use Rattle.std.proofs.Common.{◌≡◌, ℕ, ◌+◌, ◌<◌, true, List, [], ◌∷◌, ◌++◌, length, take, drop, get_or, nat_le, ◌&&◌, not, Option, Some, None, refl, sym, ap, ◌∙◌, add-one, arith}
use Rattle.std.specs.Cmp.{first_so, second_so}
use Rattle.std.specs.Cmp.Derive.{both_true}
use Rattle.std.specs.List.{list_all}
use Rattle.std.specs.Str.{IsUtf8, IsAscii}
use Rattle.std.proofs.lemmas.Bool.Decides.{nat_tests}
use Rattle.std.proofs.lemmas.Str.{IsUtf8-from_ascii}
use Rattle.std.proofs.lemmas.Str.Ascii.{IsAscii-nil, IsAscii-cons}
use Rattle.std.specs.Char.{is_ascii_alphanumeric}
use Rattle.std.proofs.Math.Seq.{drop-cons}
use Rattle.std.proofs.lemmas.List.{take-append-drop}
use Rattle.std.proofs.lemmas.List.Folds.{list_all-append}
use Rattle.std.proofs.lemmas.List.Quantifiers.{position-Some}
use Rattle.cny_base.specs.Name.{is_word_byte, is_word, is_colon, colon_place, begins_as_group, has_words, is_name}
use Rattle.cny_dep.specs.Part.{is_part_byte, is_dep_name, is_flag}

pub byte_ascii : (b : ℕ) → is_part_byte b ≡ true → b < 128
byte_ascii b is = grind (arith, nat_tests)

pub bytes_ascii : (bytes : List ℕ) → list_all is_part_byte bytes ≡ true → IsAscii bytes
bytes_ascii [] all = IsAscii-nil
bytes_ascii (b ∷ bs) all =
    IsAscii-cons b bs (byte_ascii b (first_so (is_part_byte b) (list_all is_part_byte bs) all)) (bytes_ascii bs (second_so (is_part_byte b) (list_all is_part_byte bs) all))

pub flag_bytes : (flag : List ℕ) → is_flag flag ≡ true → list_all is_part_byte flag ≡ true
flag_bytes flag is = second_so (nat_le (length flag) 255) (list_all is_part_byte flag) (second_so (nat_le 1 (length flag)) (nat_le (length flag) 255 && list_all is_part_byte flag) is)

pub name_bytes : (name : List ℕ) → is_dep_name name ≡ true → list_all is_part_byte name ≡ true
name_bytes name is = second_so (nat_le (length name) 1024) (list_all is_part_byte name) (second_so (nat_le 1 (length name)) (nat_le (length name) 1024 && list_all is_part_byte name) is)

pub flag_utf8 : (flag : List ℕ) → is_flag flag ≡ true → IsUtf8 flag
flag_utf8 flag is = IsUtf8-from_ascii flag (bytes_ascii flag (flag_bytes flag is))

-- ---- names of troves

word_byte : (b : ℕ) → is_word_byte b ≡ true → is_part_byte b ≡ true
word_byte b is = grind (arith, nat_tests)

first_byte : (b : ℕ) → is_ascii_alphanumeric b ≡ true → is_part_byte b ≡ true
first_byte b is = grind (arith, nat_tests)

word_bytes : (bytes : List ℕ) → list_all is_word_byte bytes ≡ true → list_all is_part_byte bytes ≡ true
word_bytes [] all = refl
word_bytes (b ∷ bs) all = both_true (word_byte b (first_so (is_word_byte b) (list_all is_word_byte bs) all)) (word_bytes bs (second_so (is_word_byte b) (list_all is_word_byte bs) all))

-- a word has a byte, and all of its bytes may stand in a name
word_parts : (word : List ℕ) → is_word word ≡ true → (0 < length word) × (list_all is_part_byte word ≡ true)
word_parts [] is = absurd (cc)
word_parts (b ∷ bs) is =
    (omega arith, both_true (first_byte b (first_so (is_ascii_alphanumeric b) (list_all is_word_byte bs) is)) (word_bytes bs (second_so (is_ascii_alphanumeric b) (list_all is_word_byte bs) is)))

words_parts : (name : List ℕ) (place : Option ℕ) → colon_place name ≡ place → has_words name place ≡ true → (0 < length name) × (list_all is_part_byte name ≡ true)
words_parts name None found is = word_parts name is
words_parts name (Some at) found is =
    let colon = position-Some is_colon name at 0 found in
    let front = first_so (is_word (take at name)) (is_word (drop (at + 1) name) && not (begins_as_group name)) is in
    let back = second_so (is_word (take at name)) (is_word (drop (at + 1) name) && not (begins_as_group name)) is in
    let before = word_parts (take at name) front in
    let after = word_parts (drop (at + 1) name) (first_so (is_word (drop (at + 1) name)) (not (begins_as_group name)) back) in
    let behind : drop at name ≡ get_or name at 0 ∷ drop (at + 1) name = rw add-one (drop-cons name at 0 colon.0) in
    let whole : take at name ++ get_or name at 0 ∷ drop (at + 1) name ≡ name = ap (λ l. take at name ++ l) (sym behind) ∙ take-append-drop at name in (
      omega (arith, colon.0),
      ap (list_all is_part_byte) (sym whole) ∙ list_all-append is_part_byte (take at name) (get_or name at 0 ∷ drop (at + 1) name) ∙ both_true before.1 (both_true (colon_byte (get_or name at 0) colon.1) after.1),
    )
  where
    colon_byte : (b : ℕ) → is_colon b ≡ true → is_part_byte b ≡ true
    colon_byte b is = grind (arith, nat_tests)

pub name_is_dep_name : (name : List ℕ) → is_name name ≡ true → is_dep_name name ≡ true
name_is_dep_name name is =
    let parts = words_parts name (colon_place name) refl (second_so (nat_le (length name) 255) (has_words name (colon_place name)) is) in
    let short : nat_le (length name) 255 ≡ true = first_so (nat_le (length name) 255) (has_words name (colon_place name)) is in
    both_true (some (length name) parts.0) (both_true (shorter (length name) short) parts.1)
  where
    some : (n : ℕ) → 0 < n → nat_le 1 n ≡ true
    some n h = grind (arith, nat_tests)

    shorter : (n : ℕ) → nat_le n 255 ≡ true → nat_le n 1024 ≡ true
    shorter n h = grind (arith, nat_tests)
