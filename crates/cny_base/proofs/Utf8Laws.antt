-- What is in a grammar is UTF-8.
use Rattle.std.specs.Prelude.{◌≡◌, ℕ, true, ◌||◌, ◌&&◌, List, [], ◌∷◌, ◌++◌, length, refl, nat_le, ◌==◌}
use Rattle.std.proofs.Common.{add-one, ◌<◌, ◌+◌, lit<, get_or, take, drop, Option, Some, None, not, sym, ◌∙◌, ap, subst, arith}
use Rattle.std.proofs.Math.Seq.{drop-cons}
use Rattle.std.proofs.lemmas.List.{take-append-drop}
use Rattle.std.proofs.lemmas.Bool.Decides.{nat_tests}
use Rattle.std.proofs.lemmas.List.Quantifiers.{position-Some}
use Rattle.std.proofs.lemmas.List.Splits.{join_with_byte-slice_split}
use Rattle.std.proofs.lemmas.Str.{IsAscii-append, IsUtf8-append, IsUtf8-nil, IsUtf8-from_ascii, IsUtf8-from_is_utf8, is_utf8-from_IsUtf8}
use Rattle.std.proofs.lemmas.Str.Ascii.{IsAscii-nil, IsAscii-cons}
use Rattle.std.specs.Char.{is_ascii_alphanumeric}
use Rattle.std.specs.Cmp.{first_so, second_so}
use Rattle.std.specs.List.{slice_split, list_all, join_with_byte}
use Rattle.std.specs.Str.{IsUtf8, IsAscii, is_utf8}
use Rattle.cny_base.specs.declared.limits.TheConstants.{NAME_LIMIT}
use Rattle.cny_base.proofs.Joins.{slash_is, not_zero}
use Rattle.cny_base.proofs.Parent.{after_slash}
use Rattle.cny_base.specs.Name.{is_word_byte, is_word, is_colon, colon_place, begins_as_group, has_words, is_name}
use Rattle.cny_base.specs.Target.{has_target_form, is_target}
use Rattle.cny_base.specs.Path.{is_slash, is_path, has_part_form, is_part, are_parts}

-- ---- paths

slash_utf8 : (bytes : List ℕ) → IsUtf8 bytes → IsUtf8 (47 ∷ bytes)
slash_utf8 bytes utf8 = IsUtf8-append (47 ∷ []) bytes (IsUtf8-from_ascii (47 ∷ []) (IsAscii-cons 47 [] (lit< tt) IsAscii-nil)) utf8

joined_utf8 : (parts : List (List ℕ)) → list_all is_part parts ≡ true → IsUtf8 (join_with_byte 47 parts)
joined_utf8 [] all = IsUtf8-nil
joined_utf8 (x ∷ []) all = IsUtf8-from_is_utf8 x (second_so (has_part_form x) (is_utf8 x) (first_so (is_part x) true all))
joined_utf8 (x ∷ y ∷ parts) all =
    IsUtf8-append x (47 ∷ join_with_byte 47 (y ∷ parts))
    (IsUtf8-from_is_utf8 x (second_so (has_part_form x) (is_utf8 x) (first_so (is_part x) (list_all is_part (y ∷ parts)) all)))
    (slash_utf8 (join_with_byte 47 (y ∷ parts)) (joined_utf8 (y ∷ parts) (second_so (is_part x) (list_all is_part (y ∷ parts)) all)))

parts_utf8 : (bytes : List ℕ) → are_parts bytes ≡ true → IsUtf8 bytes
parts_utf8 bytes all = subst IsUtf8 (join_with_byte-slice_split 47 bytes) (joined_utf8 (slice_split is_slash bytes) all)

after_slash_utf8 : (bytes : List ℕ) → (length bytes == 0 || (nat_le (length bytes) 1023 && are_parts bytes)) ≡ true → IsUtf8 bytes
after_slash_utf8 [] is = IsUtf8-nil
after_slash_utf8 (b ∷ bs) is =
    let after = after_slash true (length (b ∷ bs) == 0) (nat_le (length (b ∷ bs)) 1023) (are_parts (b ∷ bs)) (not_zero (length bs)) is in
    parts_utf8 (b ∷ bs) after.1

pub path_utf8 : (path : List ℕ) → is_path path ≡ true → is_utf8 path ≡ true
path_utf8 [] is = absurd (cc is)
path_utf8 (b ∷ bs) is =
    let rest = length bs == 0 || (nat_le (length bs) 1023 && are_parts bs) in
    let slash : b ≡ 47 = slash_is b (first_so (b == 47) rest is) in
    is_utf8-from_IsUtf8 (b ∷ bs) (subst (λ (n : ℕ). IsUtf8 (n ∷ bs)) (sym slash) (slash_utf8 bs (after_slash_utf8 bs (second_so (b == 47) rest is))))

-- ---- targets

pub target_utf8 : (target : List ℕ) → is_target target ≡ true → is_utf8 target ≡ true
target_utf8 target is = second_so (has_target_form target) (is_utf8 target) is

-- ---- words and names, whose bytes are ASCII

word_byte_ascii : (b : ℕ) → is_word_byte b ≡ true → b < 128
word_byte_ascii b is = grind (arith, nat_tests)

word_bytes_ascii : (bytes : List ℕ) → list_all is_word_byte bytes ≡ true → IsAscii bytes
word_bytes_ascii [] all = IsAscii-nil
word_bytes_ascii (b ∷ bs) all =
    IsAscii-cons b bs (word_byte_ascii b (first_so (is_word_byte b) (list_all is_word_byte bs) all)) (word_bytes_ascii bs (second_so (is_word_byte b) (list_all is_word_byte bs) all))

alphanumeric_ascii : (b : ℕ) → is_ascii_alphanumeric b ≡ true → b < 128
alphanumeric_ascii b is = grind (arith, nat_tests)

pub word_ascii : (word : List ℕ) → is_word word ≡ true → IsAscii word
word_ascii [] is = absurd (cc is)
word_ascii (b ∷ bs) is =
    IsAscii-cons b bs (alphanumeric_ascii b (first_so (is_ascii_alphanumeric b) (list_all is_word_byte bs) is))
    (word_bytes_ascii bs (second_so (is_ascii_alphanumeric b) (list_all is_word_byte bs) is))

-- two texts with a byte between them
halves_ascii : (bytes : List ℕ) (at : ℕ) → at < length bytes → get_or bytes at 0 < 128 → IsAscii (take at bytes) → IsAscii (drop (at + 1) bytes) → IsAscii bytes
halves_ascii bytes at within byte front back =
    let behind : drop at bytes ≡ get_or bytes at 0 ∷ drop (at + 1) bytes = rw add-one (drop-cons bytes at 0 within) in
    subst IsAscii (ap (λ l. take at bytes ++ l) (sym behind) ∙ take-append-drop at bytes)
    (IsAscii-append (take at bytes) (get_or bytes at 0 ∷ drop (at + 1) bytes) front (IsAscii-cons (get_or bytes at 0) (drop (at + 1) bytes) byte back))

words_ascii : (name : List ℕ) (place : Option ℕ) → colon_place name ≡ place → has_words name place ≡ true → IsAscii name
words_ascii name None found is = word_ascii name is
words_ascii name (Some at) found is =
    let colon = position-Some is_colon name at 0 found in
    let front = first_so (is_word (take at name)) (is_word (drop (at + 1) name) && not (begins_as_group name)) is in
    let back = second_so (is_word (take at name)) (is_word (drop (at + 1) name) && not (begins_as_group name)) is in
    halves_ascii name at colon.0 (colon_byte (get_or name at 0) colon.1) (word_ascii (take at name) front)
    (word_ascii (drop (at + 1) name) (first_so (is_word (drop (at + 1) name)) (not (begins_as_group name)) back))
  where
    colon_byte : (b : ℕ) → is_colon b ≡ true → b < 128
    colon_byte b is = grind (arith, nat_tests)

pub name_ascii : (name : List ℕ) → is_name name ≡ true → IsAscii name
name_ascii name is = words_ascii name (colon_place name) refl (second_so (nat_le (length name) NAME_LIMIT) (has_words name (colon_place name)) is)

pub name_utf8 : (name : List ℕ) → is_name name ≡ true → is_utf8 name ≡ true
name_utf8 name is = is_utf8-from_IsUtf8 name (IsUtf8-from_ascii name (name_ascii name is))
