-- The hexadecimal digits of a content's name are one part of a path.
use Rattle.std.proofs.Common.{◌≡◌, ⊎_elim, ℕ, zero, suc, ◌*◌, ◌/◌, ◌%◌, ◌≤◌, ◌<◌, Bool, true, false, cond, not, ◌&&◌, ◌||◌, List, [], ◌∷◌, length, slice_index, refl, ◌∙◌, ap, arith}
use Rattle.std.specs.Prelude.{nat_le}
use Rattle.std.specs.List.{list_all, slice_split, onto_first}
use Rattle.std.specs.Str.{IsAscii}
use Rattle.std.specs.Cmp.{first_so, second_so}
use Rattle.std.specs.Cmp.Derive.{both_true}
use Rattle.std.proofs.lemmas.Bool.{cases_lt}
use Rattle.std.proofs.lemmas.Bool.Decides.{nat_tests}
use Rattle.std.proofs.lemmas.Str.{IsUtf8-from_ascii, is_utf8-from_IsUtf8}
use Rattle.std.proofs.lemmas.Str.Ascii.{IsAscii-nil, IsAscii-cons}
use Rattle.hex.specs.Hex.{encode_lower, encode_with, lower_digits, IsBytes}
use Rattle.hex.proofs.HexLemmas.{length-encode_with}
use Rattle.tree_disk.specs.cny-base.Path.{is_slash, has_slash, is_plain, is_dots, has_part_form, is_part, are_parts}

-- ---- what each digit is

-- between `0` and `f`
abbrev is_low : ℕ → Bool
is_low c = nat_le 48 c && nat_le c 102

abbrev all_low : List ℕ → ℕ → Bool
all_low t zero = true
all_low t (suc n) = is_low (slice_index t n) && all_low t n

low_at : (t : List ℕ) (n k : ℕ) → all_low t n ≡ true → k < n → is_low (slice_index t k) ≡ true
low_at t zero k all lt = absurd (omega arith)
low_at t (suc n) k all lt = ⊎_elim
    (λ (below : k < n). low_at t n k (second_so (is_low (slice_index t n)) (all_low t n) all) below)
    (λ (top : n ≤ k). let is : k ≡ n = omega arith in ap (λ (i : ℕ). is_low (slice_index t i)) is ∙ first_so (is_low (slice_index t n)) (all_low t n) all)
    (cases_lt k n)

digit_low : (d : ℕ) → d < 16 → is_low (slice_index lower_digits d) ≡ true
digit_low d lt = low_at lower_digits 16 d refl lt

pub digits_low : (xs : List ℕ) → IsBytes xs → list_all is_low (encode_lower xs) ≡ true
unfolding encode_with
digits_low [] fits = refl
digits_low (b ∷ rest) fits =
    let small : b < 256 = fits 0 in
    let high : b / 16 < 16 = omega arith in
    let low : b % 16 < 16 = omega arith in
    both_true (digit_low (b / 16) high) (both_true (digit_low (b % 16) low) (digits_low rest (λ i. fits (suc i))))

low_plain : (c : ℕ) → is_low c ≡ true → is_plain c ≡ true
low_plain c low = grind (arith, nat_tests)

low_no_slash : (c : ℕ) → is_low c ≡ true → is_slash c ≡ false
low_no_slash c low = grind (arith, nat_tests)

low_small : (c : ℕ) → is_low c ≡ true → c < 128
low_small c low = grind (arith, nat_tests)

-- ---- what they are together

all_plain : (cs : List ℕ) → list_all is_low cs ≡ true → list_all is_plain cs ≡ true
all_plain [] all = refl
all_plain (c ∷ cs) all = both_true (low_plain c (first_so (is_low c) (list_all is_low cs) all)) (all_plain cs (second_so (is_low c) (list_all is_low cs) all))

pub none_slash : (cs : List ℕ) → list_all is_low cs ≡ true → has_slash cs ≡ false
none_slash [] all = refl
none_slash (c ∷ cs) all = ap (λ b. b || has_slash cs) (low_no_slash c (first_so (is_low c) (list_all is_low cs) all)) ∙ none_slash cs (second_so (is_low c) (list_all is_low cs) all)

one_part : (cs : List ℕ) → list_all is_low cs ≡ true → slice_split is_slash cs ≡ cs ∷ []
one_part [] all = refl
one_part (c ∷ cs) all =
    ap (λ b. cond b ([] ∷ slice_split is_slash cs) (onto_first c (slice_split is_slash cs))) (low_no_slash c (first_so (is_low c) (list_all is_low cs) all))
    ∙ ap (onto_first c) (one_part cs (second_so (is_low c) (list_all is_low cs) all))

ascii : (cs : List ℕ) → list_all is_low cs ≡ true → IsAscii cs
ascii [] all = IsAscii-nil
ascii (c ∷ cs) all = IsAscii-cons c cs (low_small c (first_so (is_low c) (list_all is_low cs) all)) (ascii cs (second_so (is_low c) (list_all is_low cs) all))

pub not_dots : (cs : List ℕ) → 3 ≤ length cs → is_dots cs ≡ false
not_dots [] long = absurd (omega arith)
not_dots (a ∷ []) long = absurd (omega arith)
not_dots (a ∷ b ∷ []) long = absurd (omega arith)
not_dots (a ∷ b ∷ c ∷ cs) long = refl

form : (cs : List ℕ) → list_all is_low cs ≡ true → length cs ≡ 40 → has_part_form cs ≡ true
form cs all long =
    both_true (ap (nat_le 1) long) (both_true (ap (λ (n : ℕ). nat_le n 255) long) (both_true (all_plain cs all) (ap not (not_dots cs (omega arith)))))

parts : (cs : List ℕ) → list_all is_low cs ≡ true → length cs ≡ 40 → are_parts cs ≡ true
parts cs all long =
    ap (list_all is_part) (one_part cs all)
    ∙ both_true (both_true (form cs all long) (is_utf8-from_IsUtf8 cs (IsUtf8-from_ascii cs (ascii cs all)))) refl

-- ---- the digits of a name

pub digits_long : (name : List ℕ) → length name ≡ 20 → length (encode_lower name) ≡ 40
digits_long name long = length-encode_with lower_digits name ∙ twice (length name) long
  where
    twice : (n : ℕ) → n ≡ 20 → 2 * n ≡ 40
    twice n is = omega arith

pub digits_parts : (name : List ℕ) → length name ≡ 20 → IsBytes name → are_parts (encode_lower name) ≡ true
digits_parts name long fits = parts (encode_lower name) (digits_low name fits) (digits_long name long)

pub digits_no_slash : (name : List ℕ) → IsBytes name → has_slash (encode_lower name) ≡ false
digits_no_slash name fits = none_slash (encode_lower name) (digits_low name fits)
