-- Which staged files have paths.
use Rattle.std.specs.Prelude.{◌≡◌, ℕ, ◌+◌, ◌<◌, ◌≤◌, ◌^◌, ◌%◌, Bool, true, false, ◌&&◌, not, cond, List, [], ◌∷◌, ◌++◌, length, codes, refl, nat_le, ◌==◌}
use Rattle.std.proofs.Common.{sym, ◌∙◌, ap, arith, length-append, append_assoc, lit<}
use Rattle.std.proofs.lemmas.Bool.Decides.{nat_tests}
use Rattle.std.proofs.lemmas.Fmt.{decimal_by_steps, decimal_nonempty, length-decimal-le, IsAscii-decimal}
use Rattle.std.proofs.lemmas.List.Folds.{list_all-append}
use Rattle.std.proofs.lemmas.Str.{IsUtf8-from_ascii, is_utf8-from_IsUtf8}
use Rattle.std.specs.Fmt.{decimal}
use Rattle.std.specs.List.{list_all, slice_split, onto_first}
use Rattle.std.specs.Str.{is_utf8}
use Rattle.tree_disk.specs.cny-base.Number.{is_digit}
use Rattle.tree_disk.proofs.cny-base.Parent.{join_is_path}
use Rattle.tree_disk.specs.cny-base.Path.{is_slash, is_plain, is_dots, has_part_form, is_part, are_parts, is_path}
use Rattle.tree_disk.specs.Tree.{Name}
use Rattle.journal_log.specs.Joined.{front_of}
use Rattle.journal_log.specs.Own.{staged, staged_file}
use Rattle.tree_disk.proofs.cny-base.Bools.{both}
use Rattle.tree_disk.proofs.cny-base.Counts.{fits as at_most}
use Rattle.tree_disk.proofs.Nodes.{left_true as left_of}
use Rattle.tree_disk.proofs.cny-base.FixedPaths.{p_utf8}
use Rattle.tree_disk.proofs.Laws.{second as right_of}

-- ---- the text of a number is one part of a path

one_digit : (n : ℕ) → n < 10 → list_all is_digit ((48 + n) ∷ []) ≡ true
one_digit n small = grind (arith, nat_tests)

pub remainder : (n : ℕ) → n % 10 < 10
remainder n = omega arith

digits_of : (n : ℕ) → n < 2 ^ 64 → list_all is_digit (decimal n) ≡ true
digits_of = decimal_by_steps (λ n ds. list_all is_digit ds ≡ true) one_digit
    (λ n ds big rest. list_all-append is_digit ds ((48 + n % 10) ∷ []) ∙ both (list_all is_digit ds) _ rest (one_digit (n % 10) (remainder n)))

digit_plain : (b : ℕ) → is_digit b ≡ true → is_plain b ≡ true
digit_plain b is = grind (arith, nat_tests)

digit_no_slash : (b : ℕ) → is_digit b ≡ true → is_slash b ≡ false
digit_no_slash b is = grind (arith, nat_tests)

digit_no_dot : (b : ℕ) → is_digit b ≡ true → (b == 46) ≡ false
digit_no_dot b is = grind (arith, nat_tests)

all_plain : (bytes : List ℕ) → list_all is_digit bytes ≡ true → list_all is_plain bytes ≡ true
all_plain [] is = refl
all_plain (b ∷ bs) is = both (is_plain b) (list_all is_plain bs) (digit_plain b (left_of (is_digit b) (list_all is_digit bs) is)) (all_plain bs (right_of (is_digit b) (list_all is_digit bs) is))

one_part : (bytes : List ℕ) → list_all is_digit bytes ≡ true → slice_split is_slash bytes ≡ bytes ∷ []
one_part [] is = refl
one_part (b ∷ bs) is = at (is_slash b) (digit_no_slash b (left_of (is_digit b) (list_all is_digit bs) is)) (one_part bs (right_of (is_digit b) (list_all is_digit bs) is))
  where
    at : (v : Bool) → v ≡ false → slice_split is_slash bs ≡ bs ∷ [] → cond v ([] ∷ slice_split is_slash bs) (onto_first b (slice_split is_slash bs)) ≡ (b ∷ bs) ∷ []
    at true un rest = absurd (cc un)
    at false un rest = ap (onto_first b) rest

no_dots : (bytes : List ℕ) → list_all is_digit bytes ≡ true → is_dots bytes ≡ false
no_dots [] is = refl
no_dots (a ∷ []) is = digit_no_dot a (left_of (is_digit a) true is)
no_dots (a ∷ b ∷ []) is = ap (λ (v : Bool). v && (b == 46)) (digit_no_dot a (left_of (is_digit a) (list_all is_digit (b ∷ [])) is))
no_dots (a ∷ b ∷ c ∷ bytes) is = refl

between : (n : ℕ) → 0 < n → n ≤ 255 → (nat_le 1 n ≡ true) × (nat_le n 255 ≡ true)
between n some short = (grind (arith, nat_tests), grind (arith, nat_tests))

pub decimal_parts : (n : ℕ) → n < 2 ^ 32 → are_parts (decimal n) ≡ true
decimal_parts n fits =
    let digits = digits_of n (omega (arith, fits)) in
    let long = length-decimal-le 10 n (lit< tt) (omega (arith, fits)) (omega (arith, fits)) in
    let some = decimal_nonempty n (omega (arith, fits)) in
    let sizes = between (length (decimal n)) some (omega (arith, long)) in
    let form : has_part_form (decimal n) ≡ true =
    both (nat_le 1 (length (decimal n))) _ sizes.0 (both (nat_le (length (decimal n)) 255) _ sizes.1 (both (list_all is_plain (decimal n)) _ (all_plain (decimal n) digits) (ap not (no_dots (decimal n) digits)))) in
    ap (list_all is_part) (one_part (decimal n) digits)
    ∙ both (is_part (decimal n)) true (both (has_part_form (decimal n)) (is_utf8 (decimal n)) form (is_utf8-from_IsUtf8 (decimal n) (IsUtf8-from_ascii (decimal n) (IsAscii-decimal n (omega (arith, fits)))))) refl

-- ---- staged files

pub p_part : are_parts (codes "p") ≡ true
p_part = ap (λ (b : Bool). b && true) p_utf8

-- the directory's text is that of the base, a slash where the base isn't `/`, and `p`
pub staged_is : (base : Name) → is_path base ≡ true → staged base ≡ front_of base ++ codes "p"
staged_is [] path = absurd (cc path)
staged_is (b ∷ []) path = refl
staged_is (b ∷ c ∷ front) path = sym (append_assoc (b ∷ c ∷ front) (47 ∷ []) (codes "p"))

-- and a staged file's that of the directory, a slash and the number
pub staged_file_is : (base : Name) → is_path base ≡ true → (number : ℕ) → staged_file base number ≡ staged base ++ 47 ∷ decimal number
staged_file_is [] path number = absurd (cc path)
staged_file_is (b ∷ []) path number = refl
staged_file_is (b ∷ c ∷ front) path number = refl

front_length : (base : Name) → is_path base ≡ true → length (front_of base) ≤ length base + 1
front_length [] path = absurd (cc path)
front_length (b ∷ []) path = omega arith
front_length (b ∷ c ∷ front) path = omega (arith, length-append (b ∷ c ∷ front) (47 ∷ []))

pub staged_length : (base : Name) → is_path base ≡ true → (number : ℕ) → length (staged_file base number) ≡ length (front_of base) + 2 + length (decimal number)
staged_length base path number =
    omega (arith, ap length (staged_file_is base path number), length-append (staged base) (47 ∷ decimal number), ap length (staged_is base path), length-append (front_of base) (codes "p"))

-- a staged file's name that isn't too long is a path
pub staged_is_path : (base : Name) → is_path base ≡ true → (number : ℕ) → number < 2 ^ 32 → length (staged_file base number) ≤ 1024 → is_path (staged_file base number) ≡ true
staged_is_path base path number fits short =
    let shorter : length (staged base) ≤ 1024 = omega (arith, short, ap length (staged_file_is base path number), length-append (staged base) (47 ∷ decimal number)) in
    join_is_path (staged base) (decimal number) (join_is_path base (codes "p") path p_part (at_most (length (staged base)) shorter)) (decimal_parts number fits) (at_most (length (staged_file base number)) short)

-- with a base of at most 1,011 bytes each staged file has a path
pub staged_short : (base : Name) → is_path base ≡ true → length base ≤ 1011 → (number : ℕ) → number < 2 ^ 32 → is_path (staged_file base number) ≡ true
staged_short base path short number fits =
    let long = length-decimal-le 10 number (lit< tt) (omega (arith, fits)) (omega (arith, fits)) in
    staged_is_path base path number fits (omega (arith, short, long, staged_length base path number, front_length base path))
