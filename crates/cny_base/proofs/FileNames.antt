-- Shared lemmas: file names.
use Rattle.cny_base.specs.Path.{is_plain, is_slash, are_parts, has_part_form, is_dots, is_part}
use Rattle.std.proofs.Common.{Bool, List, [], ap, arith, cond, false, not, refl, true, ℕ, ◌&&◌, ◌+◌, ◌<◌, ◌∙◌, ◌∷◌, ◌≡◌, length, ◌≤◌}
use Rattle.std.proofs.lemmas.Bool.Decides.{nat_tests}
use Rattle.std.proofs.lemmas.Str.Ascii.{IsAscii-cons, IsAscii-nil}
use Rattle.std.specs.Cmp.Derive.{both_true}
use Rattle.std.specs.Cmp.{first_so, second_so}
use Rattle.std.specs.List.{list_all, onto_first, slice_split}
use Rattle.std.specs.Prelude.{nat_le, ◌==◌}
use Rattle.std.specs.Str.{IsAscii}
use Rattle.std.proofs.lemmas.Str.{IsUtf8-from_ascii, is_utf8-from_IsUtf8}
use Rattle.cny_base.proofs.Counts.{between}

-- from `.` to `z`, but no slash
abbrev pub is_low : ℕ → Bool
is_low c = nat_le 46 c && (nat_le c 122 && not (c == 47))

pub low_plain : (c : ℕ) → is_low c ≡ true → is_plain c ≡ true
low_plain c low = grind (arith, nat_tests)

pub low_no_slash : (c : ℕ) → is_low c ≡ true → is_slash c ≡ false
low_no_slash c low = grind (arith, nat_tests)

pub low_small : (c : ℕ) → is_low c ≡ true → c < 128
low_small c low = grind (arith, nat_tests)

pub all_plain : (cs : List ℕ) → list_all is_low cs ≡ true → list_all is_plain cs ≡ true
all_plain [] all = refl
all_plain (c ∷ cs) all = both_true (low_plain c (first_so (is_low c) (list_all is_low cs) all)) (all_plain cs (second_so (is_low c) (list_all is_low cs) all))

pub one_part : (cs : List ℕ) → list_all is_low cs ≡ true → slice_split is_slash cs ≡ cs ∷ []
one_part [] all = refl
one_part (c ∷ cs) all =
    ap (λ b. cond b ([] ∷ slice_split is_slash cs) (onto_first c (slice_split is_slash cs))) (low_no_slash c (first_so (is_low c) (list_all is_low cs) all))
    ∙ ap (onto_first c) (one_part cs (second_so (is_low c) (list_all is_low cs) all))

pub ascii : (cs : List ℕ) → list_all is_low cs ≡ true → IsAscii cs
ascii [] all = IsAscii-nil
ascii (c ∷ cs) all = IsAscii-cons c cs (low_small c (first_so (is_low c) (list_all is_low cs) all)) (ascii cs (second_so (is_low c) (list_all is_low cs) all))

pub one_digit : (n : ℕ) → n < 10 → list_all is_low ((48 + n) ∷ []) ≡ true
one_digit n small = grind (arith, nat_tests)

pub parts : (cs : List ℕ) → list_all is_low cs ≡ true → is_dots cs ≡ false → 1 ≤ length cs → length cs ≤ 255 → are_parts cs ≡ true
parts cs all no_dots some short =
    let sizes = between (length cs) some short in
    let form : has_part_form cs ≡ true = both_true (first_so (nat_le 1 (length cs)) (nat_le (length cs) 255) sizes)
    (both_true (second_so (nat_le 1 (length cs)) (nat_le (length cs) 255) sizes) (both_true (all_plain cs all) (ap not no_dots))) in
    ap (list_all is_part) (one_part cs all) ∙ both_true (both_true form (is_utf8-from_IsUtf8 cs (IsUtf8-from_ascii cs (ascii cs all)))) refl
