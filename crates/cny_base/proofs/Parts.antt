-- The parts of a path's text, cut at the first slash.
use Rattle.std.proofs.Common.{◌≡◌, ◌≤◌, ◌<◌, ◌+◌, ◌-◌, ℕ, Bool, true, ◌&&◌, List, length, take, drop, get_or, Some, None, sym, ap, ◌∙◌, arith}
use Rattle.std.proofs.Math.Bool.{and-true}
use Rattle.std.proofs.lemmas.Bool.Decides.{nat_tests}
use Rattle.std.proofs.lemmas.Grind.{common_steps}
use Rattle.std.proofs.lemmas.List.Quantifiers.{position-Some}
use Rattle.std.proofs.lemmas.List.Splits.{slice_split_none, slice_split_first}
use Rattle.std.proofs.lemmas.List.Sums.{fails_before_first}
use Rattle.std.proofs.lemmas.Str.{IsCharBoundary-before_ascii, IsCharBoundary-after_ascii}
use Rattle.std.specs.List.{list_all, position, position_or_len, slice_range}
use Rattle.std.specs.Str.{IsUtf8, IsCharBoundary}
use Rattle.cny_base.specs.Path.{is_slash, is_part, are_parts}

pub no_cut : (bytes : List ℕ) → position is_slash bytes ≡ None → are_parts bytes ≡ is_part bytes
no_cut bytes none =
    let all : length bytes ≤ position_or_len is_slash bytes = grind (arith, common_steps) in
    ap (list_all is_part) (slice_split_none is_slash bytes (λ k d l. fails_before_first is_slash bytes k d (omega (arith, all)))) ∙ and-true (is_part bytes)

cut_at : (bytes : List ℕ) (at : ℕ) → position is_slash bytes ≡ Some at
    → are_parts bytes ≡ (is_part (take at bytes) && are_parts (drop (at + 1) bytes))
cut_at bytes at found =
    let same : position_or_len is_slash bytes ≡ at = grind (arith, common_steps) in
    let inside : position_or_len is_slash bytes < length bytes = grind (arith, common_steps) in
    ap (list_all is_part) (slice_split_first is_slash bytes 0 inside)
    ∙ ap (λ (n : ℕ). is_part (take n bytes) && are_parts (drop (n + 1) bytes)) same

-- the same where the front is the range up to the slash
pub cut_range : (bytes : List ℕ) (at : ℕ) (test : Bool) → position is_slash bytes ≡ Some at → is_part (slice_range bytes 0 at) ≡ test
    → are_parts bytes ≡ (test && are_parts (drop (at + 1) bytes))
cut_range bytes at test found front =
    let all : at - 0 ≡ at = omega arith in
    cut_at bytes at found ∙ ap (λ v. v && are_parts (drop (at + 1) bytes)) (ap (λ (n : ℕ). is_part (take n bytes)) (sym all) ∙ front)

-- a slash is a character of its own
slash_small : (b : ℕ) → is_slash b ≡ true → b < 128
slash_small b is = grind (arith, nat_tests)

pub before_cut : (bytes : List ℕ) (at : ℕ) → position is_slash bytes ≡ Some at → IsCharBoundary bytes at
before_cut bytes at found =
    let slash = position-Some is_slash bytes at 0 found in
    IsCharBoundary-before_ascii bytes at slash.0 (slash_small (get_or bytes at 0) slash.1)

pub after_cut : (bytes : List ℕ) (at : ℕ) → IsUtf8 bytes → position is_slash bytes ≡ Some at → IsCharBoundary bytes (at + 1)
after_cut bytes at utf8 found =
    let slash = position-Some is_slash bytes at 0 found in
    IsCharBoundary-after_ascii bytes at utf8 slash.0 (slash_small (get_or bytes at 0) slash.1)
