-- What a reader of a `str` finds is spelled in the bytes.
use Rattle.std.proofs.Common.{◌≡◌, ℕ, ◌+◌, ◌-◌, ◌^◌, ◌<◌, ◌≤◌, Bool, true, false, cond, nat_lt, List, ◌++◌, length, get_or, take, drop, Some, None, refl, sym, ap, ◌∙◌, append_assoc, arith, inl, inr}
use Rattle.std.specs.Prelude.{slice_range}
use Rattle.std.specs.Int.{w16, from_be_bytes, to_be_bytes}
use Rattle.std.proofs.lemmas.Bool.{cases_lt}
use Rattle.std.proofs.lemmas.Bool.Decides.{nat_tests}
use Rattle.std.proofs.lemmas.List.{length-take, length-drop, get_or-drop, get_or-take, get_or_past}
use Rattle.std.proofs.lemmas.List.Folds.{drop_split}
use Rattle.std.proofs.lemmas.Nat.{be_bytes_2}
use Rattle.cny_base.specs.StrField.{IsStrAt, str, str_len}

abbrev pub IsBytes : List ℕ → Type 0
IsBytes bytes = (i : ℕ) → get_or bytes i 0 < 256

pub drop_bytes : (n : ℕ) (bytes : List ℕ) → IsBytes bytes → IsBytes (drop n bytes)
drop_bytes n bytes h i = rw get_or-drop (h (n + i))

pub take_bytes : (n : ℕ) (bytes : List ℕ) → IsBytes bytes → IsBytes (take n bytes)
take_bytes n bytes h i =
    elim (cases_lt i n) [
      | inl lt ↦ rw (get_or-take n bytes i 0 lt) (h i)
      | inr le ↦ rw (get_or_past (take n bytes) i 0 (omega (arith, length-take n bytes))) (omega arith)
    ]

pub chosen : (x y : Bool) (n len : ℕ) → cond x None (cond y None (Some n)) ≡ Some len → (x ≡ false) × (y ≡ false) × (n ≡ len)
chosen true y n len e = absurd cc
chosen false true n len e = absurd cc
chosen false false n len e = (refl, refl, cc)

pub not_lt : (a b : ℕ) → nat_lt a b ≡ false → b ≤ a
not_lt a b h = grind (arith, nat_tests)

pub head_below : (bytes : List ℕ) → IsBytes bytes → from_be_bytes w16 bytes < 2 ^ 16
head_below bytes fits = omega (arith, fits 0, fits 1)

spelled : (bytes : List ℕ) (at len : ℕ) → IsBytes bytes → at + 2 + len ≤ length bytes → len ≡ from_be_bytes w16 (take 2 (drop at bytes))
    → drop at bytes ≡ str (slice_range bytes (at + 2) (at + 2 + len)) ++ drop (at + 2 + len) bytes
spelled bytes at len fits within is =
    let head : List ℕ = slice_range bytes at (at + 2) in
    let value : List ℕ = slice_range bytes (at + 2) (at + 2 + len) in
    let two : at + 2 - at ≡ 2 = omega arith in
    let head_is : head ≡ take 2 (drop at bytes) = ap (λ (n : ℕ). take n (drop at bytes)) two in
    let value_len : length value ≡ len = omega (arith, length-take (at + 2 + len - (at + 2)) (drop (at + 2) bytes), length-drop (at + 2) bytes) in
    let two_long : length (take 2 (drop at bytes)) ≡ 2 = omega (arith, length-take 2 (drop at bytes), length-drop at bytes) in
    let told : to_be_bytes w16 (length value) ≡ take 2 (drop at bytes) = be_bytes_2 (take 2 (drop at bytes)) (length value) two_long (take_bytes 2 (drop at bytes) (drop_bytes at bytes fits)) (value_len ∙ is) in
    drop_split bytes at (at + 2) (omega arith)
    ∙ ap (λ (l : List ℕ). head ++ l) (drop_split bytes (at + 2) (at + 2 + len) (omega arith))
    ∙ ap (λ (l : List ℕ). l ++ (value ++ drop (at + 2 + len) bytes)) (head_is ∙ sym told)
    ∙ sym (append_assoc (to_be_bytes w16 (length value)) value (drop (at + 2 + len) bytes))

-- What is found is spelled so.
pub found_str : (bytes : List ℕ) (at len : ℕ) → IsBytes bytes → at ≤ length bytes → str_len (drop at bytes) ≡ Some len → IsStrAt bytes at (at + 2) (at + 2 + len)
found_str bytes at len fits in_bytes found =
    let tests = chosen (nat_lt (length (drop at bytes)) 2) (nat_lt (length (drop at bytes)) (2 + from_be_bytes w16 (take 2 (drop at bytes)))) (from_be_bytes w16 (take 2 (drop at bytes))) len found in
    let far : 2 + from_be_bytes w16 (take 2 (drop at bytes)) ≤ length (drop at bytes) = not_lt _ _ tests.1 in
    let is : from_be_bytes w16 (take 2 (drop at bytes)) ≡ len = tests.2 in
    let within : at + 2 + len ≤ length bytes = omega (arith, length-drop at bytes, far, is) in
    let below : from_be_bytes w16 (take 2 (drop at bytes)) < 2 ^ 16 = head_below (take 2 (drop at bytes)) (take_bytes 2 (drop at bytes) (drop_bytes at bytes fits)) in
    record {
      begins = refl;
      order = omega arith;
      within = within;
      fits = omega (arith, length-take (at + 2 + len - (at + 2)) (drop (at + 2) bytes), is, below);
      spelled = spelled bytes at len fits within (sym is);
    }
