-- What a reader of an item finds is spelled in the bytes.
use Rattle.std.proofs.Common.{◌≡◌, ℕ, ◌+◌, ◌-◌, ◌^◌, ◌<◌, ◌≤◌, nat_lt, List, [], ◌∷◌, ◌++◌, length, take, drop, Some, refl, sym, ap, ◌∙◌, append_assoc, arith}
use Rattle.std.specs.Prelude.{slice_range, slice_get}
use Rattle.std.specs.Int.{w32, from_be_bytes, to_be_bytes}
use Rattle.std.proofs.lemmas.List.{length-take, length-drop}
use Rattle.std.proofs.lemmas.List.Folds.{drop_split}
use Rattle.std.proofs.lemmas.Nat.{be_bytes_4}
use Rattle.cny_stream.specs.Item.{IsItemAt, item_bytes, value_len}
use Rattle.cny_base.proofs.StrFields.{IsBytes, chosen, drop_bytes, not_lt, take_bytes}

pub head_below : (bytes : List ℕ) → IsBytes bytes → from_be_bytes w32 bytes < 2 ^ 32
head_below bytes fits = omega (arith, fits 0, fits 1, fits 2, fits 3)

-- the first five bytes, by the first one and the four behind it
first_five : (tag : ℕ) (bytes : List ℕ) → slice_get bytes 0 ≡ Some tag → take 5 bytes ≡ tag ∷ take 4 (drop 1 bytes)
first_five tag [] is = absurd cc
first_five tag (b ∷ bs) is = let same : b ≡ tag = cc in ap (λ (n : ℕ). n ∷ take 4 bs) same

spelled : (bytes : List ℕ) (at tag len : ℕ) → IsBytes bytes → slice_get (drop at bytes) 0 ≡ Some tag → at + 5 + len ≤ length bytes → len ≡ from_be_bytes w32 (take 4 (drop 1 (drop at bytes)))
    → drop at bytes ≡ item_bytes tag (slice_range bytes (at + 5) (at + 5 + len)) ++ drop (at + 5 + len) bytes
spelled bytes at tag len fits first within is =
    let rest : List ℕ = drop at bytes in
    let head : List ℕ = slice_range bytes at (at + 5) in
    let value : List ℕ = slice_range bytes (at + 5) (at + 5 + len) in
    let number : List ℕ = take 4 (drop 1 rest) in
    let five : at + 5 - at ≡ 5 = omega arith in
    let head_is : head ≡ tag ∷ number = ap (λ (n : ℕ). take n rest) five ∙ first_five tag rest first in
    let value_long : length value ≡ len = omega (arith, length-take (at + 5 + len - (at + 5)) (drop (at + 5) bytes), length-drop (at + 5) bytes) in
    let four_long : length number ≡ 4 = omega (arith, length-take 4 (drop 1 rest), length-drop 1 rest, length-drop at bytes) in
    let told : to_be_bytes w32 (length value) ≡ number = be_bytes_4 number (length value) four_long (take_bytes 4 (drop 1 rest) (drop_bytes 1 rest (drop_bytes at bytes fits))) (value_long ∙ is) in
    drop_split bytes at (at + 5) (omega arith)
    ∙ ap (λ (l : List ℕ). head ++ l) (drop_split bytes (at + 5) (at + 5 + len) (omega arith))
    ∙ ap (λ (l : List ℕ). l ++ (value ++ drop (at + 5 + len) bytes)) (head_is ∙ ap (λ (l : List ℕ). tag ∷ l) (sym told))
    ∙ sym (append_assoc (tag ∷ to_be_bytes w32 (length value)) value (drop (at + 5 + len) bytes))

-- What is found is spelled so.
pub found_item : (bytes : List ℕ) (at tag len : ℕ) → IsBytes bytes → at ≤ length bytes → slice_get (drop at bytes) 0 ≡ Some tag → value_len (drop at bytes) ≡ Some len → IsItemAt bytes at tag (at + 5) (at + 5 + len)
found_item bytes at tag len fits in_bytes first found =
    let number : ℕ = from_be_bytes w32 (take 4 (drop 1 (drop at bytes))) in
    let tests = chosen (nat_lt (length (drop at bytes)) 5) (nat_lt (length (drop at bytes)) (5 + number)) number len found in
    let far : 5 + number ≤ length (drop at bytes) = not_lt _ _ tests.1 in
    let is : number ≡ len = tests.2 in
    let within : at + 5 + len ≤ length bytes = omega (arith, length-drop at bytes, far, is) in
    let below : number < 2 ^ 32 = head_below (take 4 (drop 1 (drop at bytes))) (take_bytes 4 (drop 1 (drop at bytes)) (drop_bytes 1 (drop at bytes) (drop_bytes at bytes fits))) in
    record {
      begins = refl;
      order = omega arith;
      within = within;
      fits = omega (arith, length-take (at + 5 + len - (at + 5)) (drop (at + 5) bytes), is, below);
      spelled = spelled bytes at tag len fits first within (sym is);
    }
