-- What there is of a magic or of a head, byte by byte.
use Rattle.std.proofs.Common.{◌≡◌, ◌≢◌, ℕ, ◌+◌, ◌<◌, ◌≤◌, ◌^◌, List, [], ◌∷◌, ◌++◌, length, take, get_or, refl, sym, ap, ◌∙◌, arith}
use Rattle.std.specs.Prelude.{IsTrue, Bool, true, false, not}
use Rattle.std.specs.Int.{w32, to_be_bytes}
use Rattle.std.specs.Str.{bytes_eq}
use Rattle.std.proofs.Math.ListN.{set}
use Rattle.std.proofs.lemmas.List.{take_more_set, take_all, length-set}
use Rattle.std.proofs.lemmas.Slice.Eq.{bytes_eq-Decides}
use Rattle.cny_stream.specs.Item.{is_expected}
use Rattle.cny_stream.specs.Cut.{IsHead}

-- one byte more, as it is written behind the others
pub one_more : (xs : List ℕ) (have b : ℕ) (front : List ℕ) → have < length xs → front ≡ take have xs → front ++ b ∷ [] ≡ take (have + 1) (set xs have b)
one_more xs have b front low there = ap (λ (l : List ℕ). l ++ b ∷ []) there ∙ sym (take_more_set xs have b low)

-- the last byte of all
pub last_one : (xs : List ℕ) (have b : ℕ) (front : List ℕ) → have + 1 ≡ length xs → front ≡ take have xs → front ++ b ∷ [] ≡ set xs have b
last_one xs have b front last there =
    one_more xs have b front (omega arith) there ∙ take_all (have + 1) (set xs have b) (omega (arith, length-set xs have b))

not_equal : (xs ys : List ℕ) (r : Bool) → r ≡ not (bytes_eq xs ys) → r ≡ true → xs ≢ ys
not_equal xs ys r is differ e = let same = (bytes_eq-Decides xs ys).1 e in absurd (cc)

equal : (xs ys : List ℕ) (r : Bool) → r ≡ not (bytes_eq xs ys) → r ≡ false → xs ≡ ys
equal xs ys r is differ = (bytes_eq-Decides xs ys).0 (turned (bytes_eq xs ys) (sym is ∙ differ))
  where
    turned : (b : Bool) → not b ≡ false → b ≡ true
    turned true e = refl
    turned false e = absurd (cc)

-- all eight bytes, and they aren't the magic
pub no_magic : (xs magic : List ℕ) (have b : ℕ) (front : List ℕ) (r : Bool) → length xs ≡ 8 → have + 1 ≡ 8 → front ≡ take have xs → r ≡ not (bytes_eq (set xs have b) magic) → r ≡ true
    → (length (front ++ b ∷ []) ≡ 8) × (front ++ b ∷ [] ≢ magic)
no_magic xs magic have b front r eight last there is differ =
    let same = last_one xs have b front (omega arith) there in
    (ap length same ∙ length-set xs have b ∙ eight, λ e. not_equal (set xs have b) magic r is differ (sym same ∙ e))

-- all eight bytes, and they are the magic
pub the_magic : (xs magic : List ℕ) (have b : ℕ) (front : List ℕ) (r : Bool) → length xs ≡ 8 → have + 1 ≡ 8 → front ≡ take have xs → r ≡ not (bytes_eq (set xs have b) magic) → r ≡ false
    → front ++ b ∷ [] ≡ magic
the_magic xs magic have b front r eight last there is same =
    last_one xs have b front (omega arith) there ∙ equal (set xs have b) magic r is same

-- the first five bytes, as a head
pub head_read : (tags bytes : List ℕ) (len : ℕ) → 5 ≤ length bytes → len < 2 ^ 32 → IsTrue (is_expected tags (get_or bytes 0 0))
    → to_be_bytes w32 len ≡ get_or bytes 1 0 ∷ get_or bytes 2 0 ∷ get_or bytes 3 0 ∷ get_or bytes 4 0 ∷ [] → IsHead tags (get_or bytes 0 0) len (take 5 bytes)
head_read tags [] len long fits expected is = absurd (omega arith)
head_read tags (t ∷ []) len long fits expected is = absurd (omega arith)
head_read tags (t ∷ a ∷ []) len long fits expected is = absurd (omega arith)
head_read tags (t ∷ a ∷ b ∷ []) len long fits expected is = absurd (omega arith)
head_read tags (t ∷ a ∷ b ∷ c ∷ []) len long fits expected is = absurd (omega arith)
head_read tags (t ∷ a ∷ b ∷ c ∷ d ∷ rest) len long fits expected is =
    record { spelled = ap (λ (l : List ℕ). t ∷ l) (sym is); expected = expected; fits = fits }

-- the head that a fifth byte ends
pub last_of_head : (tags xs : List ℕ) (have b len : ℕ) (front : List ℕ) → length xs ≡ 8 → have + 1 ≡ 5 → front ≡ take have xs → IsHead tags (get_or (set xs have b) 0 0) len (take 5 (set xs have b))
    → IsHead tags (get_or (set xs have b) 0 0) len (front ++ b ∷ [])
last_of_head tags xs have b len front eight five there head =
    let same = one_more xs have b front (omega arith) there in
    let first : take (have + 1) (set xs have b) ≡ take 5 (set xs have b) = ap (λ (n : ℕ). take n (set xs have b)) five in
    record { spelled = same ∙ first ∙ head.spelled; expected = head.expected; fits = head.fits }
