-- The words and spaces at the front of some bytes.
use Rattle.std.specs.Prelude.{◌≡◌, ℕ, Bool, true, false, cond, List, [], ◌∷◌, length, take, refl}
use Rattle.std.proofs.Common.{◌+◌, ◌≤◌, arith}
use Rattle.std.proofs.lemmas.List.Sums.{prefix_len-le-length}
use Rattle.std.specs.List.{list_all}
use Rattle.cny_base.specs.Name.{is_word_byte}
use Rattle.cny_dep.specs.FlavorReading.{word_len}

pub word_len-le : (bytes : List ℕ) → word_len bytes ≤ length bytes
word_len-le bytes = prefix_len-le-length is_word_byte bytes

word_passes_here : (v : Bool) (b : ℕ) (bs : List ℕ) (n : ℕ) → is_word_byte b ≡ v → list_all is_word_byte (take n bs) ≡ true
    → list_all is_word_byte (take (cond v (1 + n) 0) (b ∷ bs)) ≡ true
word_passes_here true b bs n is rest = grind (arith, is, rest)
word_passes_here false b bs n is rest = refl

pub word_passes : (bytes : List ℕ) → list_all is_word_byte (take (word_len bytes) bytes) ≡ true
word_passes [] = refl
word_passes (b ∷ bs) = word_passes_here (is_word_byte b) b bs (word_len bs) refl (word_passes bs)
