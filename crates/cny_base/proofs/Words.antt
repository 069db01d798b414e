-- Words: bytes that pass a test, the first of which is a letter or digit.
use Rattle.std.proofs.Common.{◌≡◌, ℕ, Bool, true, false, ◌&&◌, List, [], ◌∷◌, refl, ap, arith}
use Rattle.std.specs.Char.{is_ascii_alphanumeric}
use Rattle.std.specs.List.{list_all}
use Rattle.std.proofs.lemmas.Bool.Decides.{nat_tests}
use Rattle.cny_base.specs.Name.{begins_alphanumeric, is_word_by, is_word_byte, is_word}

-- bytes that all pass it are a word where the first is a letter or digit
pub word_by : (test : ℕ → Bool) → ((b : ℕ) → is_ascii_alphanumeric b ≡ true → test b ≡ true) → (bytes : List ℕ) → (begins_alphanumeric bytes && list_all test bytes) ≡ is_word_by test bytes
word_by test letters [] = refl
word_by test letters (b ∷ bs) = at (is_ascii_alphanumeric b) refl
  where
    at : (v : Bool) → is_ascii_alphanumeric b ≡ v → (v && (test b && list_all test bs)) ≡ (v && list_all test bs)
    at true is = ap (λ t. t && list_all test bs) (letters b is)
    at false is = refl

letter_of_word : (b : ℕ) → is_ascii_alphanumeric b ≡ true → is_word_byte b ≡ true
letter_of_word b is = grind (arith, nat_tests)

pub word : (bytes : List ℕ) → (begins_alphanumeric bytes && list_all is_word_byte bytes) ≡ is_word bytes
word bytes = word_by is_word_byte letter_of_word bytes
