-- The words of a line, and the size of the line's input.
--
-- One space stands between two words. A space between `[` and the next `]` of the line belongs to its word.
use Rattle.std.specs.Prelude.{ℕ, ◌-◌, Bool, false, ◌&&◌, not, nat_le, ◌==◌, List, [], ◌∷◌, length, take, get_or, Option, Some, None, if◌then◌else◌}
use Rattle.std.specs.List.{list_all, list_any, onto_first}
use Rattle.cny_base.specs.Number.{is_decimal, decimal_value}

-- ---- words

-- a `]`
abbrev pub is_close : ℕ → Bool
is_close b = b == 93

-- what follows a byte is in brackets: behind a `[`, where a `]` comes later, and up to that one
abbrev pub is_in_brackets : Bool → ℕ → Bool → Bool
is_in_brackets before b closes = if b == 91 then closes else before && not (is_close b)

-- what stands between the spaces that aren't in brackets
abbrev pub parts_from : Bool → List ℕ → List (List ℕ)
parts_from in_brackets [] = [] ∷ []
parts_from in_brackets (b ∷ bs) =
    if b == 32 && not in_brackets then [] ∷ parts_from false bs
    else onto_first b (parts_from (is_in_brackets in_brackets b (list_any is_close bs)) bs)

abbrev pub parts_of : List ℕ → List (List ℕ)
parts_of line = parts_from false line

-- visible ASCII, or a space
abbrev pub is_shown : ℕ → Bool
is_shown b = nat_le 32 b && nat_le b 126

-- one or more such bytes
abbrev pub is_word : List ℕ → Bool
is_word part = nat_le 1 (length part) && list_all is_shown part

-- each part of the line is a word, so that no two spaces separate two words, and none stands at an end
unfoldable pub are_words : List ℕ → Bool
are_words line = list_all is_word (parts_of line)

-- ---- the size of the input

-- `<` and a decimal number
abbrev pub size_of : List ℕ → Option ℕ
size_of [] = None
size_of (b ∷ digits) = if b == 60 && is_decimal digits then Some (decimal_value digits) else None

-- the size that the last of two or more parts tells
abbrev pub last_size : List (List ℕ) → Option ℕ
last_size parts = if nat_le 2 (length parts) then size_of (get_or parts (length parts - 1) []) else None

-- the parts without a last one that tells a size
abbrev pub without_size : Option ℕ → List (List ℕ) → List (List ℕ)
without_size None parts = parts
without_size (Some size) parts = take (length parts - 1) parts

-- ---- a line

-- the size of the line's input, where it tells one
unfoldable pub input_size : List ℕ → Option ℕ
input_size line = last_size (parts_of line)

-- the words of the line
unfoldable pub words_of : List ℕ → List (List ℕ)
words_of line = without_size (last_size (parts_of line)) (parts_of line)
