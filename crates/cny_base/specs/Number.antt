-- Numbers in texts: modes in octal digits, sizes and counts in decimal ones.
use Rattle.std.specs.Prelude.{ℕ, ◌+◌, ◌-◌, ◌*◌, ◌/◌, ◌%◌, Bool, false, ◌&&◌, ◌||◌, not, nat_le, ◌==◌, List, [], ◌∷◌, length}
use Rattle.std.specs.List.{list_all}

-- ---- modes

abbrev pub is_octal_digit : ℕ → Bool
is_octal_digit b = nat_le 48 b && nat_le b 55

-- four octal digits
abbrev pub is_octal_text : List ℕ → Bool
is_octal_text bytes = length bytes == 4 && list_all is_octal_digit bytes

-- the number that the octal digits write, after those of n
abbrev pub octal_on : ℕ → List ℕ → ℕ
octal_on n [] = n
octal_on n (digit ∷ digits) = octal_on (n * 8 + (digit - 48)) digits

-- the number that the octal digits write
abbrev pub octal_value : List ℕ → ℕ
octal_value bytes = octal_on 0 bytes

-- a number below 8 ^ 4 in four octal digits
abbrev pub octal_text : ℕ → List ℕ
octal_text n = (48 + n / 512 % 8) ∷ (48 + n / 64 % 8) ∷ (48 + n / 8 % 8) ∷ (48 + n % 8) ∷ []

-- ---- decimal numbers

abbrev pub is_digit : ℕ → Bool
is_digit b = nat_le 48 b && nat_le b 57

-- 1 to 19 decimal digits, and no 0 before another
abbrev pub is_decimal : List ℕ → Bool
is_decimal [] = false
is_decimal (digit ∷ digits) = nat_le (length digits) 18 && (list_all is_digit (digit ∷ digits) && (length digits == 0 || not (digit == 48)))

-- the number that the decimal digits write, after those of n
abbrev pub decimal_on : ℕ → List ℕ → ℕ
decimal_on n [] = n
decimal_on n (digit ∷ digits) = decimal_on (n * 10 + (digit - 48)) digits

-- the number that the decimal digits write
abbrev pub decimal_value : List ℕ → ℕ
decimal_value bytes = decimal_on 0 bytes
