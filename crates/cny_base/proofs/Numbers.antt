-- Decimal texts, and the numbers that they write.
use Rattle.std.proofs.Common.{◌≡◌, ℕ, ◌^◌, ◌<◌, ◌≤◌, true, List, [], ◌∷◌, length, get_or, refl, ap, ◌∙◌, arith, rules, Option, Some, Result, Ok, Err, suc, zero, lit<, MatchResult, Bor}
use Rattle.std.specs.Result.{result_ok}
use Rattle.std.specs.Fmt.{decimal}
use Rattle.std.specs.List.{list_all}
use Rattle.std.specs.Str.{IsUtf8}
use Rattle.std.specs.Str.Parse.{ParsesUnsigned}
use Rattle.std.proofs.lemmas.Bool.Decides.{nat_tests}
use Rattle.std.proofs.lemmas.Str.Parse.{IsNumeralModel, numerals_by_fold, parse_gives, digits_value_short}
use Rattle.std.proofs.lemmas.Str.{IsUtf8-from_ascii}
use Rattle.std.proofs.lemmas.Fmt.{IsAscii-from_digits, digits_decimal, digits_value-decimal, length-decimal-le, decimal_nonempty, first_decimal, decimal_digit}
use Rattle.cny_base.specs.Number.{is_digit, is_decimal, decimal_on, decimal_value}

abbrev pub AreDigits : List ℕ → Type 0
AreDigits text = list_all is_digit text ≡ true

pub own : IsNumeralModel AreDigits decimal_value
own = numerals_by_fold AreDigits (search rules) decimal_on (search rules)

-- what is known of a decimal text
pub record IsDecimalText (text : List ℕ) : Type 0 where
  pub some : 0 < length text
  pub short : length text ≤ 19
  pub digits : AreDigits text

pub decimal_text : (text : List ℕ) → is_decimal text ≡ true → IsDecimalText text
decimal_text [] is = absurd cc
decimal_text (d ∷ ds) is = record { some = omega arith; short = grind arith; digits = grind arith }

-- ---- reading

-- bytes that are UTF-8 are read as a text
text_read : {E : Type 0} (P : E → Type 0) (bytes : List ℕ) (r : Result (Bor (List ℕ)) E) → IsUtf8 bytes
    → MatchResult r (λ s. (s.now ≡ bytes) × IsUtf8 bytes) (λ e. ¬ (IsUtf8 bytes) × P e) → (s : Bor (List ℕ)) × (r ≡ Ok s) × (s.now ≡ bytes)
text_read P bytes (Ok s) utf8 cases = (s, refl, cases.0)
text_read P bytes (Err e) utf8 cases = absurd (cases.0 utf8)

decimal_utf8 : (text : List ℕ) → is_decimal text ≡ true → IsUtf8 text
decimal_utf8 text is = IsUtf8-from_ascii text (IsAscii-from_digits text (own.to text (decimal_text text is).digits))

pub text_of_decimal : {E : Type 0} (P : E → Type 0) (bytes : List ℕ) (r : Result (Bor (List ℕ)) E) (o : Option (Bor (List ℕ))) → is_decimal bytes ≡ true
    → MatchResult r (λ s. (s.now ≡ bytes) × IsUtf8 bytes) (λ e. ¬ (IsUtf8 bytes) × P e) → o ≡ result_ok r → (s : Bor (List ℕ)) × (o ≡ Some s) × (s.now ≡ bytes)
text_of_decimal P bytes r o is cases same =
    let read = text_read P bytes r (decimal_utf8 bytes is) cases in
    (read.0, same ∙ ap result_ok read.1, read.2)

pub decimal_parsed : {E : Type 0} (text : List ℕ) (r : Result ℕ E) → is_decimal text ≡ true → ParsesUnsigned 64 10 text r → r ≡ Ok (decimal_value text)
decimal_parsed text r is parsed =
    let t = decimal_text text is in
    parse_gives own 64 text r parsed t.digits t.some (omega (arith, digits_value_short own text 19 t.digits t.short))

-- ---- writing

pub value_back : (n : ℕ) → n < 2 ^ 64 → decimal_value (decimal n) ≡ n
value_back n fits = digits_value-decimal own n fits

-- a text of digits with no 0 in front
pub form_of : (text : List ℕ) → AreDigits text → 0 < length text → length text ≤ 19 → 48 < get_or text 0 0 → is_decimal text ≡ true
form_of [] digits some short first = absurd (omega arith)
form_of (d ∷ ds) digits some short first = grind (arith, nat_tests)

pub form_back : (n : ℕ) → n < 10 ^ 19 → is_decimal (decimal n) ≡ true
form_back zero small = rw (decimal_digit 0 (lit< tt)) refl
form_back (suc k) small =
    let n = suc k in
    let fits : n < 2 ^ 64 = omega arith in
    form_of (decimal n) (digits_decimal own n fits) (decimal_nonempty n fits) (length-decimal-le 19 n (lit< tt) small fits) (first_decimal n (omega arith) fits)
