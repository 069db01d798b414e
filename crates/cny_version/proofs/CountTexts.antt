-- Count texts, and the numbers that they write.
use Rattle.std.proofs.Common.{◌≡◌, ℕ, ◌+◌, ◌^◌, ◌<◌, ◌≤◌, suc, zero, true, false, cond, not, ◌&&◌, eqb, leb, List, [], ◌∷◌, length, map, get_or, Some, None, refl, sym, ap, ◌∙◌, subst, arith, lit<}
use Rattle.std.specs.Fmt.{decimal}
use Rattle.std.specs.List.{list_all, join_with_byte}
use Rattle.std.specs.Option.{option_map, option_and_then}
use Rattle.std.specs.Cmp.{first_so, second_so}
use Rattle.std.proofs.lemmas.Bool.{and_from, leb-true, le-leb, ltb-true, not-true}
use Rattle.std.proofs.lemmas.Bool.Decides.{nat_tests}
use Rattle.std.proofs.lemmas.Fmt.{digits_decimal, digits_value-decimal, length-decimal-le, decimal_nonempty, first_decimal, decimal_digit, decimal-digits_value}
use Rattle.cny_base.specs.Number.{is_digit, is_decimal, decimal_value}
use Rattle.cny_version.specs.Revision.{count_text, fits_32_bits, ends_above_zero, is_count}
use Rattle.cny_version.specs.Reading.{pieces, number_found, count_found}
use Rattle.cny_version.proofs.TextPieces.{is_free, pieces_at, pieces_free}
use Rattle.cny_version.proofs.LabelTexts.{free_by_test, is_free-append}
use Rattle.cny_version.proofs.Options.{bind_some, map_some, test_some, test_other}
use Rattle.cny_base.proofs.Numbers.{AreDigits, form_of, own}

-- ---- numbers

-- what is known of a decimal text
record IsDecimalText (text : List ℕ) : Type 0 where
  some : 0 < length text
  digits : AreDigits text
  front : get_or text 0 0 ≡ 48 → length text ≡ 1

decimal_text : (text : List ℕ) → is_decimal text ≡ true → IsDecimalText text
decimal_text [] is = absurd (cc is)
decimal_text (d ∷ ds) is = record { some = omega arith; digits = grind arith; front = λ zero_first. grind (arith, nat_tests) }

decimal_form : (n : ℕ) → n < 2 ^ 32 → is_decimal (decimal n) ≡ true
decimal_form zero small = rw (decimal_digit 0 (lit< tt)) refl
decimal_form (suc k) small =
    let n = suc k in
    let fits : n < 2 ^ 64 = omega arith in
    form_of (decimal n) (digits_decimal own n fits) (decimal_nonempty n fits) (length-decimal-le 19 n (lit< tt) (omega arith) fits) (first_decimal n (omega arith) fits)

below : (n : ℕ) → fits_32_bits n ≡ true → n < 2 ^ 32
below n fits = ltb-true n (2 ^ 32) fits

pub number_back : (n : ℕ) → fits_32_bits n ≡ true → number_found (decimal n) ≡ Some n
number_back n fits =
    let small : n < 2 ^ 32 = below n fits in
    let value : decimal_value (decimal n) ≡ n = digits_value-decimal own n (omega arith) in
    ap (λ t. cond t (cond (fits_32_bits (decimal_value (decimal n))) (Some (decimal_value (decimal n))) None) None) (decimal_form n small)
    ∙ ap (λ (m : ℕ). cond (fits_32_bits m) (Some m) None) value
    ∙ ap (λ t. cond t (Some n) None) fits

pub record IsNumberFound (text : List ℕ) (n : ℕ) : Type 0 where
  pub text_is : decimal n ≡ text
  pub fits : fits_32_bits n ≡ true

pub number_sound : (text : List ℕ) (n : ℕ) → number_found text ≡ Some n → IsNumberFound text n
number_sound text n found =
    let form = test_some (is_decimal text) (cond (fits_32_bits (decimal_value text)) (Some (decimal_value text)) None) n found in
    let value = test_some (fits_32_bits (decimal_value text)) (Some (decimal_value text)) n form.1 in
    let same : decimal_value text ≡ n = cc (value.1) in
    let d = decimal_text text form.0 in
    let small : decimal_value text < 2 ^ 32 = below (decimal_value text) value.0 in
    record {
      text_is = ap decimal (sym same) ∙ decimal-digits_value own text d.digits d.some d.front (omega arith);
      fits = ap fits_32_bits (sym same) ∙ value.0;
    }

pub decimal_free : (c n : ℕ) → is_digit c ≡ false → fits_32_bits n ≡ true → is_free c (decimal n) ≡ true
decimal_free c n absent fits =
    let small : n < 2 ^ 32 = below n fits in
    free_by_test c is_digit (decimal n) absent (digits_decimal own n (omega arith))

-- ---- counts

pub record IsCountFound (room : ℕ) (texts : List (List ℕ)) (numbers : List ℕ) : Type 0 where
  pub texts_are : map decimal numbers ≡ texts
  pub short : length numbers ≤ room + 1
  pub fit : list_all fits_32_bits numbers ≡ true
  pub ends : ends_above_zero numbers ≡ true

pub count_parts : (room : ℕ) (numbers : List ℕ) → is_count room numbers ≡ true → IsCountFound room (map decimal numbers) numbers
count_parts room numbers is =
    let more : (list_all fits_32_bits numbers && ends_above_zero numbers) ≡ true = second_so (leb (length numbers) (room + 1)) (list_all fits_32_bits numbers && ends_above_zero numbers) is in
    record {
      texts_are = refl;
      short = leb-true (length numbers) (room + 1) (first_so (leb (length numbers) (room + 1)) (list_all fits_32_bits numbers && ends_above_zero numbers) is);
      fit = first_so (list_all fits_32_bits numbers) (ends_above_zero numbers) more;
      ends = second_so (list_all fits_32_bits numbers) (ends_above_zero numbers) more;
    }

pub count_is : (room : ℕ) (texts : List (List ℕ)) (numbers : List ℕ) → IsCountFound room texts numbers → is_count room numbers ≡ true
count_is room texts numbers found =
    and_from (leb (length numbers) (room + 1)) (list_all fits_32_bits numbers && ends_above_zero numbers) (le-leb (length numbers) (room + 1) found.short)
    (and_from (list_all fits_32_bits numbers) (ends_above_zero numbers) found.fit found.ends)

longer_ends : (n : ℕ) (numbers : List ℕ) → ends_above_zero numbers ≡ true → ends_above_zero (n ∷ numbers) ≡ true
longer_ends n [] ends = absurd (cc ends)
longer_ends n (m ∷ numbers) ends = ends

pub count_sound : (room : ℕ) (texts : List (List ℕ)) (numbers : List ℕ) → count_found room texts ≡ Some numbers → IsCountFound room texts numbers
count_sound room [] numbers found = absurd (cc found)
count_sound room (p ∷ []) numbers found =
    let n = bind_some (λ n. cond (eqb n 0) None (Some (n ∷ []))) (number_found p) numbers found in
    let some = test_other (eqb n.0 0) (Some (n.0 ∷ [])) numbers n.2 in
    let same : n.0 ∷ [] ≡ numbers = cc (some.1) in
    let k = number_sound p n.0 n.1 in
    let P : List ℕ → Type 0 = IsCountFound room (p ∷ []) in
    subst P same (record {
      texts_are = ap (λ t. t ∷ []) k.text_is;
      short = omega arith;
      fit = and_from (fits_32_bits n.0) true k.fits refl;
      ends = ap not some.0;
    })
count_sound zero (p ∷ q ∷ ps) numbers found = absurd (cc found)
count_sound (suc room) (p ∷ q ∷ ps) numbers found =
    let n = bind_some (λ n. option_map (λ ns. n ∷ ns) (count_found room (q ∷ ps))) (number_found p) numbers found in
    let rest = map_some (λ (ns : List ℕ). n.0 ∷ ns) (count_found room (q ∷ ps)) numbers n.2 in
    let k = number_sound p n.0 n.1 in
    let r = count_sound room (q ∷ ps) rest.0 rest.1 in
    let long : length rest.0 ≤ room + 1 = r.short in
    let P : List ℕ → Type 0 = IsCountFound (suc room) (p ∷ q ∷ ps) in
    subst P rest.2 (record {
      texts_are = ap (λ t. t ∷ map decimal rest.0) k.text_is ∙ ap (λ ts. p ∷ ts) r.texts_are;
      short = omega arith;
      fit = and_from (fits_32_bits n.0) (list_all fits_32_bits rest.0) k.fits r.fit;
      ends = longer_ends n.0 rest.0 r.ends;
    })

pub count_back : (room : ℕ) (numbers : List ℕ) → length numbers ≤ room + 1 → list_all fits_32_bits numbers ≡ true → ends_above_zero numbers ≡ true
    → count_found room (map decimal numbers) ≡ Some numbers
count_back room [] short fit ends = absurd (cc ends)
count_back room (n ∷ []) short fit ends =
    ap (λ o. option_and_then (λ n. cond (eqb n 0) None (Some (n ∷ []))) o) (number_back n (first_so (fits_32_bits n) true fit))
    ∙ ap (λ t. cond t None (Some (n ∷ []))) (not-true (eqb n 0) ends)
count_back zero (n ∷ m ∷ numbers) short fit ends = absurd (omega arith)
count_back (suc room) (n ∷ m ∷ numbers) short fit ends =
    ap (λ o. option_and_then (λ n. option_map (λ ns. n ∷ ns) (count_found room (decimal m ∷ map decimal numbers))) o)
    (number_back n (first_so (fits_32_bits n) (list_all fits_32_bits (m ∷ numbers)) fit))
    ∙ ap (λ o. option_map (λ ns. n ∷ ns) o)
    (count_back room (m ∷ numbers) (omega arith) (second_so (fits_32_bits n) (list_all fits_32_bits (m ∷ numbers)) fit) ends)

-- ---- pieces that are joined

pub pieces_join : (c : ℕ) (p : List ℕ) (ps : List (List ℕ)) → list_all (is_free c) (p ∷ ps) ≡ true → pieces c (join_with_byte c (p ∷ ps)) ≡ p ∷ ps
pieces_join c p [] free = pieces_free c p (first_so (is_free c p) true free)
pieces_join c p (q ∷ ps) free =
    pieces_at c p (join_with_byte c (q ∷ ps)) (first_so (is_free c p) (list_all (is_free c) (q ∷ ps)) free)
    ∙ ap (λ l. p ∷ l) (pieces_join c q ps (second_so (is_free c p) (list_all (is_free c) (q ∷ ps)) free))

join_free : (c between : ℕ) (ps : List (List ℕ)) → eqb between c ≡ false → list_all (is_free c) ps ≡ true → is_free c (join_with_byte between ps) ≡ true
join_free c between [] other free = refl
join_free c between (p ∷ []) other free = first_so (is_free c p) true free
join_free c between (p ∷ q ∷ ps) other free =
    is_free-append c p (between ∷ join_with_byte between (q ∷ ps)) (first_so (is_free c p) (list_all (is_free c) (q ∷ ps)) free)
    (and_from (not (eqb between c)) (is_free c (join_with_byte between (q ∷ ps))) (ap not other)
    (join_free c between (q ∷ ps) other (second_so (is_free c p) (list_all (is_free c) (q ∷ ps)) free)))

decimals_free : (c : ℕ) (numbers : List ℕ) → is_digit c ≡ false → list_all fits_32_bits numbers ≡ true → list_all (is_free c) (map decimal numbers) ≡ true
decimals_free c [] absent fit = refl
decimals_free c (n ∷ numbers) absent fit =
    and_from (is_free c (decimal n)) (list_all (is_free c) (map decimal numbers))
    (decimal_free c n absent (first_so (fits_32_bits n) (list_all fits_32_bits numbers) fit))
    (decimals_free c numbers absent (second_so (fits_32_bits n) (list_all fits_32_bits numbers) fit))

pub count_free : (c : ℕ) (numbers : List ℕ) → is_digit c ≡ false → eqb 46 c ≡ false → list_all fits_32_bits numbers ≡ true → is_free c (count_text numbers) ≡ true
count_free c numbers absent other fit = join_free c 46 (map decimal numbers) other (decimals_free c numbers absent fit)

pub pieces_of_count : (numbers : List ℕ) → list_all fits_32_bits numbers ≡ true → ends_above_zero numbers ≡ true → pieces 46 (count_text numbers) ≡ map decimal numbers
pieces_of_count [] fit ends = absurd (cc ends)
pieces_of_count (n ∷ numbers) fit ends = pieces_join 46 (decimal n) (map decimal numbers) (decimals_free 46 (n ∷ numbers) refl fit)

-- a count is read back
pub count_text_back : (room : ℕ) (numbers : List ℕ) → is_count room numbers ≡ true → count_found room (pieces 46 (count_text numbers)) ≡ Some numbers
count_text_back room numbers is =
    let k = count_parts room numbers is in
    ap (count_found room) (pieces_of_count numbers k.fit k.ends) ∙ count_back room numbers k.short k.fit k.ends
