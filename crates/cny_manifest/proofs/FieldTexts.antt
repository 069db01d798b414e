-- Fields of lines, cut off and put there again.
use Rattle.std.proofs.Common.{◌≡◌, ℕ, zero, suc, ◌+◌, ◌/◌, ◌%◌, ◌<◌, ◌≤◌, ◌^◌, Bool, true, false, ◌&&◌, ◌==◌, List, [], ◌∷◌, ◌++◌, length, get_or, take, drop, Option, Some, None, refl, sym, ap, subst, ◌∙◌, append_assoc, arith, eq-eqb, length-append}
use Rattle.std.specs.Prelude.{leb, not, ◌||◌}
use Rattle.std.specs.List.{position, position_or_len, list_all}
use Rattle.std.specs.Str.{bytes_eq}
use Rattle.std.specs.Char.{is_ascii_alphanumeric}
use Rattle.std.specs.Fmt.{decimal}
use Rattle.std.proofs.lemmas.Bool.{eqb-true, lt-ltb, le-leb, leb-true}
use Rattle.std.proofs.lemmas.List.{take_at, drop_at, get_or_at, get_or_append_left, length_push, take-append-drop, drop_more}
use Rattle.std.proofs.lemmas.List.Sums.{position_or_len_is}
use Rattle.std.proofs.lemmas.List.Folds.{list_all-append}
use Rattle.std.proofs.lemmas.List.Quantifiers.{position-Some}
use Rattle.std.proofs.lemmas.Fmt.{digits_decimal, digits_value-decimal, length-decimal-le, decimal_nonempty, first_decimal, decimal_digit, decimal-digits_value}
use Rattle.std.proofs.lemmas.Str.Parse.{digits_value_short}
use Rattle.manifest_troves.specs.cny-base.Name.{is_name, is_word, is_word_byte, is_colon, colon_place, has_words, begins_as_group}
use Rattle.manifest_troves.specs.cny-base.Number.{octal_text, is_octal_digit, is_octal_text, octal_value, is_digit, is_decimal, decimal_value}
use Rattle.cny_manifest.specs.Lines.{◌&>◌, cut_at, is_space, field_at, after, mode_of, size_of}
use Rattle.cny_version.proofs.cny-base.Numbers.{AreDigits, own}
use Rattle.cny_version.proofs.cny-base.Doubling.{both}
use Rattle.cny_version.proofs.cny-base.ByteLists.{bytes_itself as bytes_same, bytes_mean as same_bytes}
use Rattle.manifest_troves.proofs.trove-parts.IdFields.{letter_in_word as letter_is}
use Rattle.cny_version.proofs.cny-base.Bools.{or_left}
use Rattle.manifest_troves.proofs.cny-stream.Fields.{guarded as then_some}

-- ---- steps that found something

pub bind_some : {A B : Type 0} (o : Option A) (f : A → Option B) (y : B) → (o &> f) ≡ Some y → (x : A) × (o ≡ Some x) × (f x ≡ Some y)
bind_some (Some x) f y e = (x, refl, e)
bind_some None f y e = absurd cc

pub some_is : {A : Type 0} (x y : A) → ◌≡◌ {A = Option A} (Some x) (Some y) → x ≡ y
some_is x y e = cc

-- ---- cut off

cut_takes : (c : ℕ) (xs : List ℕ) (i : ℕ) → i < length xs → (get_or xs i 0 == c) ≡ true → xs ≡ take i xs ++ c ∷ drop (i + 1) xs
cut_takes c xs i lt at =
    let here : get_or xs i 0 ≡ c = eqb-true (get_or xs i 0) c at in
    sym (take-append-drop i xs) ∙ ap (λ (ys : List ℕ). take i xs ++ ys) (drop_more xs i 0 lt ∙ ap (λ (b : ℕ). b ∷ drop (i + 1) xs) here)

pub cut_by : (c : ℕ) (text : List ℕ) (o : Option ℕ) (f : List ℕ × List ℕ) → position (λ b. b == c) text ≡ o → cut_at text o ≡ Some f → text ≡ f.0 ++ c ∷ f.1
cut_by c text None f is e = absurd cc
cut_by c text (Some i) f is e =
    let w = position-Some (λ b. b == c) text i 0 is in
    let p : (take i text, drop (i + 1) text) ≡ f = some_is _ _ e in
    subst (λ (g : List ℕ × List ℕ). text ≡ g.0 ++ c ∷ g.1) p (cut_takes c text i w.0 w.1)

pub field_takes : (text : List ℕ) (f : List ℕ × List ℕ) → field_at text ≡ Some f → text ≡ f.0 ++ 32 ∷ f.1
unfolding field_at
field_takes text f e = cut_by 32 text (position is_space text) f refl e

pub after_takes : (word text rest : List ℕ) → after word text ≡ Some rest → text ≡ word ++ rest
after_takes word text rest e =
    let b = then_some (bytes_eq (take (length word) text) word) (drop (length word) text) rest e in
    sym (take-append-drop (length word) text) ∙ ap (λ (f : List ℕ). f ++ drop (length word) text) (same_bytes _ _ b.0) ∙ ap (λ (r : List ℕ). word ++ r) b.1

-- ---- put there again

-- the byte doesn't stand there
abbrev pub Without : ℕ → List ℕ → Type 0
Without c xs = (k : ℕ) → k < length xs → (get_or xs k 0 == c) ≡ false

pub without_all : (c : ℕ) (p : ℕ → Bool) → ((b : ℕ) → p b ≡ true → (b == c) ≡ false) → (xs : List ℕ) → list_all p xs ≡ true → Without c xs
without_all c p h [] e k lt = absurd (omega arith)
without_all c p h (x ∷ xs) e zero lt = h x (both (p x) (list_all p xs) e).0
without_all c p h (x ∷ xs) e (suc k) lt = without_all c p h xs (both (p x) (list_all p xs) e).1 k (omega arith)

place_is : (c : ℕ) (ys : List ℕ) (i : ℕ) → i < length ys → ((k : ℕ) → k < i → (get_or ys k 0 == c) ≡ false) → (get_or ys i 0 == c) ≡ true → position (λ b. b == c) ys ≡ Some i
place_is c ys i lt before at =
    let n : position_or_len (λ b. b == c) ys ≡ i = position_or_len_is (λ b. b == c) ys i 0 (omega arith) before (λ _. at) in
    rw (n, lt-ltb i (length ys) lt) refl

in_front : (c : ℕ) (xs rest : List ℕ) → Without c xs → (k : ℕ) → k < length xs → (get_or (xs ++ c ∷ rest) k 0 == c) ≡ false
in_front c xs rest w k lt = ap (λ (b : ℕ). b == c) (get_or_append_left xs (c ∷ rest) 0 k lt) ∙ w k lt

here_is : (c : ℕ) (xs rest : List ℕ) → (get_or (xs ++ c ∷ rest) (length xs) 0 == c) ≡ true
here_is c xs rest = eq-eqb _ c (get_or_at xs c rest 0 (length xs) refl)

place_after : (c : ℕ) (xs rest : List ℕ) → Without c xs → position (λ b. b == c) (xs ++ c ∷ rest) ≡ Some (length xs)
place_after c xs rest w = place_is c (xs ++ c ∷ rest) (length xs) (omega (arith, length-append xs (c ∷ rest))) (in_front c xs rest w) (here_is c xs rest)

drop_past : (c : ℕ) (xs rest : List ℕ) → drop (length xs + 1) (xs ++ c ∷ rest) ≡ rest
drop_past c xs rest = ap (drop (length xs + 1)) (sym (append_assoc xs (c ∷ []) rest)) ∙ drop_at (xs ++ c ∷ []) rest (length xs + 1) (length_push xs c)

pub cut_again : (c : ℕ) (f rest : List ℕ) → Without c f → cut_at (f ++ c ∷ rest) (position (λ b. b == c) (f ++ c ∷ rest)) ≡ Some (f, rest)
cut_again c f rest w =
    ap (λ (o : Option ℕ). cut_at (f ++ c ∷ rest) o) (place_after c f rest w)
    ∙ rw (take_at f (c ∷ rest) (length f) refl, drop_past c f rest) refl

pub field_again : (f rest : List ℕ) → Without 32 f → field_at (f ++ 32 ∷ rest) ≡ Some (f, rest)
unfolding field_at
field_again f rest w = cut_again 32 f rest w

pub after_again : (word rest : List ℕ) → after word (word ++ rest) ≡ Some rest
after_again word rest = rw (take_at word rest (length word) refl, bytes_same word, drop_at word rest (length word) refl) refl

-- ---- modes

octal_bounds : (b : ℕ) → is_octal_digit b ≡ true → (48 ≤ b) × (b ≤ 55)
octal_bounds b e = let p = both (leb 48 b) (leb b 55) e in (leb-true 48 b p.0, leb-true b 55 p.1)

-- what four octal digits write, written again
octal_form : (text : List ℕ) → is_octal_text text ≡ true → (text ≡ octal_text (octal_value text)) × (octal_value text ≤ 4095)
octal_form [] e = absurd cc
octal_form (a ∷ []) e = absurd cc
octal_form (a ∷ b ∷ []) e = absurd cc
octal_form (a ∷ b ∷ c ∷ []) e = absurd cc
octal_form (a ∷ b ∷ c ∷ d ∷ []) e =
    let p = both (is_octal_digit a) (is_octal_digit b && (is_octal_digit c && (is_octal_digit d && true))) e in
    let q = both (is_octal_digit b) (is_octal_digit c && (is_octal_digit d && true)) p.1 in
    let r = both (is_octal_digit c) (is_octal_digit d && true) q.1 in
    let s = both (is_octal_digit d) true r.1 in
    written a b c d (octal_bounds a p.0) (octal_bounds b q.0) (octal_bounds c r.0) (octal_bounds d s.0)
  where
    written : (a b c d : ℕ) → (48 ≤ a) × (a ≤ 55) → (48 ≤ b) × (b ≤ 55) → (48 ≤ c) × (c ≤ 55) → (48 ≤ d) × (d ≤ 55)
        → (a ∷ b ∷ c ∷ d ∷ [] ≡ octal_text (octal_value (a ∷ b ∷ c ∷ d ∷ []))) × (octal_value (a ∷ b ∷ c ∷ d ∷ []) ≤ 4095)
    written a b c d ah bh ch dh =
        let n = octal_value (a ∷ b ∷ c ∷ d ∷ []) in
        let ea : 48 + n / 512 % 8 ≡ a = omega (arith, ah.0, ah.1, bh.1, ch.1, dh.1) in
        let eb : 48 + n / 64 % 8 ≡ b = omega (arith, ah.1, bh.0, bh.1, ch.1, dh.1) in
        let ec : 48 + n / 8 % 8 ≡ c = omega (arith, ah.1, bh.1, ch.0, ch.1, dh.1) in
        let ed : 48 + n % 8 ≡ d = omega (arith, ah.1, bh.1, ch.1, dh.0, dh.1) in
        (sym (rw (ea, eb, ec, ed) refl), omega (arith, ah.1, bh.1, ch.1, dh.1))
octal_form (a ∷ b ∷ c ∷ d ∷ f ∷ text) e =
    let p = both (length (a ∷ b ∷ c ∷ d ∷ f ∷ text) == 4) (list_all is_octal_digit (a ∷ b ∷ c ∷ d ∷ f ∷ text)) e in
    absurd (omega (arith, eqb-true (length (a ∷ b ∷ c ∷ d ∷ f ∷ text)) 4 p.0))

pub mode_takes : (text : List ℕ) (n : ℕ) → mode_of text ≡ Some n → (text ≡ octal_text n) × (n ≤ 4095)
unfolding mode_of
mode_takes text n e =
    let t = then_some (is_octal_text text) (octal_value text) n e in
    subst (λ (k : ℕ). (text ≡ octal_text k) × (k ≤ 4095)) t.1 (octal_form text t.0)

octal_ok : (x : ℕ) → x ≤ 7 → is_octal_digit (48 + x) ≡ true
octal_ok x le = rw (le-leb 48 (48 + x) (omega arith), le-leb (48 + x) 55 (omega arith)) refl

pub mode_again : (n : ℕ) → n ≤ 4095 → mode_of (octal_text n) ≡ Some n
unfolding mode_of
mode_again n le =
    let a = octal_ok (n / 512 % 8) (omega arith) in
    let b = octal_ok (n / 64 % 8) (omega arith) in
    let c = octal_ok (n / 8 % 8) (omega arith) in
    let d = octal_ok (n % 8) (omega arith) in
    let digits : is_octal_text (octal_text n) ≡ true = rw (a, b, c, d) refl in
    let value : octal_value (octal_text n) ≡ n = omega arith in
    rw (digits, value) refl

-- ---- sizes

record IsDecimalText (text : List ℕ) : Type 0 where
  some : 0 < length text
  short : length text ≤ 19
  digits : AreDigits text

decimal_text : (text : List ℕ) → is_decimal text ≡ true → IsDecimalText text
decimal_text [] e = absurd cc
decimal_text (d ∷ ds) e = record { some = omega arith; short = grind arith; digits = grind arith }

one_digit : (empty zero_first : Bool) (ds : List ℕ) → (length ds == 0) ≡ empty → zero_first ≡ true → (empty || not zero_first) ≡ true → suc (length ds) ≡ 1
one_digit true z ds e f h = let len : length ds ≡ 0 = eqb-true (length ds) 0 e in omega arith
one_digit false true ds e f h = absurd cc
one_digit false false ds e f h = absurd cc

no_zero : (text : List ℕ) → is_decimal text ≡ true → get_or text 0 0 ≡ 48 → length text ≡ 1
no_zero [] e z = absurd cc
no_zero (d ∷ ds) e z =
    let p = both (leb (length ds) 18) (list_all is_digit (d ∷ ds) && (length ds == 0 || not (d == 48))) e in
    let q = both (list_all is_digit (d ∷ ds)) (length ds == 0 || not (d == 48)) p.1 in
    one_digit (length ds == 0) (d == 48) ds refl (ap (λ (b : ℕ). b == 48) z) q.1

pub size_takes : (text : List ℕ) (n : ℕ) → size_of text ≡ Some n → text ≡ decimal n
unfolding size_of
size_takes text n e =
    let b = then_some (is_decimal text) (decimal_value text) n e in
    let t = decimal_text text b.0 in
    let small : decimal_value text < 2 ^ 64 = omega (arith, digits_value_short own text 19 t.digits t.short) in
    sym (ap decimal (sym b.1) ∙ decimal-digits_value own text t.digits t.some (no_zero text b.0) small)

not_empty : (ds : List ℕ) → (length ds == 0) ≡ false → suc (length ds) ≡ 1 → ⊥
not_empty [] e h = cc
not_empty (d ∷ ds) e h = omega arith

no_lead : (empty zero_digit : Bool) (d : ℕ) (ds : List ℕ) → (length ds == 0) ≡ empty → (d == 48) ≡ zero_digit → (d ≡ 48 → suc (length ds) ≡ 1) → (empty || not zero_digit) ≡ true
no_lead true z d ds e f h = refl
no_lead false true d ds e f h = absurd (not_empty ds e (h (eqb-true d 48 f)))
no_lead false false d ds e f h = refl

-- a text of digits is a number, where it is short and has no 0 before another digit
decimal_is : (text : List ℕ) → list_all is_digit text ≡ true → 0 < length text → length text ≤ 19 → (get_or text 0 0 ≡ 48 → length text ≡ 1) → is_decimal text ≡ true
decimal_is [] all some short zero_first = absurd (omega arith)
decimal_is (d ∷ ds) all some short zero_first =
    rw (le-leb (length ds) 18 (omega arith), all) (no_lead (length ds == 0) (d == 48) d ds refl refl zero_first)

above_zero : (n : ℕ) → (n == 0) ≡ false → 0 < n
above_zero zero e = absurd cc
above_zero (suc n) e = omega arith

first_by : (n : ℕ) → n < 2 ^ 64 → (zero : Bool) → (n == 0) ≡ zero → get_or (decimal n) 0 0 ≡ 48 → length (decimal n) ≡ 1
first_by n small true e h = ap (λ (k : ℕ). length (decimal k)) (eqb-true n 0 e) ∙ ap length (decimal_digit 0 (omega arith))
first_by n small false e h = absurd (omega (arith, first_decimal n (above_zero n e) small))

pub size_again : (n : ℕ) → n ≤ 16777216 → size_of (decimal n) ≡ Some n
unfolding size_of
size_again n le =
    let small : n < 2 ^ 64 = omega arith in
    let is : is_decimal (decimal n) ≡ true = decimal_is (decimal n) (digits_decimal own n small) (decimal_nonempty n small) (length-decimal-le 19 n (omega arith) (omega arith) small) (first_by n small (n == 0) refl) in
    rw (is, digits_value-decimal own n small) refl

-- ---- fields without a space

pub differs : (same : Bool) (b c : ℕ) → (b == c) ≡ same → c < b → same ≡ false
differs true b c e lt = absurd (omega (arith, eqb-true b c e))
differs false b c e lt = refl

digit_is_not : (c : ℕ) → c < 48 → (b : ℕ) → is_digit b ≡ true → (b == c) ≡ false
digit_is_not c lt b e = differs (b == c) b c refl (omega (arith, leb-true 48 b (both (leb 48 b) (leb b 57) e).0))

digit_ok : (x : ℕ) → x ≤ 9 → is_digit (48 + x) ≡ true
digit_ok x le = rw (le-leb 48 (48 + x) (omega arith), le-leb (48 + x) 57 (omega arith)) refl

pub mode_without : (n : ℕ) → Without 32 (octal_text n)
mode_without n =
    let a = digit_ok (n / 512 % 8) (omega arith) in
    let b = digit_ok (n / 64 % 8) (omega arith) in
    let c = digit_ok (n / 8 % 8) (omega arith) in
    let d = digit_ok (n % 8) (omega arith) in
    let all : list_all is_digit (octal_text n) ≡ true = rw (a, b, c, d) refl in
    without_all 32 is_digit (digit_is_not 32 (omega arith)) (octal_text n) all

pub size_without : (n : ℕ) → n ≤ 16777216 → Without 32 (decimal n)
size_without n le = without_all 32 is_digit (digit_is_not 32 (omega arith)) (decimal n) (digits_decimal own n (omega arith))

-- a byte of a word is none of those
word_differs : (c b : ℕ) → is_word_byte c ≡ false → is_word_byte b ≡ true → (same : Bool) → (b == c) ≡ same → same ≡ false
word_differs c b not is true e = absurd (let k : b ≡ c = eqb-true b c e in let no : true ≡ false = sym is ∙ ap is_word_byte k ∙ not in cc)
word_differs c b not is false e = refl

pub word_without : (c : ℕ) → is_word_byte c ≡ false → (word : List ℕ) → is_word word ≡ true → Without c word
word_without c not [] e = absurd cc
word_without c not (b ∷ bs) e =
    let a = both (is_ascii_alphanumeric b) (list_all is_word_byte bs) e in
    without_all c is_word_byte (λ x h. word_differs c x not h (x == c) refl) (b ∷ bs) (rw (letter_is b a.0, a.1) refl)

abbrev name_byte : ℕ → Bool
name_byte b = is_word_byte b || b == 58

name_is_not : (b : ℕ) → name_byte b ≡ true → (same : Bool) → (b == 32) ≡ same → same ≡ false
name_is_not b is true e = absurd (let k : b ≡ 32 = eqb-true b 32 e in let no : true ≡ false = sym is ∙ ap name_byte k in cc)
name_is_not b is false e = refl

name_bytes : (bs : List ℕ) → list_all is_word_byte bs ≡ true → list_all name_byte bs ≡ true
name_bytes [] e = refl
name_bytes (b ∷ bs) e =
    let a = both (is_word_byte b) (list_all is_word_byte bs) e in
    rw (or_left (is_word_byte b) (b == 58) a.0) (name_bytes bs a.1)

word_bytes : (word : List ℕ) → is_word word ≡ true → list_all name_byte word ≡ true
word_bytes [] e = absurd cc
word_bytes (b ∷ bs) e =
    let a = both (is_ascii_alphanumeric b) (list_all is_word_byte bs) e in
    rw (or_left (is_word_byte b) (b == 58) (letter_is b a.0)) (name_bytes bs a.1)

words_bytes : (name : List ℕ) (o : Option ℕ) → position is_colon name ≡ o → has_words name o ≡ true → list_all name_byte name ≡ true
words_bytes name None is e = word_bytes name e
words_bytes name (Some i) is e =
    let w = position-Some is_colon name i 0 is in
    let a = both (is_word (take i name)) (is_word (drop (i + 1) name) && not (begins_as_group name)) e in
    let b = both (is_word (drop (i + 1) name)) (not (begins_as_group name)) a.1 in
    let parts : name ≡ take i name ++ 58 ∷ drop (i + 1) name = cut_takes 58 name i w.0 w.1 in
    let seen : list_all name_byte (take i name ++ 58 ∷ drop (i + 1) name) ≡ true = list_all-append name_byte (take i name) (58 ∷ drop (i + 1) name) ∙ rw (word_bytes (take i name) a.0, word_bytes (drop (i + 1) name) b.0) refl in
    ap (list_all name_byte) parts ∙ seen

pub name_without : (name : List ℕ) → is_name name ≡ true → Without 32 name
name_without name e =
    let a = both (leb (length name) 255) (has_words name (colon_place name)) e in
    without_all 32 name_byte (λ b h. name_is_not b h (b == 32) refl) name (words_bytes name (colon_place name) refl a.1)
