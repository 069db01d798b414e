-- Words and a size, from the parts of a line.
use Rattle.std.proofs.Common.{◌≡◌, ℕ, ◌+◌, ◌-◌, ◌<◌, Bool, true, false, cond, ◌&&◌, ◌||◌, not, ◌==◌, nat_le, List, [], ◌∷◌, ◌++◌, length, get_or, map, take, drop, Option, Some, None, Err, refl, sym, ap, ◌∙◌, subst, arith, append_assoc}
use Rattle.std.specs.List.{list_all}
use Rattle.std.specs.Str.{IsAscii, is_utf8}
use Rattle.std.proofs.lemmas.Bool.{and_parts, le-leb}
use Rattle.std.proofs.lemmas.Bool.Decides.{nat_tests}
use Rattle.std.proofs.lemmas.List.{take_at, get_or_push, length_push}
use Rattle.std.proofs.lemmas.List.Folds.{list_all-append}
use Rattle.std.proofs.lemmas.Str.{IsUtf8-from_ascii, is_utf8-from_IsUtf8}
use Rattle.std.proofs.lemmas.Str.Ascii.{IsAscii-nil, IsAscii-cons}
use Rattle.cny_base.specs.Number.{is_digit, is_decimal, decimal_value}
use Rattle.cny_base.specs.declared.text.TextFault.{TextFault}
use Rattle.cny_base.specs.declared.text.TextFault.TheVariants as text
use Rattle.cny_batch.specs.Words.{is_shown, is_word, size_of, last_size, without_size, parts_of}
use Rattle.cny_batch.specs.Reading.{command_by, command_of, AreBehind, IsNoWord, ReadsAs}
use Rattle.cny_batch.proofs.Parts.{behind_rest}

-- ---- words are texts

shown_ascii : (b : ℕ) → is_shown b ≡ true → b < 128
shown_ascii b is = grind (arith, nat_tests)

all_ascii : (bytes : List ℕ) → list_all is_shown bytes ≡ true → IsAscii bytes
all_ascii [] all = IsAscii-nil
all_ascii (b ∷ bs) all =
    let both = and_parts (is_shown b) (list_all is_shown bs) all in
    IsAscii-cons b bs (shown_ascii b both.0) (all_ascii bs both.1)

pub word_utf8 : (part : List ℕ) → is_word part ≡ true → is_utf8 part ≡ true
word_utf8 part is =
    is_utf8-from_IsUtf8 part (IsUtf8-from_ascii part (all_ascii part (and_parts (nat_le 1 (length part)) (list_all is_shown part) is).1))

-- ---- a size is a word

digit_shown : (b : ℕ) → is_digit b ≡ true → is_shown b ≡ true
digit_shown b is = grind (arith, nat_tests)

digits_shown : (digits : List ℕ) → list_all is_digit digits ≡ true → list_all is_shown digits ≡ true
digits_shown [] all = refl
digits_shown (b ∷ bs) all =
    let both = and_parts (is_digit b) (list_all is_digit bs) all in
    rw (digit_shown b both.0) (digits_shown bs both.1)

decimal_shown : (digits : List ℕ) → is_decimal digits ≡ true → list_all is_shown digits ≡ true
decimal_shown [] is = absurd (cc is)
decimal_shown (b ∷ bs) is =
    let zeros = length bs == 0 || not (b == 48) in
    let one = and_parts (nat_le (length bs) 18) (list_all is_digit (b ∷ bs) && zeros) is in
    digits_shown (b ∷ bs) (and_parts (list_all is_digit (b ∷ bs)) zeros one.1).0

told : (t : Bool) (n size : ℕ) → cond t (Some n) None ≡ Some size → t ≡ true
told true n size e = refl
told false n size e = absurd cc

less_shown : (b : ℕ) → (b == 60) ≡ true → is_shown b ≡ true
less_shown b is = grind (arith, nat_tests)

size_word : (part : List ℕ) (size : ℕ) → size_of part ≡ Some size → is_word part ≡ true
size_word [] size e = absurd cc
size_word (b ∷ digits) size e =
    let both = and_parts (b == 60) (is_decimal digits) (told (b == 60 && is_decimal digits) (decimal_value digits) size e) in
    let some : nat_le 1 (length (b ∷ digits)) ≡ true = le-leb 1 (length (b ∷ digits)) (omega arith) in
    rw (some, less_shown b both.0) (decimal_shown digits both.1)

-- ---- the last part

pub alone : (part : List ℕ) → last_size (part ∷ []) ≡ None
alone part = refl

pub last_of : (words : List (List ℕ)) (part : List ℕ) → 0 < length words → last_size (words ++ part ∷ []) ≡ size_of part
last_of words part some =
    let parts = words ++ part ∷ [] in
    let long : nat_le 2 (length parts) ≡ true = le-leb 2 (length parts) (omega (arith, length_push words part)) in
    let last : get_or parts (length parts - 1) [] ≡ part = get_or_push words part [] (length parts - 1) (omega (arith, length_push words part)) in
    rw long (ap size_of last)

pub some_words : {A : Type 0} (f : A → List ℕ) (items : List A) (words : List (List ℕ)) → map f items ≡ words → (length items == 0) ≡ false → 0 < length words
some_words f [] words are some = absurd (cc some)
some_words {A} f (x ∷ xs) words are some = subst (λ (l : List (List ℕ)). 0 < length l) are (omega arith)

-- ---- the command

all_words : (words : List (List ℕ)) (part : List ℕ) → list_all is_word words ≡ true → is_word part ≡ true → list_all is_word (words ++ part ∷ []) ≡ true
all_words words part all is = list_all-append is_word words (part ∷ []) ∙ rw (all, is) refl

fronts : (words : List (List ℕ)) (part : List ℕ) → take (length (words ++ part ∷ []) - 1) (words ++ part ∷ []) ≡ words
fronts words part = take_at words (part ∷ []) (length (words ++ part ∷ []) - 1) (omega (arith, length_push words part))

command_if : (parts words : List (List ℕ)) (size : Option ℕ) → list_all is_word parts ≡ true → last_size parts ≡ size → without_size size parts ≡ words
    → command_by parts ≡ Some (record { words = words; size = size })
command_if parts words size all last front =
    ap (λ b. cond b (Some (record { words = without_size (last_size parts) parts; size = last_size parts })) None) all
    ∙ ap (λ (o : Option ℕ). Some (record { words = without_size o parts; size = o })) last
    ∙ ap (λ (w : List (List ℕ)). Some (record { words = w; size = size })) front

told_last : (words : List (List ℕ)) (part : List ℕ) (size : ℕ) → last_size (words ++ part ∷ []) ≡ Some size → size_of part ≡ Some size
told_last [] part size e = absurd (cc (alone part, e))
told_last (w ∷ ws) part size e = sym (last_of (w ∷ ws) part (omega arith)) ∙ e

pub sized : (words : List (List ℕ)) (part : List ℕ) (size : ℕ) → list_all is_word words ≡ true → last_size (words ++ part ∷ []) ≡ Some size
    → command_by (words ++ part ∷ []) ≡ Some (record { words = words; size = Some size })
sized words part size all last =
    command_if (words ++ part ∷ []) words (Some size) (all_words words part all (size_word part size (told_last words part size last))) last (fronts words part)

pub unsized : (words : List (List ℕ)) (part : List ℕ) (all_parts : List (List ℕ)) → list_all is_word words ≡ true → last_size (words ++ part ∷ []) ≡ None → is_word part ≡ true
    → all_parts ≡ words ++ part ∷ [] → command_by (words ++ part ∷ []) ≡ Some (record { words = all_parts; size = None })
unsized words part all_parts all last is added =
    command_if (words ++ part ∷ []) all_parts None (all_words words part all is) last (sym added)

and_none : (a b : Bool) → (a && (false && b)) ≡ false
and_none true b = refl
and_none false b = refl

not_all : (words more : List (List ℕ)) (part : List ℕ) → is_word part ≡ false → list_all is_word (words ++ part ∷ more) ≡ false
not_all words more part bad =
    list_all-append is_word words (part ∷ more)
    ∙ ap (λ b. list_all is_word words && (b && list_all is_word more)) bad
    ∙ and_none (list_all is_word words) (list_all is_word more)

pub no_command : (words more : List (List ℕ)) (part : List ℕ) → is_word part ≡ false → command_by (words ++ part ∷ more) ≡ None
no_command words more part bad = rw (not_all words more part bad) refl

-- ---- the parts so far

pub record HasRead (line : List ℕ) (words : List (List ℕ)) (rest : List ℕ) (behind : ℕ) : Type 0 where
  pub parts : parts_of line ≡ words ++ parts_of rest
  pub valid : list_all is_word words ≡ true
  pub closes : AreBehind behind rest

pub none_so_far : {A : Type 0} (f : A → List ℕ) (line : List ℕ) (items : List A) (words : List (List ℕ)) (behind : ℕ) → words ≡ map f items → items ≡ [] → AreBehind behind line
    → HasRead line words line behind
none_so_far f line items words behind are none closes =
    let no_words : words ≡ [] = are ∙ ap (map f) none in
    record {
      parts = ap (λ (l : List (List ℕ)). l ++ parts_of line) (sym no_words);
      valid = ap (list_all is_word) no_words;
      closes = closes;
    }

pub read_one : (line rest : List ℕ) (words more : List (List ℕ)) (behind at : ℕ) → HasRead line words rest behind → at < length rest
    → parts_of rest ≡ take at rest ∷ parts_of (drop (at + 1) rest) → is_word (take at rest) ≡ true → more ≡ words ++ take at rest ∷ []
    → HasRead line more (drop (at + 1) rest) behind
read_one line rest words more behind at so_far lt first is added = record {
  parts = so_far.parts ∙ ap (λ (l : List (List ℕ)). words ++ l) first ∙ sym (append_assoc words (take at rest ∷ []) (parts_of (drop (at + 1) rest)))
      ∙ ap (λ (l : List (List ℕ)). l ++ parts_of (drop (at + 1) rest)) (sym added);
  valid = ap (list_all is_word) added ∙ all_words words (take at rest) so_far.valid is;
  closes = behind_rest behind rest (at + 1) (omega arith) so_far.closes;
}

pub read_none : (line rest : List ℕ) (words : List (List ℕ)) (behind at : ℕ) → HasRead line words rest behind
    → parts_of rest ≡ take at rest ∷ parts_of (drop (at + 1) rest) → is_word (take at rest) ≡ false → command_of line ≡ None
unfolding command_of
read_none line rest words behind at so_far first bad =
    ap command_by (so_far.parts ∙ ap (λ (l : List (List ℕ)). words ++ l) first) ∙ no_command words (parts_of (drop (at + 1) rest)) (take at rest) bad

pub read_last : (line rest : List ℕ) (words : List (List ℕ)) (behind : ℕ) → HasRead line words rest behind → parts_of rest ≡ rest ∷ []
    → command_of line ≡ command_by (words ++ rest ∷ [])
unfolding command_of
read_last line rest words behind so_far last = ap command_by (so_far.parts ∙ ap (λ (l : List (List ℕ)). words ++ l) last)

-- ---- why a part isn't added

pub never_bad : (part : List ℕ) (fault : TextFault) → is_word part ≡ true → (fault ≡ text.Bad → is_utf8 part ≡ false) → IsNoWord part fault
never_bad part text.Bad is bad = absurd (cc (word_utf8 part is, bad refl))
never_bad part text.Memory is bad = tt

pub no_last : (words : List (List ℕ)) (part : List ℕ) (fault : TextFault) → IsNoWord part fault → ReadsAs (command_by (words ++ part ∷ [])) (Err fault)
no_last words part text.Bad bad = no_command words [] part bad
no_last words part text.Memory bad = tt

pub no_next : (line rest : List ℕ) (words : List (List ℕ)) (behind at : ℕ) (fault : TextFault) → HasRead line words rest behind
    → parts_of rest ≡ take at rest ∷ parts_of (drop (at + 1) rest) → IsNoWord (take at rest) fault → ReadsAs (command_of line) (Err fault)
no_next line rest words behind at text.Bad so_far first bad = read_none line rest words behind at so_far first bad
no_next line rest words behind at text.Memory so_far first bad = tt
