-- Lines of entries are short, and no line feed is in them.
use Rattle.std.proofs.Common.{◌≡◌, ℕ, ◌+◌, ◌/◌, ◌%◌, ◌≤◌, Bool, true, false, not, ◌&&◌, ◌||◌, ◌==◌, List, [], ◌∷◌, ◌++◌, length, refl, sym, ap, subst, ◌∙◌, arith, codes, length-append}
use Rattle.std.specs.Prelude.{nat_le}
use Rattle.std.specs.Char.{is_ascii_alphanumeric}
use Rattle.std.specs.Fmt.{decimal}
use Rattle.std.specs.List.{list_all, slice_split, join_with_byte}
use Rattle.std.specs.Str.{is_utf8}
use Rattle.std.proofs.lemmas.Bool.{eqb-true, le-leb, leb-true}
use Rattle.std.proofs.lemmas.Fmt.{digits_decimal, length-decimal-le}
use Rattle.std.proofs.lemmas.List.Folds.{list_all-append}
use Rattle.std.proofs.lemmas.List.Splits.{join_with_byte-slice_split}
use Rattle.tree_disk.specs.cny-base.Name.{is_word_byte, is_word}
use Rattle.tree_disk.specs.cny-base.Number.{octal_text, is_digit}
use Rattle.tree_disk.specs.cny-base.Path.{is_slash, is_plain, is_dots, has_part_form, is_part, are_parts, is_path}
use Rattle.tree_disk.specs.cny-base.Target.{is_shown, has_target_form, is_target}
use Rattle.tree_disk.specs.cny-base.declared.limits.TheConstants.{CONTENT_LIMIT}
use Rattle.tree_disk.proofs.cny-base.Bools.{both as both_true}
use Rattle.tree_disk.proofs.cny-base.Doubling.{both}
use Rattle.tree_disk.proofs.cny-base.Joins.{slash_is, not_zero}
use Rattle.tree_disk.proofs.cny-base.Numbers.{own}
use Rattle.tree_disk.proofs.cny-base.Parent.{after_slash}
use Rattle.tree_disk.proofs.Children.{path_short}
use Rattle.manifest_troves.specs.cny-stream.Owner.{OwnerNames, is_owner_word, is_owner}
use Rattle.manifest_troves.specs.cny-stream.declared.record.Flags.{Flags}
use Rattle.cny_manifest.specs.Grammar.{IsLine}
use Rattle.cny_manifest.specs.Spelling.{owner_words, word_if, flag_words, dir_line, file_line, link_line, target_line}
use Rattle.cny_manifest.proofs.Leading.{no_feed, plain_line}

-- ---- bytes without a line feed

abbrev Calm : List ℕ → Type 0
Calm bytes = list_all no_feed bytes ≡ true

calm_on : (a b : List ℕ) → Calm a → Calm b → Calm (a ++ b)
calm_on a b first next = list_all-append no_feed a b ∙ both_true (list_all no_feed a) (list_all no_feed b) first next

not_feed : (test : ℕ → Bool) → test 10 ≡ false → (b : ℕ) → test b ≡ true → no_feed b ≡ true
not_feed test feed b is = at (b == 10) refl
  where
    at : (s : Bool) → (b == 10) ≡ s → not s ≡ true
    at true e = absurd (let no : true ≡ false = sym is ∙ ap test (eqb-true b 10 e) ∙ feed in cc)
    at false e = refl

-- a test that a line feed doesn't pass
all_calm : (test : ℕ → Bool) → test 10 ≡ false → (xs : List ℕ) → list_all test xs ≡ true → Calm xs
all_calm test feed [] all = refl
all_calm test feed (x ∷ xs) all =
    let p = both (test x) (list_all test xs) all in
    both_true (no_feed x) (list_all no_feed xs) (not_feed test feed x p.0) (all_calm test feed xs p.1)

-- ---- paths and targets

part_calm : (part : List ℕ) → is_part part ≡ true → Calm part
part_calm part is =
    let form = both (has_part_form part) (is_utf8 part) is in
    let more = both (nat_le 1 (length part)) (nat_le (length part) 255 && (list_all is_plain part && not (is_dots part))) form.0 in
    let last = both (nat_le (length part) 255) (list_all is_plain part && not (is_dots part)) more.1 in
    all_calm is_plain refl part (both (list_all is_plain part) (not (is_dots part)) last.1).0

joined_calm : (parts : List (List ℕ)) → list_all is_part parts ≡ true → Calm (join_with_byte 47 parts)
joined_calm [] all = refl
joined_calm (x ∷ []) all = part_calm x (both (is_part x) true all).0
joined_calm (x ∷ y ∷ parts) all =
    let p = both (is_part x) (list_all is_part (y ∷ parts)) all in
    calm_on x (47 ∷ join_with_byte 47 (y ∷ parts)) (part_calm x p.0) (joined_calm (y ∷ parts) p.1)

after_calm : (bytes : List ℕ) → (length bytes == 0 || (nat_le (length bytes) 1023 && are_parts bytes)) ≡ true → Calm bytes
after_calm [] is = refl
after_calm (b ∷ bs) is =
    let after = after_slash true (length (b ∷ bs) == 0) (nat_le (length (b ∷ bs)) 1023) (are_parts (b ∷ bs)) (not_zero (length bs)) is in
    subst Calm (join_with_byte-slice_split 47 (b ∷ bs)) (joined_calm (slice_split is_slash (b ∷ bs)) after.1)

path_calm : (path : List ℕ) → is_path path ≡ true → Calm path
path_calm [] is = refl
path_calm (b ∷ bs) is =
    let p = both (b == 47) (length bs == 0 || (nat_le (length bs) 1023 && are_parts bs)) is in
    both_true (no_feed b) (list_all no_feed bs) (ap no_feed (slash_is b p.0)) (after_calm bs p.1)

target_calm : (target : List ℕ) → is_target target ≡ true → (Calm target) × (length target ≤ 1024)
target_calm target is =
    let form = both (has_target_form target) (is_utf8 target) is in
    let more = both (nat_le 1 (length target)) (nat_le (length target) 1024 && list_all is_shown target) form.0 in
    let last = both (nat_le (length target) 1024) (list_all is_shown target) more.1 in
    (all_calm is_shown refl target last.1, leb-true (length target) 1024 last.0)

-- ---- modes, sizes, owners and flags

digit_ok : (x : ℕ) → x ≤ 9 → is_digit (48 + x) ≡ true
digit_ok x le = rw (le-leb 48 (48 + x) (omega arith), le-leb (48 + x) 57 (omega arith)) refl

octal_calm : (mode : ℕ) → Calm (octal_text mode)
octal_calm mode =
    let a = digit_ok (mode / 512 % 8) (omega arith) in
    let b = digit_ok (mode / 64 % 8) (omega arith) in
    let c = digit_ok (mode / 8 % 8) (omega arith) in
    let d = digit_ok (mode % 8) (omega arith) in
    let all : list_all is_digit (octal_text mode) ≡ true = rw (a, b, c, d) refl in
    all_calm is_digit refl (octal_text mode) all

decimal_calm : (size : ℕ) → size ≤ CONTENT_LIMIT → (Calm (decimal size)) × (length (decimal size) ≤ 8)
decimal_calm size small = (all_calm is_digit refl (decimal size) (digits_decimal own size (omega arith)), length-decimal-le 8 size (omega arith) (omega arith) (omega arith))

word_calm : (word : List ℕ) → is_word word ≡ true → Calm word
word_calm [] is = absurd (cc is)
word_calm (b ∷ bs) is =
    let p = both (is_ascii_alphanumeric b) (list_all is_word_byte bs) is in
    both_true (no_feed b) (list_all no_feed bs) (not_feed is_ascii_alphanumeric refl b p.0) (all_calm is_word_byte refl bs p.1)

owner_word : (word : List ℕ) → is_owner_word word ≡ true → (Calm word) × (length word ≤ 32)
owner_word word is =
    let p = both (nat_le (length word) 32) (is_word word) is in
    (word_calm word p.1, leb-true (length word) 32 p.0)

owner_calm : (owner : OwnerNames) → is_owner owner ≡ true → (Calm (owner_words true owner)) × (length (owner_words true owner) ≤ 66)
owner_calm owner is =
    let p = both (is_owner_word owner.user) (is_owner_word owner.group) is in
    let user = owner_word owner.user p.0 in
    let group = owner_word owner.group p.1 in (
      calm_on owner.user (58 ∷ (owner.group ++ 32 ∷ [])) user.0 (calm_on (58 ∷ []) (owner.group ++ 32 ∷ []) refl (calm_on owner.group (32 ∷ []) group.0 refl)),
      omega (arith, length-append owner.user (58 ∷ (owner.group ++ 32 ∷ [])), length-append owner.group (32 ∷ []), user.1, group.1),
    )

if_calm : (set : Bool) (word : List ℕ) → Calm word → (Calm (word_if set word)) × (length (word_if set word) ≤ length word)
if_calm true word calm = (calm, omega arith)
if_calm false word calm = (refl, omega arith)

flags_calm : (flags : Flags) → (Calm (flag_words flags)) × (length (flag_words flags) ≤ 25)
flags_calm flags =
    let a = if_calm flags.config (codes "config ") refl in
    let b = if_calm flags.initial (codes "initial ") refl in
    let c = if_calm flags.transient (codes "transient ") refl in
    let one : List ℕ = word_if flags.config (codes "config ") in
    let two : List ℕ = word_if flags.initial (codes "initial ") in
    let three : List ℕ = word_if flags.transient (codes "transient ") in
    (calm_on one (two ++ three) a.0 (calm_on two three b.0 c.0), omega (arith, length-append one (two ++ three), length-append two three, a.1, b.1, c.1))

-- ---- lines

pub dir_fits : (path : List ℕ) (mode : ℕ) (owner : OwnerNames) → is_path path ≡ true → is_owner owner ≡ true → IsLine (dir_line true path mode owner)
dir_fits path mode owner is valid =
    let o = owner_calm owner valid in
    let words : List ℕ = owner_words true owner in
    plain_line (dir_line true path mode owner) (omega (arith, length-append words path, path_short path is, o.1))
    (calm_on (codes "dir ") (octal_text mode ++ 32 ∷ (words ++ path)) refl
    (calm_on (octal_text mode) (32 ∷ (words ++ path)) (octal_calm mode) (calm_on (32 ∷ []) (words ++ path) refl (calm_on words path o.0 (path_calm path is)))))

pub file_fits : (path : List ℕ) (mode size : ℕ) (owner : OwnerNames) (flags : Flags) → is_path path ≡ true → is_owner owner ≡ true → size ≤ CONTENT_LIMIT → IsLine (file_line true path mode owner flags size)
file_fits path mode size owner flags is valid small =
    let o = owner_calm owner valid in
    let f = flags_calm flags in
    let d = decimal_calm size small in
    let words : List ℕ = owner_words true owner in
    let last : List ℕ = flag_words flags ++ path in
    plain_line (file_line true path mode owner flags size)
    (omega (arith, length-append (decimal size) (32 ∷ (words ++ last)), length-append words last, length-append (flag_words flags) path, path_short path is, o.1, f.1, d.1))
    (calm_on (codes "file ") (octal_text mode ++ 32 ∷ (decimal size ++ 32 ∷ (words ++ last))) refl
    (calm_on (octal_text mode) (32 ∷ (decimal size ++ 32 ∷ (words ++ last))) (octal_calm mode)
    (calm_on (32 ∷ []) (decimal size ++ 32 ∷ (words ++ last)) refl
    (calm_on (decimal size) (32 ∷ (words ++ last)) d.0 (calm_on (32 ∷ []) (words ++ last) refl (calm_on words last o.0 (calm_on (flag_words flags) path f.0 (path_calm path is))))))))

pub link_fits : (path : List ℕ) → is_path path ≡ true → IsLine (link_line path)
link_fits path is = plain_line (link_line path) (omega (arith, path_short path is)) (calm_on (codes "link ") path refl (path_calm path is))

pub target_fits : (target : List ℕ) → is_target target ≡ true → IsLine (target_line target)
target_fits target is =
    let t = target_calm target is in
    plain_line (target_line target) (omega (arith, t.1)) (calm_on (codes "target ") target refl t.0)
