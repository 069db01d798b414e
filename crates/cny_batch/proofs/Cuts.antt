-- Lines and inputs, cut from the front of some bytes and put there again.
use Rattle.std.proofs.Common.{◌≡◌, ℕ, ◌+◌, ◌-◌, ◌<◌, ◌≤◌, Bool, true, false, cond, nat_lt, nat_le, List, [], ◌∷◌, ◌++◌, length, get_or, take, drop, Option, Some, None, Result, Ok, Err, is_some, refl, sym, ap, ◌∙◌, subst, arith, append_assoc, eq-eqb, length-append}
use Rattle.std.specs.List.{position, position_or_len}
use Rattle.std.proofs.lemmas.Bool.{eqb-true, lt-ltb, le-ltb, lt-leb, leb-false}
use Rattle.std.proofs.lemmas.List.{take_at, drop_at, get_or_at, get_or_append_left, get_or-take, length-take, length_push, take-append-drop, take_rest, drop_more}
use Rattle.std.proofs.lemmas.List.Quantifiers.{position-Some}
use Rattle.std.proofs.lemmas.List.Sums.{position_or_len_is}
use Rattle.cny_batch.specs.declared.limits.TheConstants.{LINE_ROOM}
use Rattle.cny_batch.specs.Batch.{is_feed, with_feed}
use Rattle.cny_batch.specs.FirstFault.{has_feed}
use Rattle.cny_batch.specs.Reading.{text_by, text_at, input_at}

-- ---- a result's value

pub ok_is : {A : Type 0} (x y : A) → ◌≡◌ {A = Result A ℕ} (Ok x) (Ok y) → x ≡ y
ok_is x y e = cc

pub no_ok : {A X : Type 0} (left : ℕ) (x : A) → ◌≡◌ {A = Result A ℕ} (Err left) (Ok x) → X
no_ok left x e = absurd cc

pub err_is : {A : Type 0} (m n : ℕ) → ◌≡◌ {A = Result A ℕ} (Err m) (Err n) → m ≡ n
err_is m n e = cc

pub no_err : {A X : Type 0} (x : A) (left : ℕ) → ◌≡◌ {A = Result A ℕ} (Ok x) (Err left) → X
no_err x left e = absurd cc

-- ---- put together again

-- no line feed is among the bytes
abbrev pub NoFeed : List ℕ → Type 0
NoFeed text = (k : ℕ) → k < length text → is_feed (get_or text k 0) ≡ false

place_is : (ys : List ℕ) (i : ℕ) → i < length ys → ((k : ℕ) → k < i → is_feed (get_or ys k 0) ≡ false) → is_feed (get_or ys i 0) ≡ true → position is_feed ys ≡ Some i
place_is ys i lt before at =
    let n : position_or_len is_feed ys ≡ i = position_or_len_is is_feed ys i 0 (omega arith) before (λ _. at) in
    rw (n, lt-ltb i (length ys) lt) refl

in_front : (text rest : List ℕ) → NoFeed text → (k : ℕ) → k < length text → is_feed (get_or (text ++ 10 ∷ rest) k 0) ≡ false
in_front text rest none k lt = ap is_feed (get_or_append_left text (10 ∷ rest) 0 k lt) ∙ none k lt

here_is : (text rest : List ℕ) → is_feed (get_or (text ++ 10 ∷ rest) (length text) 0) ≡ true
here_is text rest = eq-eqb _ 10 (get_or_at text 10 rest 0 (length text) refl)

place_in : (room : ℕ) (text rest : List ℕ) → length text < room → NoFeed text → position is_feed (take room (text ++ 10 ∷ rest)) ≡ Some (length text)
place_in room text rest short none =
    place_is (take room (text ++ 10 ∷ rest)) (length text)
    (omega (arith, length-take room (text ++ 10 ∷ rest), length-append text (10 ∷ rest)))
    (λ k less. ap is_feed (get_or-take room (text ++ 10 ∷ rest) k 0 (omega arith)) ∙ in_front text rest none k less)
    (ap is_feed (get_or-take room (text ++ 10 ∷ rest) (length text) 0 short) ∙ here_is text rest)

drop_past : (text rest : List ℕ) → drop (length text + 1) (text ++ 10 ∷ rest) ≡ rest
drop_past text rest = ap (drop (length text + 1)) (sym (append_assoc text (10 ∷ []) rest)) ∙ drop_at (text ++ 10 ∷ []) rest (length text + 1) (length_push text 10)

feed_moves : (text rest : List ℕ) → with_feed text ++ rest ≡ text ++ 10 ∷ rest
feed_moves text rest = append_assoc text (10 ∷ []) rest

pub text_again : (text rest : List ℕ) → length text < LINE_ROOM → NoFeed text → text_at (with_feed text ++ rest) ≡ Ok (text, rest)
unfolding text_at
text_again text rest short none =
    ap text_at (feed_moves text rest) ∙ ap (λ (o : Option ℕ). text_by (text ++ 10 ∷ rest) o) (place_in LINE_ROOM text rest short none)
    ∙ rw (take_at text (10 ∷ rest) (length text) refl, drop_past text rest) refl

pub input_again : (size : ℕ) (input rest : List ℕ) → length input ≡ size → input_at (Some size) (with_feed input ++ rest) ≡ Ok (input, rest)
unfolding input_at
input_again size input rest is =
    let long : nat_le (length (input ++ 10 ∷ rest)) (length input) ≡ false = lt-leb _ _ (omega (arith, length-append input (10 ∷ rest))) in
    rw (sym is, feed_moves input rest, long, here_is input rest, take_at input (10 ∷ rest) (length input) refl, drop_past input rest) refl

-- ---- cut

cut_at : (bytes : List ℕ) (i : ℕ) → i < length bytes → is_feed (get_or bytes i 0) ≡ true → bytes ≡ with_feed (take i bytes) ++ drop (i + 1) bytes
cut_at bytes i lt at =
    let here : get_or bytes i 0 ≡ 10 = eqb-true (get_or bytes i 0) 10 at in
    sym (take-append-drop i bytes) ∙ ap (λ (ys : List ℕ). take i bytes ++ ys) (drop_more bytes i 0 lt ∙ ap (λ (b : ℕ). b ∷ drop (i + 1) bytes) here)
    ∙ sym (feed_moves (take i bytes) (drop (i + 1) bytes))

-- a text without a line feed, cut off at the front, and what is behind it
pub record IsTextCut (room : ℕ) (bytes text behind : List ℕ) : Type 0 where
  pub spelled : bytes ≡ with_feed text ++ behind
  pub short : length text < room
  pub no_feed : NoFeed text

cut_in : (room : ℕ) (bytes : List ℕ) (i : ℕ) → position is_feed (take room bytes) ≡ Some i → IsTextCut room bytes (take i bytes) (drop (i + 1) bytes)
cut_in room bytes i is =
    let found = position-Some is_feed (take room bytes) i 0 is in
    let len = length-take room bytes in
    let short : i < room = omega (arith, found.0, len) in
    let within : i < length bytes = omega (arith, found.0, len) in
    record {
      spelled = cut_at bytes i within (ap is_feed (sym (get_or-take room bytes i 0 short)) ∙ found.1);
      short = omega (arith, length-take i bytes);
      no_feed = λ k lt.
          let less : k < i = omega (arith, lt, length-take i bytes) in
          ap is_feed (get_or-take i bytes k 0 less ∙ sym (get_or-take room bytes k 0 (omega arith))) ∙ found.2 k less;
    }

by_place : (bytes text behind : List ℕ) (o : Option ℕ) → position is_feed (take LINE_ROOM bytes) ≡ o → text_by bytes o ≡ Ok (text, behind) → IsTextCut LINE_ROOM bytes text behind
by_place bytes text behind None is e = none (nat_lt (length bytes) LINE_ROOM) e
  where
    none : {X : Type 0} (b : Bool) → cond {A = Result (List ℕ × List ℕ) ℕ} b (Err 0) (Err (length bytes)) ≡ Ok (text, behind) → X
    none true e' = no_ok 0 (text, behind) e'
    none false e' = no_ok (length bytes) (text, behind) e'
by_place bytes text behind (Some i) is e =
    let p : (take i bytes, drop (i + 1) bytes) ≡ (text, behind) = ok_is _ _ e in
    subst (λ (g : List ℕ × List ℕ). IsTextCut LINE_ROOM bytes g.0 g.1) p (cut_in LINE_ROOM bytes i is)

pub text_cut : (bytes text behind : List ℕ) → text_at bytes ≡ Ok (text, behind) → IsTextCut LINE_ROOM bytes text behind
unfolding text_at
text_cut bytes text behind e = by_place bytes text behind (position is_feed (take LINE_ROOM bytes)) refl e

-- an input, cut off at the front, and what is behind it
pub record IsInputCut (size : ℕ) (bytes input behind : List ℕ) : Type 0 where
  pub spelled : bytes ≡ with_feed input ++ behind
  pub sized : length input ≡ size

input_if : (size : ℕ) (bytes input behind : List ℕ) (a b : Bool) → nat_le (length bytes) size ≡ a → is_feed (get_or bytes size 0) ≡ b
    → cond {A = Result (List ℕ × List ℕ) ℕ} a (Err 0) (cond b (Ok (take size bytes, drop (size + 1) bytes)) (Err (length bytes))) ≡ Ok (input, behind) → IsInputCut size bytes input behind
input_if size bytes input behind true b long at e = no_ok 0 (input, behind) e
input_if size bytes input behind false false long at e = no_ok (length bytes) (input, behind) e
input_if size bytes input behind false true long at e =
    let within : size < length bytes = leb-false _ _ long in
    let p : (take size bytes, drop (size + 1) bytes) ≡ (input, behind) = ok_is _ _ e in
    subst (λ (g : List ℕ × List ℕ). IsInputCut size bytes g.0 g.1) p
    (record { spelled = cut_at bytes size within at; sized = omega (arith, length-take size bytes) })

pub input_cut : (size : ℕ) (bytes input behind : List ℕ) → input_at (Some size) bytes ≡ Ok (input, behind) → IsInputCut size bytes input behind
unfolding input_at
input_cut size bytes input behind e = input_if size bytes input behind (nat_le (length bytes) size) (is_feed (get_or bytes size 0)) refl refl e

-- ---- not to be cut

-- how many bytes are left where no line feed is in room
abbrev pub no_text : List ℕ → ℕ
no_text bytes = cond (nat_lt (length bytes) LINE_ROOM) 0 (length bytes)

pub record IsNoText (bytes : List ℕ) (left : ℕ) : Type 0 where
  pub none : has_feed bytes ≡ false
  pub left_is : left ≡ no_text bytes

no_place : (bytes : List ℕ) (left : ℕ) (o : Option ℕ) → position is_feed (take LINE_ROOM bytes) ≡ o → text_by bytes o ≡ Err left → IsNoText bytes left
no_place bytes left (Some i) is e = no_err (take i bytes, drop (i + 1) bytes) left e
no_place bytes left None is e = record { none = ap is_some is; left_is = which (nat_lt (length bytes) LINE_ROOM) e }
  where
    which : (b : Bool) → ◌≡◌ {A = Result (List ℕ × List ℕ) ℕ} (cond b (Err 0) (Err (length bytes))) (Err left) → left ≡ cond b 0 (length bytes)
    which true e' = sym (err_is 0 left e')
    which false e' = sym (err_is (length bytes) left e')

pub text_fails : (bytes : List ℕ) (left : ℕ) → text_at bytes ≡ Err left → IsNoText bytes left
unfolding text_at
text_fails bytes left e = no_place bytes left (position is_feed (take LINE_ROOM bytes)) refl e

input_else : (size : ℕ) (bytes : List ℕ) (left : ℕ) (a b : Bool) (found : List ℕ × List ℕ)
    → cond {A = Result (List ℕ × List ℕ) ℕ} a (Err 0) (cond b (Ok found) (Err (length bytes))) ≡ Err left → left ≡ cond a 0 (length bytes)
input_else size bytes left true b found e = sym (err_is 0 left e)
input_else size bytes left false true found e = no_err found left e
input_else size bytes left false false found e = sym (err_is (length bytes) left e)

pub input_fails : (size : ℕ) (bytes : List ℕ) (left : ℕ) → input_at (Some size) bytes ≡ Err left → left ≡ cond (nat_le (length bytes) size) 0 (length bytes)
unfolding input_at
input_fails size bytes left e = input_else size bytes left (nat_le (length bytes) size) (is_feed (get_or bytes size 0)) (take size bytes, drop (size + 1) bytes) e

-- a text at the front has its line feed in room
feed_found : (bytes text behind : List ℕ) (o : Option ℕ) → position is_feed (take LINE_ROOM bytes) ≡ o → text_by bytes o ≡ Ok (text, behind) → is_some o ≡ true
feed_found bytes text behind (Some i) is e = refl
feed_found bytes text behind None is e = none (nat_lt (length bytes) LINE_ROOM) e
  where
    none : {X : Type 0} (b : Bool) → cond {A = Result (List ℕ × List ℕ) ℕ} b (Err 0) (Err (length bytes)) ≡ Ok (text, behind) → X
    none true e' = no_ok 0 (text, behind) e'
    none false e' = no_ok (length bytes) (text, behind) e'

pub text_has_feed : (bytes text behind : List ℕ) → text_at bytes ≡ Ok (text, behind) → has_feed bytes ≡ true
unfolding text_at
text_has_feed bytes text behind e = feed_found bytes text behind (position is_feed (take LINE_ROOM bytes)) refl e

-- ---- what the reader finds

pub text_found : (bytes : List ℕ) (o : Option ℕ) (i : ℕ) → o ≡ position is_feed (take LINE_ROOM bytes) → o ≡ Some i
    → text_at bytes ≡ Ok (take i bytes, take (length bytes - (i + 1)) (drop (i + 1) bytes))
unfolding text_at
text_found bytes o i is some =
    ap (text_by bytes) (sym is ∙ some) ∙ ap (λ (l : List ℕ). Ok (take i bytes, l)) (sym (take_rest bytes (i + 1)))

pub short_text : (bytes : List ℕ) (o : Option ℕ) → o ≡ position is_feed (take LINE_ROOM bytes) → o ≡ None → length bytes < LINE_ROOM → text_at bytes ≡ Err 0
unfolding text_at
short_text bytes o is none short =
    ap (text_by bytes) (sym is ∙ none) ∙ ap (λ b. cond {A = Result (List ℕ × List ℕ) ℕ} b (Err 0) (Err (length bytes))) (lt-ltb (length bytes) LINE_ROOM short)

pub long_text : (bytes : List ℕ) (o : Option ℕ) → o ≡ position is_feed (take LINE_ROOM bytes) → o ≡ None → LINE_ROOM ≤ length bytes → text_at bytes ≡ Err (length bytes)
unfolding text_at
long_text bytes o is none long =
    ap (text_by bytes) (sym is ∙ none) ∙ ap (λ b. cond {A = Result (List ℕ × List ℕ) ℕ} b (Err 0) (Err (length bytes))) (le-ltb (length bytes) LINE_ROOM long)
