-- Lines and contents, cut from the front of some bytes and put there again.
use Rattle.std.proofs.Common.{◌≡◌, ℕ, ◌+◌, ◌<◌, ◌≤◌, Bool, true, false, cond, nat_lt, List, [], ◌∷◌, ◌++◌, length, get_or, take, drop, Option, Some, None, Result, Ok, Err, refl, sym, ap, ◌∙◌, subst, arith, append_assoc, eq-eqb, length-append}
use Rattle.std.specs.List.{position, position_or_len}
use Rattle.std.proofs.lemmas.Bool.{eqb-true, lt-ltb, le-ltb, ltb-false}
use Rattle.std.proofs.lemmas.List.{take_at, drop_at, get_or_at, get_or_append_left, get_or-take, length-take, length_push, take-append-drop, drop_more}
use Rattle.std.proofs.lemmas.List.Quantifiers.{position-Some}
use Rattle.std.proofs.lemmas.List.Sums.{position_or_len_is}
use Rattle.cny_manifest.specs.declared.fault.Unread.{Unread}
use Rattle.cny_manifest.specs.declared.fault.Unread.TheVariants.{At}
use Rattle.cny_manifest.specs.Grammar.{IsLine}
use Rattle.cny_manifest.specs.Lines.{is_line_feed, line_room, with_feed, line_by, line_at, content_at}

-- ---- a result's value

pub ok_is : {A : Type 0} (x y : A) → ◌≡◌ {A = Result A Unread} (Ok x) (Ok y) → x ≡ y
ok_is x y e = cc

no_ok : {A X : Type 0} (f : Unread) (x : A) → ◌≡◌ {A = Result A Unread} (Err f) (Ok x) → X
no_ok f x e = absurd cc

-- ---- put together again

in_front : (xs rest : List ℕ) → ((k : ℕ) → k < length xs → is_line_feed (get_or xs k 0) ≡ false) → (k : ℕ) → k < length xs → is_line_feed (get_or (xs ++ 10 ∷ rest) k 0) ≡ false
in_front xs rest w k lt = ap is_line_feed (get_or_append_left xs (10 ∷ rest) 0 k lt) ∙ w k lt

here_is : (xs rest : List ℕ) → is_line_feed (get_or (xs ++ 10 ∷ rest) (length xs) 0) ≡ true
here_is xs rest = eq-eqb _ 10 (get_or_at xs 10 rest 0 (length xs) refl)

place_is : (ys : List ℕ) (i : ℕ) → i < length ys → ((k : ℕ) → k < i → is_line_feed (get_or ys k 0) ≡ false) → is_line_feed (get_or ys i 0) ≡ true → position is_line_feed ys ≡ Some i
place_is ys i lt before at =
    let n : position_or_len is_line_feed ys ≡ i = position_or_len_is is_line_feed ys i 0 (omega arith) before (λ _. at) in
    rw (n, lt-ltb i (length ys) lt) refl

place_in_room : (xs rest : List ℕ) → IsLine xs → position is_line_feed (take line_room (xs ++ 10 ∷ rest)) ≡ Some (length xs)
place_in_room xs rest is =
    let lt : length xs < line_room = is.short in
    place_is (take line_room (xs ++ 10 ∷ rest)) (length xs)
    (omega (arith, lt, length-take line_room (xs ++ 10 ∷ rest), length-append xs (10 ∷ rest)))
    (λ k less. ap is_line_feed (get_or-take line_room (xs ++ 10 ∷ rest) k 0 (omega (arith, lt))) ∙ in_front xs rest is.no_feed k less)
    (ap is_line_feed (get_or-take line_room (xs ++ 10 ∷ rest) (length xs) 0 lt) ∙ here_is xs rest)

drop_past : (xs rest : List ℕ) → drop (length xs + 1) (xs ++ 10 ∷ rest) ≡ rest
drop_past xs rest = ap (drop (length xs + 1)) (sym (append_assoc xs (10 ∷ []) rest)) ∙ drop_at (xs ++ 10 ∷ []) rest (length xs + 1) (length_push xs 10)

pub line_again : (text rest : List ℕ) → IsLine text → line_at (with_feed text ++ rest) ≡ Ok (text, rest)
unfolding line_at
line_again text rest is =
    let e : with_feed text ++ rest ≡ text ++ 10 ∷ rest = append_assoc text (10 ∷ []) rest in
    ap line_at e ∙ ap (λ (o : Option ℕ). line_by (text ++ 10 ∷ rest) o) (place_in_room text rest is)
    ∙ rw (take_at text (10 ∷ rest) (length text) refl, drop_past text rest) refl

pub content_again : (text rest : List ℕ) → content_at (length text) (with_feed text ++ rest) ≡ Ok (text, rest)
unfolding content_at
content_again text rest =
    let e : with_feed text ++ rest ≡ text ++ 10 ∷ rest = append_assoc text (10 ∷ []) rest in
    let long : nat_lt (length (text ++ 10 ∷ rest)) (length text + 1) ≡ false = le-ltb _ _ (omega (arith, length-append text (10 ∷ rest))) in
    rw (e, long, here_is text rest, take_at text (10 ∷ rest) (length text) refl, drop_past text rest) refl

-- ---- cut

cut_takes : (xs : List ℕ) (i : ℕ) → i < length xs → is_line_feed (get_or xs i 0) ≡ true → xs ≡ take i xs ++ 10 ∷ drop (i + 1) xs
cut_takes xs i lt at =
    let here : get_or xs i 0 ≡ 10 = eqb-true (get_or xs i 0) 10 at in
    sym (take-append-drop i xs) ∙ ap (λ (ys : List ℕ). take i xs ++ ys) (drop_more xs i 0 lt ∙ ap (λ (b : ℕ). b ∷ drop (i + 1) xs) here)

-- what is cut off at the front, and what is behind it
pub record IsCut (bytes : List ℕ) (cut : List ℕ × List ℕ) : Type 0 where
  pub spelled : bytes ≡ with_feed cut.0 ++ cut.1
  pub line : IsLine cut.0

no_line : {X : Type 0} (b : Bool) (n : ℕ) (l : List ℕ × List ℕ) → cond b (Err (At 0)) (Err (At n)) ≡ Ok l → X
no_line true n l e = no_ok (At 0) l e
no_line false n l e = no_ok (At n) l e

line_is : (bytes : List ℕ) (o : Option ℕ) (l : List ℕ × List ℕ) → position is_line_feed (take line_room bytes) ≡ o → line_by bytes o ≡ Ok l → IsCut bytes l
line_is bytes None l is e = no_line (nat_lt (length bytes) line_room) (length bytes) l e
line_is bytes (Some i) l is e =
    let w = position-Some is_line_feed (take line_room bytes) i 0 is in
    let len = length-take line_room bytes in
    let short : i < line_room = omega (arith, w.0, len) in
    let within : i < length bytes = omega (arith, w.0, len) in
    let at : is_line_feed (get_or bytes i 0) ≡ true = ap is_line_feed (sym (get_or-take line_room bytes i 0 short)) ∙ w.1 in
    let p : (take i bytes, drop (i + 1) bytes) ≡ l = ok_is _ _ e in
    subst (λ (g : List ℕ × List ℕ). IsCut bytes g) p (record {
      spelled = cut_takes bytes i within at ∙ sym (append_assoc (take i bytes) (10 ∷ []) (drop (i + 1) bytes));
      line = record {
        short = omega (arith, short, length-take i bytes);
        no_feed = λ k lt.
            let less : k < i = omega (arith, lt, length-take i bytes) in
            ap is_line_feed (get_or-take i bytes k 0 less ∙ sym (get_or-take line_room bytes k 0 (omega (arith, less, short)))) ∙ w.2 k less;
      };
    })

pub line_cut : (bytes : List ℕ) (l : List ℕ × List ℕ) → line_at bytes ≡ Ok l → IsCut bytes l
unfolding line_at
line_cut bytes l e = line_is bytes (position is_line_feed (take line_room bytes)) l refl e

content_else : (b : Bool) (f : Unread) (r : Result (List ℕ × List ℕ) Unread) (y : List ℕ × List ℕ) → cond b (Err f) r ≡ Ok y → (b ≡ false) × (r ≡ Ok y)
content_else true f r y e = no_ok f y e
content_else false f r y e = (refl, e)

content_then : (b : Bool) (f : Unread) (x y : List ℕ × List ℕ) → cond b (Ok x) (Err f) ≡ Ok y → (b ≡ true) × (x ≡ y)
content_then true f x y e = (refl, ok_is x y e)
content_then false f x y e = no_ok f y e

pub content_cut : (size : ℕ) (bytes : List ℕ) (c : List ℕ × List ℕ) → content_at size bytes ≡ Ok c → (bytes ≡ with_feed c.0 ++ c.1) × (length c.0 ≡ size)
unfolding content_at
content_cut size bytes c e =
    let a = content_else (nat_lt (length bytes) (size + 1)) (At 0) _ c e in
    let b = content_then (is_line_feed (get_or bytes size 0)) (At (length bytes)) _ c a.1 in
    let long : size < length bytes = omega (arith, ltb-false _ _ a.0) in
    subst (λ (g : List ℕ × List ℕ). (bytes ≡ with_feed g.0 ++ g.1) × (length g.0 ≡ size)) b.1
    (cut_takes bytes size long b.0 ∙ sym (append_assoc (take size bytes) (10 ∷ []) (drop (size + 1) bytes)), omega (arith, length-take size bytes))

-- ---- no line

pub line_is_long : (bytes : List ℕ) → None ≡ position is_line_feed (take line_room bytes) → line_room ≤ length bytes → line_at bytes ≡ Err (At (length bytes))
unfolding line_at
line_is_long bytes e h = rw (sym e, le-ltb (length bytes) line_room h) refl
