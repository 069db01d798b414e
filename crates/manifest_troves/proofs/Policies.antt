-- Paths with a slash behind them, and what they begin and end with.
use Rattle.std.proofs.Common.{◌≡◌, ℕ, ◌≤◌, ◌-◌, Bool, true, false, ◌&&◌, nat_eq, List, [], ◌∷◌, ◌++◌, length, take, drop, refl, sym, ap, ◌∙◌, arith, length-append, codes}
use Rattle.std.specs.Prelude.{◌==◌}
use Rattle.std.specs.Cmp.{first_so, second_so}
use Rattle.std.specs.Cmp.Lexicographic.{pointwise}
use Rattle.std.specs.Str.{bytes_eq}
use Rattle.std.proofs.lemmas.Bool.{true≢false}
use Rattle.std.proofs.lemmas.List.{drop-append-le}
use Rattle.change_set.specs.cny-base.Below.{begins_with}
use Rattle.manifest_troves.specs.Policy.{tested, ends_with, file_ends_with}
use Rattle.change_set.proofs.cny-base.ByteLists.{begins_by, longer_front as longer}
use Rattle.change_set.proofs.cny-base.Bools.{and_false}

-- ---- fronts

and_more : (x y z : Bool) → (y ≡ false → z ≡ false) → (x && y) ≡ false → (x && z) ≡ false
and_more true y z h e = h e
and_more false y z h e = refl

and_true : (x y z : Bool) → x ≡ true → y ≡ z → (x && y) ≡ z
and_true true y z e h = h
and_true false y z e h = absurd (true≢false (sym e))

none_begun : (front : List ℕ) → begins_with (front ++ 47 ∷ []) [] ≡ false
none_begun [] = refl
none_begun (a ∷ front) = refl

longer_both : (front path : List ℕ) → begins_with front path ≡ false → begins_with (front ++ 47 ∷ []) (path ++ 47 ∷ []) ≡ false
longer_both [] path e = absurd (true≢false e)
longer_both (a ∷ front) [] e = and_false (a == 47) (begins_with (front ++ 47 ∷ []) []) (none_begun front)
longer_both (a ∷ front) (b ∷ path) e = and_more (a == b) (begins_with front path) (begins_with (front ++ 47 ∷ []) (path ++ 47 ∷ [])) (longer_both front path) e

-- a path that doesn't begin so isn't in the place
pub not_in : (place path : List ℕ) (dir : Bool) → pointwise nat_eq (take (length place) path) place ≡ false → false ≡ begins_with (place ++ 47 ∷ []) (tested path dir)
not_in place path true e = sym (longer_both place path (sym (begins_by place path) ∙ e))
not_in place path false e = sym (longer place (47 ∷ []) path (sym (begins_by place path) ∙ e))

cut_front : (place path tail : List ℕ) → begins_with place path ≡ true → begins_with (place ++ 47 ∷ []) (path ++ tail) ≡ begins_with (47 ∷ []) (drop (length place) path ++ tail)
cut_front [] path tail e = refl
cut_front (a ∷ place) [] tail e = absurd (true≢false (sym e))
cut_front (a ∷ place) (b ∷ path) tail e =
    and_true (a == b) (begins_with (place ++ 47 ∷ []) (path ++ tail)) (begins_with (47 ∷ []) (drop (length place) path ++ tail))
    (first_so (a == b) (begins_with place path) e) (cut_front place path tail (second_so (a == b) (begins_with place path) e))

cut_alone : (place path : List ℕ) → begins_with place path ≡ true → begins_with (place ++ 47 ∷ []) path ≡ begins_with (47 ∷ []) (drop (length place) path)
cut_alone [] path e = refl
cut_alone (a ∷ place) [] e = absurd (true≢false (sym e))
cut_alone (a ∷ place) (b ∷ path) e =
    and_true (a == b) (begins_with (place ++ 47 ∷ []) path) (begins_with (47 ∷ []) (drop (length place) path))
    (first_so (a == b) (begins_with place path) e) (cut_alone place path (second_so (a == b) (begins_with place path) e))

-- what is behind the place's path tells
behind : (place path rest : List ℕ) (dir : Bool) → pointwise nat_eq (take (length place) path) place ≡ true → rest ≡ drop (length place) path
    → begins_with (place ++ 47 ∷ []) (tested path dir) ≡ begins_with (47 ∷ []) (tested rest dir)
behind place path rest true e is = cut_front place path (47 ∷ []) (sym (begins_by place path) ∙ e) ∙ ap (λ (l : List ℕ). begins_with (47 ∷ []) (l ++ 47 ∷ [])) (sym is)
behind place path rest false e is = cut_alone place path (sym (begins_by place path) ∙ e) ∙ ap (begins_with (47 ∷ [])) (sym is)

pub slash_next : (place path rest : List ℕ) (dir answer : Bool) → pointwise nat_eq (take (length place) path) place ≡ true → rest ≡ drop (length place) path
    → answer ≡ begins_with (47 ∷ []) (tested rest dir) → answer ≡ begins_with (place ++ 47 ∷ []) (tested path dir)
slash_next place path rest dir answer e is told = told ∙ sym (behind place path rest dir e is)

-- ---- ends

no_end : (front : List ℕ) (c : ℕ) → bytes_eq (front ++ c ∷ []) [] ≡ false
no_end [] c = refl
no_end (a ∷ front) c = refl

none_left : (l : List ℕ) (c : ℕ) → bytes_eq [] (l ++ c ∷ []) ≡ false
none_left [] c = refl
none_left (x ∷ l) c = refl

differs : (l front : List ℕ) (c : ℕ) → nat_eq c 47 ≡ false → bytes_eq (front ++ c ∷ []) (l ++ 47 ∷ []) ≡ false
differs [] [] c e = rw e refl
differs [] (a ∷ front) c e = and_false (nat_eq a 47) (bytes_eq (front ++ c ∷ []) []) (no_end front c)
differs (x ∷ l) [] c e = and_false (nat_eq c x) (bytes_eq [] (l ++ 47 ∷ [])) (none_left l 47)
differs (x ∷ l) (a ∷ front) c e = and_false (nat_eq a x) (bytes_eq (front ++ c ∷ []) (l ++ 47 ∷ [])) (differs l front c e)

-- a text with a slash at its end ends in no other byte
slash_end : (front path : List ℕ) (c : ℕ) → nat_eq c 47 ≡ false → ends_with (front ++ c ∷ []) (path ++ 47 ∷ []) ≡ false
slash_end front path c e =
    let len : length (path ++ 47 ∷ []) - length (front ++ c ∷ []) ≤ length path = omega (arith, length-append path (47 ∷ []), length-append front (c ∷ [])) in
    ap (bytes_eq (front ++ c ∷ [])) (drop-append-le (length (path ++ 47 ∷ []) - length (front ++ c ∷ [])) path (47 ∷ []) len)
    ∙ differs (drop (length (path ++ 47 ∷ []) - length (front ++ c ∷ [])) path) front c e

-- the end of a file's path is that of the tested text, unless it is a slash
file_end : (front path : List ℕ) (c : ℕ) (dir : Bool) → nat_eq c 47 ≡ false → file_ends_with (front ++ c ∷ []) path dir ≡ ends_with (front ++ c ∷ []) (tested path dir)
file_end front path c true e = sym (slash_end front path c e)
file_end front path c false e = refl

pub header_end : (path : List ℕ) (dir : Bool) → file_ends_with (codes ".h") path dir ≡ ends_with (codes ".h") (tested path dir)
header_end path dir = file_end (46 ∷ []) path 104 dir refl

pub archive_end : (path : List ℕ) (dir : Bool) → file_ends_with (codes ".a") path dir ≡ ends_with (codes ".a") (tested path dir)
archive_end path dir = file_end (46 ∷ []) path 97 dir refl

pub package_end : (path : List ℕ) (dir : Bool) → file_ends_with (codes ".pc") path dir ≡ ends_with (codes ".pc") (tested path dir)
package_end path dir = file_end (46 ∷ 112 ∷ []) path 99 dir refl
