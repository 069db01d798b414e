-- Bytes that are equal, and how a text begins.
use Rattle.cny_base.specs.Below.{begins_with}
use Rattle.std.proofs.Common.{Bool, List, [], arith, length, nat_eq, refl, take, true, ℕ, ◌&&◌, ◌∷◌, ◌≡◌, ap, append_assoc, drop, false, min, sym, ◌++◌, ◌-◌, ◌∙◌}
use Rattle.std.proofs.lemmas.Bool.Decides.{nat_tests}
use Rattle.std.proofs.lemmas.Cmp.{tied_itself}
use Rattle.std.proofs.lemmas.Slice.Eq.{bytes_eq-Decides}
use Rattle.std.specs.Cmp.Lexicographic.{bytes_decides, nat_list_cmp_total, pointwise, slice_cmp}
use Rattle.std.specs.Ordering.{nat_cmp}
use Rattle.std.specs.Prelude.{◌==◌}
use Rattle.std.specs.Str.{bytes_eq}
use Rattle.std.specs.declared.cmp.Ordering.TheVariants.{Equal, Less}
use Rattle.cny_base.proofs.Below.{begins, begun}
use Rattle.std.proofs.lemmas.List.{length-drop, length-take, take_at, take_min}

pub same_bit : (a b : ℕ) (x y : Bool) → x ≡ y → (nat_eq b a && x) ≡ ((a == b) && y)
same_bit a b x y e = grind (arith, nat_tests)

pub begins_by : (front bytes : List ℕ) → pointwise nat_eq (take (length front) bytes) front ≡ begins_with front bytes
begins_by [] bytes = refl
begins_by (a ∷ front) [] = refl
begins_by (a ∷ front) (b ∷ bytes) = same_bit a b (pointwise nat_eq (take (length front) bytes) front) (begins_with front bytes) (begins_by front bytes)

pub bytes_mean : (x y : List ℕ) → bytes_eq x y ≡ true → x ≡ y
bytes_mean x y h = (bytes_decides x y).0 h

pub bytes_itself : (x : List ℕ) → bytes_eq x x ≡ true
bytes_itself x = (bytes_decides x x).1 refl

pub not_less_itself : (x : List ℕ) → slice_cmp nat_cmp x x ≡ Less → ⊥
not_less_itself x less = let own : slice_cmp nat_cmp x x ≡ Equal = tied_itself nat_list_cmp_total x in absurd (cc (own, less))

pub same_bytes : (a b : List ℕ) → bytes_eq a b ≡ true → a ≡ b
same_bytes a b h = (bytes_eq-Decides a b).0 h

pub equal_bytes : (a b : List ℕ) → a ≡ b → bytes_eq a b ≡ true
equal_bytes a b h = (bytes_eq-Decides a b).1 h

-- its front is the piece of the file
pub read_front : (file old new : List ℕ) (at count : ℕ) → count ≡ min (length old) (length file - at) → new ≡ take count (drop at file) ++ drop count old
    → take count new ≡ take (length old) (drop at file)
read_front file old new at count most is =
    ap (take count) is
    ∙ take_at (take count (drop at file)) (drop count old) count (length-take count (drop at file) ∙ short)
    ∙ ap (λ (k : ℕ). take k (drop at file)) (most ∙ ap (min (length old)) (sym (length-drop at file)))
    ∙ take_min (length old) (drop at file)
  where
    short : min count (length (drop at file)) ≡ count
    short = omega (arith, most, length-drop at file)

-- no longer front begins the bytes either
pub longer_front : (front more bytes : List ℕ) → begins_with front bytes ≡ false → begins_with (front ++ more) bytes ≡ false
longer_front front more bytes none = at (begins_with (front ++ more) bytes) refl
  where
    at : (v : Bool) → begins_with (front ++ more) bytes ≡ v → begins_with (front ++ more) bytes ≡ false
    at false e = e
    at true e =
        let rest = begun (front ++ more) bytes e in
        absurd (cc (none, ap (begins_with front) (rest.1 ∙ append_assoc front more rest.0) ∙ begins front (more ++ rest.0)))
