-- Tests of two truth values.
use Rattle.std.proofs.Common.{Bool, IsTrue, cond, false, inl, inr, not, refl, true, ◌&&◌, ◌||◌, ◌≡◌, ◌⊎◌}
use Rattle.std.proofs.lemmas.Bool.{true≢false}

pub written : (b x : Bool) → cond b true x ≡ (x || b)
written true true = refl
written true false = refl
written false true = refl
written false false = refl

pub not_false : (b : Bool) → not b ≡ false → b ≡ true
not_false true h = refl
not_false false h = absurd (cc)

pub tests_of : (x e n p : Bool) → (x && (e || (n && p))) ≡ true → (e ≡ true) ⊎ (n ≡ true)
tests_of true true n p h = inl refl
tests_of true false true p h = inr refl
tests_of true false false p h = absurd (cc h)
tests_of false e n p h = absurd (cc h)

pub or_left : (x y : Bool) → x ≡ true → (x || y) ≡ true
or_left true y h = refl
or_left false y h = absurd (cc h)

pub or_right : (x y : Bool) → y ≡ true → (x || y) ≡ true
or_right true y h = refl
or_right false y h = h

pub both : (x y : Bool) → x ≡ true → y ≡ true → (x && y) ≡ true
both true y left right = right
both false y left right = absurd (cc left)

pub or_later : (a b : Bool) → IsTrue b → IsTrue (a || b)
or_later true b is = refl
or_later false b is = is

pub not_true : (b : Bool) → (b ≡ true → ⊥) → b ≡ false
not_true true never = absurd (never refl)
not_true false never = refl

pub joined : (x y z : Bool) → ((x || y) || z) ≡ (x || (y || z))
joined true y z = refl
joined false y z = refl

pub or_false : (b : Bool) → (b || false) ≡ b
or_false true = refl
or_false false = refl

pub first_false : (a b : Bool) → (a || b) ≡ false → a ≡ false
first_false true b e = absurd (true≢false e)
first_false false b e = refl

pub second_false : (a b : Bool) → (a || b) ≡ false → b ≡ false
second_false true b e = absurd (true≢false e)
second_false false b e = e

pub and_false : (a b : Bool) → b ≡ false → (a && b) ≡ false
and_false true b e = e
and_false false b e = refl
