-- The pattern of a text.
use Rattle.std.proofs.Common.{◌≡◌, ℕ, List, ◌∷◌, ◌++◌, Option, Some, Result, Ok, Err, sym, subst}
use Rattle.std.specs.Prelude.{IfOk, OnOk}
use Rattle.cny_pack.specs.Patterns.{HasNoStar, IsPatternOf}
use Rattle.cny_pack.specs.declared.pattern.Pattern.{Pattern}

pub both_ok : {X E : Type 0} (r : Result X E) (P : X → Type 0) (Q : Type 0) (R : X → Type 0) → ((x : X) → P x → Q → R x) → IfOk r P → OnOk r Q → IfOk r R
both_ok (Ok x) P Q R f p q = f x p q
both_ok (Err e) P Q R f p q = tt

pub pattern_of : (text before after : List ℕ) (p : Pattern) → p.before ≡ before → p.after ≡ Some after → text ≡ before ++ 42 ∷ after → HasNoStar before → HasNoStar after → IsPatternOf text p.before p.after
pattern_of text before after p first second whole one two =
    subst (λ (o : Option (List ℕ)). IsPatternOf text p.before o) (sym second) (subst (λ (l : List ℕ). (text ≡ l ++ 42 ∷ after) × HasNoStar l × HasNoStar after) (sym first) (whole, one, two))
