use Rattle.std.proofs.Common.{◌≡◌, ◌-◌, List, [], ◌∷◌, ◌++◌, length, get_or, sym, ap, ◌∙◌, refl, Some, None, IsTrue, Bool, Ordering, arith}
use Rattle.std.specs.Cmp.{IsTotalOrder}
use Rattle.std.specs.List.{slice_get}
use Rattle.std.specs.List.Sorted.{IsStrictlySortedBy}
use Rattle.std.specs.Ordering.{is_lt}
use Rattle.std.proofs.lemmas.Option.{get_or_from_slice_get, slice_get-get_or, slice_get_within}
use Rattle.trove_parts.proofs.Rising.{less_iff, rising_push, below_pushed}
use Rattle.trove_parts.proofs.items.is_next.Goals as goal

first_rises : {K : Type 0} (R : K → K → Ordering) (xs : List K) (y : K) → None ≡ slice_get xs (length xs - 1) → IsStrictlySortedBy R (xs ++ y ∷ [])
unfolding IsStrictlySortedBy
first_rises R [] y none = (tt, tt)
first_rises R (x ∷ xs) y none = absurd (cc (none, slice_get-get_or (x ∷ xs) (length (x ∷ xs) - 1) x (omega arith)))

next_rises : {K : Type 0} {R : K → K → Ordering} (o : IsTotalOrder R) (xs : List K) (last y : K) (b : Bool) → Some last ≡ slice_get xs (length xs - 1) → b ≡ is_lt (R last y) → IsStrictlySortedBy R xs
    → (IsTrue b → IsStrictlySortedBy R (xs ++ y ∷ [])) × (IsStrictlySortedBy R (xs ++ y ∷ []) → IsTrue b)
next_rises {R = R} o xs last y b some is rising =
    let less = less_iff (R last y) b is in
    let at : get_or xs (length xs - 1) last ≡ last = get_or_from_slice_get xs (length xs - 1) last last (sym some) in (
      λ t. rising_push o xs y rising (λ d within. ap (λ x. R x y) (get_or_from_slice_get xs (length xs - 1) last d (sym some)) ∙ less.0 t),
      λ pushed. less.1 (sym (ap (λ x. R x y) at) ∙ below_pushed R xs y last pushed (omega (arith, slice_get_within xs (length xs - 1) last (sym some)))),
    )

pub returns-in-None : goal.returns-in-None
returns-in-None g c = (λ _. first_rises g.T.Element.compare c.args.items.now c.args.element.now c.in-None.ensures.value, λ _. refl)

pub returns-in-Some : goal.returns-in-Some
returns-in-Some g c = next_rises g.met.T.Element.total c.args.items.now c.in-Some.last.now c.args.element.now c.is_below.result c.in-Some.ensures.value c.is_below.ensures c.requires
