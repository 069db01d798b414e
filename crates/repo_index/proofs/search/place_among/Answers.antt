use Rattle.std.proofs.Common.{ℕ, Some, sym, ap, ◌∙◌, true≢false, arith}
use Rattle.repo_index.specs.Places.{HasIdAt}
use Rattle.repo_index.proofs.Placing.{not_yet, nowhere, one_place}
use Rattle.repo_index.proofs.search.place_among.Goals as goal

pub returns-then-is_place_of-clause-only : goal.returns-then-is_place_of-clause-only
returns-then-is_place_of-clause-only c place among is =
    ap (λ (p : ℕ). Some p) (one_place c.args.troves.now c.args.id.now _ place c.requires (c.is_place_of.ensures.0 c.if-is_place_of.true) is)

pub loop-place-preserved : goal.loop-place-preserved
loop-place-preserved c =
    not_yet (HasIdAt c.args.troves.now c.args.id.now) c.args.places.now c.loop-place.place-index c.loop-place.invariant
    (λ is. true≢false (sym (c.is_place_of.ensures.1 is) ∙ c.if-is_place_of.false))

pub returns-clause-only : goal.returns-clause-only
returns-clause-only c place among is =
    absurd (nowhere (HasIdAt c.args.troves.now c.args.id.now) c.args.places.now (λ k below. c.loop-place.invariant k (omega (arith, below))) place among is)
