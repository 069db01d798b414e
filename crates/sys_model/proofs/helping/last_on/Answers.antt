use Rattle.std.proofs.Common.{ℕ, ◌+◌, List, get_or, take, refl, sym, subst, ◌∙◌, true≢false, arith}
use Rattle.std.proofs.lemmas.List.{take_all}
use Rattle.sys_model.specs.Fit.{IsWished}
use Rattle.sys_model.proofs.Fits.{last_more, last_same, none_so_far, LastSoFar}
use Rattle.sys_model.proofs.helping.last_on.Goals.{then-is_fit_at, else-is_fit_at}
use Rattle.sys_model.proofs.helping.last_on.Goals as goal

pub loop-place-preserved : goal.loop-place-preserved
loop-place-preserved c =
    let wish = c.args.wish.now in
    let label = c.args.label.now in
    let troves = c.args.catalogue.now.troves in
    let places = c.args.places.now in
    let i = c.loop-place.place-index in
    let here : ℕ = get_or places i 0 in
    let last = c.loop-place.last in
    elim c.if-is_fit_at.branch [
      | then-is_fit_at w ↦
          subst (LastSoFar (IsWished wish label) troves (take (i + 1) places)) (sym w.last-is)
          (last_more (IsWished wish label) troves places i here c.loop-place-test.true refl last w.later_of.result c.loop-place.invariant (c.is_fit_at.ensures.0 w.if-is_fit_at.true) w.later_of.ensures.least
          w.later_of.ensures.above w.later_of.ensures.either w.later_of.ensures.alone)
      | else-is_fit_at w ↦
          subst (LastSoFar (IsWished wish label) troves (take (i + 1) places)) (sym w.last-is)
          (last_same (IsWished wish label) troves places i here c.loop-place-test.true refl last c.loop-place.invariant (λ fit. true≢false (sym (c.is_fit_at.ensures.1 fit) ∙ w.if-is_fit_at.false)))
    ]

pub returns-clause-none : goal.returns-clause-none
returns-clause-none c =
    let wish = c.args.wish.now in
    let label = c.args.label.now in
    let troves = c.args.catalogue.now.troves in
    none_so_far (IsWished wish label) troves c.args.places.now c.loop-place.last
    (subst (λ (l : List ℕ). LastSoFar (IsWished wish label) troves l c.loop-place.last) (take_all c.loop-place.place-index c.args.places.now (omega (arith, c.loop-place-test.false))) c.loop-place.invariant)
