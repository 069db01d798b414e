use Rattle.std.proofs.Common.{◌≡◌, ◌+◌, ◌∙◌, None, ℤ, ◌+ℤ◌, to_z, of_z, w32, subst, arith}
use Rattle.std.proofs.lemmas.Int.{ints}
use Rattle.cny_dep.proofs.Totals.{FlagsSummed, flag_next, flag_added}
use Rattle.cny_dep.proofs.scoring.flags_score.Goals as goal

pub returns-in_err-score-clause-value : goal.returns-in_err-score-clause-value
returns-in_err-score-clause-value c =
    c.from_residual.ensures
    ∙ flag_next c.args.trove.now c.args.system.now c.loop-flag.flag-index (to_z w32 c.loop-flag.score-bits) c.flag-item.result None (omega arith) c.flag-item.is c.loop-flag.invariant
    c.in_err-score.ensures.value

pub loop-flag-preserved : goal.loop-flag-preserved
loop-flag-preserved c =
    let before = to_z w32 c.loop-flag.score-bits in
    let added = flag_added c.args.trove.now c.args.system.now c.loop-flag.flag-index before c.in_ok-score.field-0 c.flag-item.result (omega arith) c.flag-item.is c.loop-flag.invariant
    c.in_ok-score.ensures.value c.in_ok-score.ensures.low c.in_ok-score.ensures.high in
    let low = c.loop-flag.invariant.low in
    let high = c.loop-flag.invariant.high in
    let sum : before +ℤ c.in_ok-score.field-0 ≡ to_z w32 (of_z w32 (before +ℤ to_z w32 (of_z w32 c.in_ok-score.field-0))) = omega (arith, ints) in
    subst (λ (z : ℤ). FlagsSummed c.args.trove.now c.args.system.now (c.loop-flag.flag-index + 1) z) sum added
