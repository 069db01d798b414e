use Rattle.std.proofs.Common.{◌≡◌, ◌+◌, ◌∙◌, None, ℤ, ◌+ℤ◌, to_z, of_z, w32, get_or, sym, ap, subst, arith}
use Rattle.std.proofs.lemmas.Int.{ints}
use Rattle.std.proofs.lemmas.List.Sums.{sum_by_more_le}
use Rattle.cny_dep.specs.Canonical.{set_count}
use Rattle.cny_dep.proofs.Totals.{SetsSummed, set_next, set_added}
use Rattle.cny_dep.proofs.scoring.sets_score.Goals as goal

pub returns-in_err-score-clause-value : goal.returns-in_err-score-clause-value
returns-in_err-score-clause-value c =
    c.from_residual.ensures
    ∙ set_next c.args.trove.now c.args.system.now c.loop-set.set-index (to_z w32 c.loop-set.score-bits) c.set-item.result None (omega arith) c.set-item.is c.loop-set.invariant
    c.in_err-score.ensures.value

pub overflow_add-score : goal.overflow_add-score
overflow_add-score c =
    let low = c.loop-set.invariant.low in
    let high = c.loop-set.invariant.high in
    let own_low = c.in_ok-score.ensures.low in
    let own_high = c.in_ok-score.ensures.high in
    let count = sum_by_more_le set_count c.args.trove.now c.loop-set.set-index c.set-item.result (omega arith) in
    let same : set_count (get_or c.args.trove.now c.loop-set.set-index c.set-item.result) ≡ set_count c.set-item.result = ap set_count (sym c.set-item.is) in
    omega (arith, ints)

pub loop-set-preserved : goal.loop-set-preserved
loop-set-preserved c =
    let s = c.set-item.result in
    let before = to_z w32 c.loop-set.score-bits in
    let low = c.loop-set.invariant.low in
    let high = c.loop-set.invariant.high in
    let own_low = c.in_ok-score.ensures.low in
    let own_high = c.in_ok-score.ensures.high in
    let count = sum_by_more_le set_count c.args.trove.now c.loop-set.set-index s (omega arith) in
    let same : set_count (get_or c.args.trove.now c.loop-set.set-index s) ≡ set_count s = ap set_count (sym c.set-item.is) in
    let sum : before +ℤ c.in_ok-score.field-0 ≡ to_z w32 (of_z w32 (before +ℤ to_z w32 (of_z w32 c.in_ok-score.field-0))) = omega (arith, ints) in
    let added = set_added c.args.trove.now c.args.system.now c.loop-set.set-index before c.in_ok-score.field-0 s (omega arith) c.set-item.is
    c.loop-set.invariant c.in_ok-score.ensures.value own_low own_high in
    subst (λ (z : ℤ). SetsSummed c.args.trove.now c.args.system.now (c.loop-set.set-index + 1) z) sum added
