use Rattle.std.proofs.Common.{◌<◌, ◌∙◌, Some, sym, ap, arith}
use Rattle.std.proofs.lemmas.Result.{err_from_is_err_and}
use Rattle.cny_dep.specs.FlavorReading.{set_at, sets_at}
use Rattle.cny_dep.proofs.Loops.{fails_along, set_bad, sets_end, sets_bad, sets_more, no_sets_left}
use Rattle.cny_dep.proofs.flavor_reading.written_sets.Goals as goal

pub returns-in_err-set : goal.returns-in_err-set
returns-in_err-set c =
    let p = err_from_is_err_and c.from_residual.result c.from_residual.ensures.1 in
    let within : c.loop.counter < 64 = omega arith in
    rw (p.1, p.2) (fails_along c.in_err-set.field-0.0 (set_at c.loop.rest.now) (sets_at 64 c.args.bytes.now)
    (λ bad. sym c.loop.invariant ∙ set_bad 64 c.loop.counter c.loop.sets.items c.loop.rest.now within bad) c.in_err-set.ensures)

pub returns-then-is_empty : goal.returns-then-is_empty
returns-then-is_empty c =
    let within : c.loop.counter < 64 = omega arith in
    sym c.loop.invariant
    ∙ sets_end 64 c.loop.counter c.loop.sets.items c.loop.rest.now c.in_ok-set.after.now c.in_ok-set.set within c.in_ok-set.ensures c.if-is_empty.ensures
    ∙ ap Some (sym c.in_ok-push.ensures.items)

pub returns-in-None : goal.returns-in-None
returns-in-None c =
    let within : c.loop.counter < 64 = omega arith in
    sym c.loop.invariant
    ∙ sets_bad 64 c.loop.counter c.loop.sets.items c.loop.rest.now c.in_ok-set.after.now c.in_ok-set.set within c.in_ok-set.ensures c.if-is_empty.ensures c.in-None.ensures

pub loop-preserved : goal.loop-preserved
loop-preserved c =
    let within : c.loop.counter < 64 = omega arith in
    rw (c.in_ok-push.ensures.items, c.skip_spaces-rest.ensures)
    (sets_more 64 c.loop.counter c.loop.sets.items c.loop.rest.now c.in_ok-set.after.now c.in-Some.more.now c.in_ok-set.set within c.in_ok-set.ensures c.in-Some.ensures
    ∙ c.loop.invariant)

pub returns : goal.returns
returns c = sym c.loop.invariant ∙ no_sets_left 64 c.loop.counter c.loop.sets.items c.loop.rest.now (omega arith)
