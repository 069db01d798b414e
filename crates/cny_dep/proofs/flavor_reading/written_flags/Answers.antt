use Rattle.std.proofs.Common.{◌<◌, Some, ◌∙◌, sym, ap, arith}
use Rattle.cny_dep.proofs.Loops.{flags_end, flags_more, no_flags_left}
use Rattle.cny_dep.proofs.flavor_reading.written_flags.Goals as goal

pub returns-in-None : goal.returns-in-None
returns-in-None c =
    let within : c.loop.counter < 64 = omega arith in
    sym c.loop.invariant
    ∙ flags_end 64 c.loop.counter c.loop.flags.items c.loop.rest.now c.in_ok-flag.after.now c.in_ok-flag.flag within c.in_ok-flag.ensures c.in-None.ensures
    ∙ ap (λ l. Some (l, c.in_ok-flag.after.now)) (sym c.in_ok-push.ensures.items)

pub loop-preserved : goal.loop-preserved
loop-preserved c =
    let within : c.loop.counter < 64 = omega arith in
    rw (c.in_ok-push.ensures.items, c.skip_spaces-rest.ensures)
    (flags_more 64 c.loop.counter c.loop.flags.items c.loop.rest.now c.in_ok-flag.after.now c.in-Some.more.now c.in_ok-flag.flag within c.in_ok-flag.ensures c.in-Some.ensures
    ∙ c.loop.invariant)

pub returns : goal.returns
returns c = sym c.loop.invariant ∙ no_flags_left 64 c.loop.counter c.loop.flags.items c.loop.rest.now (omega arith)
