use Rattle.std.proofs.Common.{length, arith, ap, ◌∙◌}
use Rattle.std.specs.Int.{w32, from_be_bytes}
use Rattle.local_db.proofs.Numbers.{numbers_here}
use Rattle.local_db.proofs.reading.numbers_of.Goals as goal

pub returns-clause-some : goal.returns-clause-some
returns-clause-some c =
    let first = c.in_ok-oldest.ensures.cases in
    let last = c.in_ok-newest.ensures.cases in
    numbers_here c.args.value.now c.in_ok-oldest.rest.now c.in_ok-newest.newest.now c.from_be_bytes.result c.from_be_bytes-2.result (λ i. omega (arith, c.type_inv.value i))
    (let long = first.2 in omega (arith, long)) (c.from_be_bytes.ensures ∙ ap (from_be_bytes w32) first.0) first.1
    last.same (ap length last.same ∙ last.long) c.from_be_bytes-2.ensures
