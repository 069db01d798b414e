use Rattle.std.proofs.Common.{length, arith, ap, ◌∙◌}
use Rattle.std.specs.Int.{w32, from_be_bytes}
use Rattle.journal_log.proofs.Tails.{tail_here}
use Rattle.journal_log.proofs.read_put.read_tail.Goals as goal

pub returns-clause-some : goal.returns-clause-some
returns-clause-some c =
    let first = c.in_ok-number.ensures.cases in
    let second = c.in_ok-size.ensures.cases in
    let name = c.in_ok-name.ensures.cases in
    tail_here c.args.value.now c.in_ok-number.rest.now c.in_ok-name.field-0.now c.from_be_bytes.result c.from_be_bytes-2.result (λ i. omega (arith, c.type_inv.value i))
    (let long = first.2 in omega (arith, long)) (c.from_be_bytes.ensures ∙ ap (from_be_bytes w32) first.0) first.1
    (let long = second.2 in omega (arith, long)) (c.from_be_bytes-2.ensures ∙ ap (from_be_bytes w32) second.0)
    (name.same ∙ second.1)
    (ap length name.same ∙ name.long)
