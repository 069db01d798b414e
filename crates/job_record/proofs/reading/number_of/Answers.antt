use Rattle.std.proofs.Common.{[], ◌∷◌, ◌++◌, List, ℕ, arith, ap, ◌∙◌}
use Rattle.std.specs.Int.{w32, from_be_bytes}
use Rattle.job_record.proofs.Heads.{number_here, stripped}
use Rattle.job_record.proofs.reading.number_of.Goals as goal

pub returns-clause-some : goal.returns-clause-some
returns-clause-some c =
    let first = c.in_ok-rest.ensures.cases in
    let second = c.in_ok-rest-2.ensures.cases in
    let third = c.in_ok-number.ensures.cases in
    number_here c.args.format c.args.bytes.now c.in_ok-rest.rest.now c.in_ok-rest-2.rest.now c.from_be_bytes.result (λ i. omega (arith, c.type_inv.bytes i))
    (stripped c.magic_of.result.now c.args.bytes.now c.in_ok-rest.rest.now first.0 first.1 ∙ ap (λ (l : List ℕ). l ++ c.in_ok-rest.rest.now) c.magic_of.ensures.value)
    (stripped (0x60 ∷ 0 ∷ 0 ∷ 0 ∷ 4 ∷ []) c.in_ok-rest.rest.now c.in_ok-rest-2.rest.now second.0 second.1)
    (let long = third.2 in omega (arith, long)) (c.from_be_bytes.ensures ∙ ap (from_be_bytes w32) third.0)
