use Rattle.std.proofs.Common.{◌-◌, length, drop, arith, ap, ◌∙◌}
use Rattle.std.specs.Int.{w32, from_be_bytes}
use Rattle.std.proofs.lemmas.List.{length-drop, take_all}
use Rattle.job_record.proofs.Numbers.{file_here}
use Rattle.job_record.proofs.fields.read_file.Goals as goal

pub returns-clause-some : goal.returns-clause-some
returns-clause-some c =
    let value = c.args.value.now in
    let first = c.in_ok-size.ensures.cases in
    let second = c.in_ok-name.ensures.cases in
    file_here value _ c.in_ok-size.rest.now c.in_ok-name.name.now c.in_ok-mode.mode c.from_be_bytes.result (λ i. omega (arith, c.type_inv.value i)) c.in_ok-mode.ensures.within c.in_ok-mode.ensures.some
    (take_all (length value - 2) (drop 2 value) (omega (arith, length-drop 2 value)))
    (let long = first.2 in omega (arith, long)) (c.from_be_bytes.ensures ∙ ap (from_be_bytes w32) first.0) first.1 second.0 (let long = second.2 in omega (arith, long))
