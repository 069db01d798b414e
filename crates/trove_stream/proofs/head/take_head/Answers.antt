use Rattle.std.proofs.Common.{Err, ap}
use Rattle.std.proofs.lemmas.Result.{err_from_is_err_and}
use Rattle.trove_parts.specs.cny-base.declared.text.TextFault.TheVariants.{Bad}
use Rattle.trove_stream.proofs.Heads.{there}
use Rattle.cny_dep.proofs.Faults.{handed_on}
use Rattle.trove_stream.proofs.head.take_head.Goals as goal

pub returns-in_err-id-clause-bad : goal.returns-in_err-id-clause-bad
returns-in_err-id-clause-bad c h id rest valid same =
    let met = handed_on c.from_residual.result c.in_err-id.field-0.0 Bad (err_from_is_err_and c.from_residual.result c.from_residual.ensures.1) h in
    let both = there c.args.bytes.now c.in-Some.items id rest c.in-Some.ensures.some valid (c.short_ids.ensures id valid) same in
    c.in_err-id.ensures.bad (ap Err met) id both.0

pub returns-clause-only : goal.returns-clause-only
returns-clause-only c id rest valid same =
    let both = there c.args.bytes.now c.in-Some.items id rest c.in-Some.ensures.some valid (c.short_ids.ensures id valid) same in
    (c.in_ok-id.ensures.only id both.0, both.1)
