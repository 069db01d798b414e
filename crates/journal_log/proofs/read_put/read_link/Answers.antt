use Rattle.std.proofs.Common.{◌≡◌, Result, Err, ap}
use Rattle.std.proofs.lemmas.Result.{err_from_is_err_and}
use Rattle.tree_disk.specs.cny-base.declared.text.TextFault.{TextFault}
use Rattle.tree_disk.specs.cny-base.declared.text.TextFault.TheVariants.{Bad}
use Rattle.journal_log.specs.declared.put.Put.{Put}
use Rattle.journal_log.proofs.Links.{link_parts}
use Rattle.journal_log.proofs.read_put.read_link.Goals as goal

-- the fault that a `?` passes on is the call's
passed : (r : Result Put TextFault) (e f : TextFault) → r ≡ Err e → e ≡ f → r ≡ Err Bad → f ≡ Bad
passed r e f is same bad = cc

pub returns-in_err-path-clause-bad : goal.returns-in_err-path-clause-bad
returns-in_err-path-clause-bad c = λ bad p item.
    let q = err_from_is_err_and c.from_residual.result c.from_residual.ensures.1 in
    let parts = link_parts p c.args.value.now c.in-Some.first c.in-Some.second c.in-Some.ensures.some item in
    cc (c.in_err-path.ensures.bad.0 (ap Err (passed _ q.0 c.in_err-path.field-0.0 q.1 q.2 bad)), parts.0)

pub returns-in_err-target-clause-bad : goal.returns-in_err-target-clause-bad
returns-in_err-target-clause-bad c = λ bad p item.
    let q = err_from_is_err_and c.from_residual-in_err-target.result c.from_residual-in_err-target.ensures.1 in
    let parts = link_parts p c.args.value.now c.in-Some.first c.in-Some.second c.in-Some.ensures.some item in
    cc (c.in_err-target.ensures.bad.0 (ap Err (passed _ q.0 c.in_err-target.field-0.0 q.1 q.2 bad)), parts.1)
