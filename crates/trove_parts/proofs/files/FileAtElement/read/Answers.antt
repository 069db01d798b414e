use Rattle.std.proofs.Common.{◌≡◌, Err, ap, sym, ◌∙◌}
use Rattle.std.proofs.lemmas.Bool.{false≢true}
use Rattle.std.proofs.lemmas.List.{take_rest}
use Rattle.std.proofs.lemmas.Result.{err_from_is_err_and}
use Rattle.cny_version.specs.cny-base.Path.{is_path}
use Rattle.cny_version.specs.cny-base.declared.text.TextFault.TheVariants.{Bad}
use Rattle.trove_parts.proofs.ItemFields.{file_there}
use Rattle.cny_dep.proofs.Faults.{handed_on}
use Rattle.trove_parts.proofs.files.FileAtElement.read.Goals as goal

pub returns-in_err-path-clause-bad : goal.returns-in_err-path-clause-bad
returns-in_err-path-clause-bad c h x valid same =
    let there = file_there c.args.encoding c.args.bytes.now c.in-Some.span.from c.in-Some.span.to x c.in-Some.ensures.found valid same in
    let met : c.in_err-path.field-0.0 ≡ Bad = handed_on c.from_residual.result c.in_err-path.field-0.0 Bad (err_from_is_err_and c.from_residual.result c.from_residual.ensures.1) h in
    false≢true (sym (c.in_err-path.ensures.bad.0 (ap Err met)) ∙ ap is_path there.0 ∙ valid.path)

pub returns-in_err-rec-clause-bad : goal.returns-in_err-rec-clause-bad
returns-in_err-rec-clause-bad c h x valid same =
    let there = file_there c.args.encoding c.args.bytes.now c.in-Some.span.from c.in-Some.span.to x c.in-Some.ensures.found valid same in
    let met : c.in_err-rec.field-0.0 ≡ Bad = handed_on c.from_residual-in_err-rec.result c.in_err-rec.field-0.0 Bad (err_from_is_err_and c.from_residual-in_err-rec.result c.from_residual-in_err-rec.ensures.1) h in
    c.in_err-rec.ensures.bad.0 (ap Err met) (x.rec, valid.rec, take_rest c.args.bytes.now c.in-Some.span.to ∙ there.1)

pub returns-clause-only : goal.returns-clause-only
returns-clause-only c x valid same =
    let there = file_there c.args.encoding c.args.bytes.now c.in-Some.span.from c.in-Some.span.to x c.in-Some.ensures.found valid same in
    let path : c.in_ok-path.path ≡ x.path = c.in_ok-path.ensures.value ∙ there.0 in
    let rec = c.in_ok-rec.ensures.only x.rec valid.rec (take_rest c.args.bytes.now c.in-Some.span.to ∙ there.1) in
    λ i. record { path = path i; rec = rec i }
