use Rattle.std.proofs.Common.{◌≡◌, [], ap, ◌∙◌, arith, Err}
use Rattle.cny_base.specs.declared.text.TextFault.TheVariants.{Bad}
use Rattle.std.proofs.lemmas.List.Folds.{list_all_at, list_all-map}
use Rattle.std.proofs.lemmas.Result.{err_from_is_err_and}
use Rattle.cny_dep.specs.Part.{is_flag}
use Rattle.cny_dep.proofs.Faults.{handed_on}
use Rattle.cny_dep.proofs.reading.flags_of.Goals as goal

pub returns-in_err-read-clause-bad : goal.returns-in_err-read-clause-bad
returns-in_err-read-clause-bad c h =
    let met : c.in_err-read.field-0.0 ≡ Bad = handed_on c.from_residual.result c.in_err-read.field-0.0 Bad (err_from_is_err_and c.from_residual.result c.from_residual.ensures.1) h in
    list_all-map is_flag (λ part. part.now) c.args.parts.now
    ∙ list_all_at (λ part. is_flag part.now) c.args.parts.now c.loop-part.part-index (record { ref_ptr = (0, 0); now = [] }) (omega arith) (c.in_err-read.ensures.bad.0 (ap Err met))
