use Rattle.std.proofs.Common.{Err, ap}
use Rattle.trove_spec.proofs.PlaceReading.{label_ok, label_err}
use Rattle.trove_spec.proofs.spec.read_label.Goals as goal

pub returns-in-Ok-clause-only : goal.returns-in-Ok-clause-only
returns-in-Ok-clause-only c meant is = label_ok c.args.text.now c.in-Ok.label meant c.requires c.in-Ok.ensures.only is

pub returns-in-Err-clause-only : goal.returns-in-Err-clause-only
returns-in-Err-clause-only c meant is = label_err c.args.text.now c.in-Err.fault meant c.requires (λ e. c.in-Err.ensures.bad.0 (ap Err e)) is
