use Rattle.job_record.proofs.Fronts.{file_told}
use Rattle.job_record.proofs.marks.file_front.Goals as goal

pub returns-in_default-clause-bad : goal.returns-in_default-clause-bad
returns-in_default-clause-bad c _ t r is e =
    let fields = file_told c.args.rest.now t r is e in c.in_default.ensures.none fields.0 fields.1 fields.2 fields.3
