use Rattle.std.proofs.Common.{subst, sym}
use Rattle.std.specs.Prelude.{IfErr, IfOk}
use Rattle.past_jobs.specs.Past.{AreChangedIds}
use Rattle.rollback_stack.specs.declared.job_reading.Job.{Job}
use Rattle.rollback_stack.specs.JobReading.{IsCheckStop, IsJob, IsJobOf, IsToldBy}
use Rattle.rollback_stack.proofs.JobsRead.{damaged_err, damaged_ok, if_ok_both, passes, read_by, told_entries, told_of_read, told_rise}
use Rattle.local_db.proofs.Holding.{if_ok_map}
use Rattle.rollback_stack.proofs.job_reading.check_record.Goals as goal

pub job_in-requires : goal.job_in-requires
job_in-requires c = c.requires.text.text.deltas_rise

pub returns-clause-value : goal.returns-clause-value
returns-clause-value c =
    let f = c.args.list.now.format in
    let n = c.args.number in
    let r = c.args.found in
    let after = c.args.list.now.troves in
    let before = c.job_in.new.list.troves in
    let is = if_ok_map (λ (job : Job). IsToldBy f r after before job.changes.items) (IsJobOf f n r after before) c.job_in.result
    (λ job told. (read_by f n r after before job.changes.items c.requires.installed c.requires.text told c.requires.number, passes f r after before job.changes.items told))
    c.job_in.ensures.told in
    subst (λ x. IfOk x (IsJobOf f n r after before)) (sym c.or_damaged.ensures) (damaged_ok (IsJobOf f n r after before) c.in_ok-path.path c.job_in.result is)

pub returns-clause-job : goal.returns-clause-job
returns-clause-job c =
    let f = c.args.list.now.format in
    let n = c.args.number in
    let r = c.args.found in
    let after = c.args.list.now.troves in
    let before = c.job_in.new.list.troves in
    let both = if_ok_both (λ (job : Job). AreChangedIds before after job.changed.before) (λ (job : Job). AreChangedIds after before job.changed.after)
    (λ (job : Job). AreChangedIds before after job.changed.before × AreChangedIds after before job.changed.after) c.job_in.result (λ job b a. (b, a)) c.job_in.ensures.before c.job_in.ensures.after in
    let is = if_ok_both (λ (job : Job). IsToldBy f r after before job.changes.items)
    (λ (job : Job). AreChangedIds before after job.changed.before × AreChangedIds after before job.changed.after) (IsJob f after before) c.job_in.result
    (λ job told ids. record {
      entries_are = told_entries f n r after before job.changes.items c.requires.installed c.requires.text told;
      rising = told_rise f n r after before job.changes.items c.requires.installed c.requires.text told;
      checks = passes f r after before job.changes.items told;
      before_ids = ids.0;
      after_ids = ids.1;
    })
    c.job_in.ensures.told both in
    subst (λ x. IfOk x (IsJob f after before)) (sym c.or_damaged.ensures) (damaged_ok (IsJob f after before) c.in_ok-path.path c.job_in.result is)

pub returns-clause-stops : goal.returns-clause-stops
returns-clause-stops c =
    let f = c.args.list.now.format in
    let n = c.args.number in
    let r = c.args.found in
    let after = c.args.list.now.troves in
    subst (λ x. IfErr x (IsCheckStop f n r after)) (sym c.or_damaged.ensures)
    (damaged_err (IsCheckStop f n r after) c.in_ok-path.path c.job_in.result tt
    (λ bad. (c.in_ok-path.ensures, λ before es read checks. c.job_in.ensures.bad bad before es (told_of_read f n r after before es read checks))))
