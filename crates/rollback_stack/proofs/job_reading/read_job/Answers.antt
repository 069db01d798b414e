use Rattle.std.proofs.Common.{subst, sym}
use Rattle.std.specs.Prelude.{IfErr, IfOk}
use Rattle.local_db.specs.cny-base.Count.{Rose}
use Rattle.local_db.specs.declared.format.Format.{Format}
use Rattle.rollback_stack.specs.declared.job_reading.Job.{Job}
use Rattle.rollback_stack.specs.JobReading.{HoldsRecord, IsCheckStop, IsDamagedJob, IsJob, IsJobOf, IsReadStop, IsText}
use Rattle.rollback_stack.proofs.HoldingRecords.{holds, stop_of_text, stop_without_text}
use Rattle.change_rel.proofs.cny-base.Faults.{passed_on}
use Rattle.local_db.proofs.Holding.{if_err_map, if_ok_map}
use Rattle.rollback_stack.proofs.job_reading.read_job.Goals as goal

pub returns-in_err-found-clause-stops : goal.returns-in_err-found-clause-stops
returns-in_err-found-clause-stops g c =
    let told = g.D.TreeDisk.disk.tells in
    let x = g.D.TreeDisk.disk.reads c.args.disk.now in
    let rose = Rose (g.D.TreeDisk.disk.faults c.args.disk.now) (g.D.TreeDisk.disk.faults c.read_record.new.disk) in
    let after = c.args.list.now.troves in
    passed_on (IsReadStop told (IsDamagedJob c.args.format x c.args.number after) rose) c.in_err-found.field-0.0 c.from_residual.result
    (stop_without_text c.args.format x c.args.number after c.records_by_lists.ensures.read told rose c.in_err-found.field-0.0 c.in_err-found.ensures.stops) c.from_residual.ensures.1

pub check_record-requires-clause-text : goal.check_record-requires-clause-text
check_record-requires-clause-text g c = subst (λ (f : Format). IsText f c.args.number c.in_ok-found.found) (sym c.requires.format) c.in_ok-found.ensures.text

pub returns-clause-value : goal.returns-clause-value
returns-clause-value g c tells =
    let x = g.D.TreeDisk.disk.reads c.args.disk.now in
    let f = c.args.format in
    let n = c.args.number in
    let r = c.in_ok-found.found in
    let after = c.args.list.now.troves in
    let before = c.check_record.new.list.troves in
    let run = c.in_ok-found.ensures.value tells in
    let of = subst (λ (f : Format). IfOk c.check_record.result (IsJobOf f n r after before)) c.requires.format c.check_record.ensures.value in
    record {
      answer = if_ok_map (IsJobOf f n r after before) (λ (job : Job). HoldsRecord f x n after before job.changes.items) c.check_record.result
          (λ job is. holds f x n after c.records_by_lists.ensures.written r before job.changes.items run.answer is.0 is.1) of;
      same = run.same;
      time = run.time;
    }

pub returns-clause-job : goal.returns-clause-job
returns-clause-job g c = subst (λ (f : Format). IfOk c.check_record.result (IsJob f c.args.list.now.troves c.check_record.new.list.troves)) c.requires.format c.check_record.ensures.job

pub returns-clause-stops : goal.returns-clause-stops
returns-clause-stops g c =
    let told = g.D.TreeDisk.disk.tells in
    let x = g.D.TreeDisk.disk.reads c.args.disk.now in
    let f = c.args.format in
    let n = c.args.number in
    let r = c.in_ok-found.found in
    let after = c.args.list.now.troves in
    let rose = Rose (g.D.TreeDisk.disk.faults c.args.disk.now) (g.D.TreeDisk.disk.faults c.read_record.new.disk) in
    let stops = subst (λ (f : Format). IfErr c.check_record.result (IsCheckStop f n r after)) c.requires.format c.check_record.ensures.stops in
    if_err_map (IsCheckStop f n r after) (IsReadStop told (IsDamagedJob f x n after) rose) c.check_record.result
    (stop_of_text f x n after c.records_by_lists.ensures.read c.distinct_records.ensures.unique told rose r (λ tells. (c.in_ok-found.ensures.value tells).answer)) stops
