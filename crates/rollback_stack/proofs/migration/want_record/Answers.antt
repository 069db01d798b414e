use Rattle.std.proofs.Common.{◌∙◌, sym, subst}
use Rattle.job_targets.specs.cny-base.Count.{Rose}
use Rattle.rollback_stack.specs.JobReading.{IsCheckStop, IsDamagedJob, IsJobOf, IsReadStop, IsText}
use Rattle.local_db.specs.declared.format.Format.{Format}
use Rattle.local_db.specs.declared.format.Format.TheVariants.{One, Two}
use Rattle.job_targets.specs.tree-disk.Tree.{Name}
use Rattle.rollback_stack.specs.Migrated.{HasFile}
use Rattle.rollback_stack.proofs.Later.{read_as}
use Rattle.change_rel.proofs.cny-base.Faults.{passed_on}
use Rattle.rollback_stack.proofs.HoldingRecords.{holds, stop_of_text, stop_without_text}
use Rattle.rollback_stack.proofs.migration.want_record.Goals as goal

pub encode-requires : goal.encode-requires
encode-requires g c = c.in_ok-found.ensures.text.text.entries_are

pub check_record-requires-clause-text : goal.check_record-requires-clause-text
check_record-requires-clause-text g c = subst (λ (f : Format). IsText f c.args.number c.in_ok-found.found) (sym c.requires.format) c.in_ok-found.ensures.text

pub returns-clause-installed : goal.returns-clause-installed
returns-clause-installed g c = c.in_ok-job.ensures.job.checks.list

pub returns-clause-format : goal.returns-clause-format
returns-clause-format g c = c.in_ok-job.ensures.format ∙ c.requires.format

pub returns-in_err-found-clause-stops : goal.returns-in_err-found-clause-stops
returns-in_err-found-clause-stops g c =
    let told = g.D.TreeDisk.disk.tells in
    let x = g.D.TreeDisk.disk.reads c.args.disk.now in
    let rose = Rose (g.D.TreeDisk.disk.faults c.args.disk.now) (g.D.TreeDisk.disk.faults c.read_record.new.disk) in
    let after = c.args.list.now.troves in
    let e = c.in_err-found.field-0.0 in
    passed_on (IsReadStop told (IsDamagedJob One x c.args.number after) rose) e c.from_residual.result
    (stop_without_text One x c.args.number after c.records_by_lists.ensures.read told rose e c.in_err-found.ensures.stops) c.from_residual.ensures.1

pub returns-in_err-job-clause-stops : goal.returns-in_err-job-clause-stops
returns-in_err-job-clause-stops g c =
    let told = g.D.TreeDisk.disk.tells in
    let x = g.D.TreeDisk.disk.reads c.args.disk.now in
    let rose = Rose (g.D.TreeDisk.disk.faults c.args.disk.now) (g.D.TreeDisk.disk.faults c.read_record.new.disk) in
    let after = c.args.list.now.troves in
    let n = c.args.number in
    let r = c.in_ok-found.found in
    let e = c.in_err-job.field-0.0 in
    passed_on (IsReadStop told (IsDamagedJob One x n after) rose) e c.from_residual-in_err-job.result
    (stop_of_text One x n after c.records_by_lists.ensures.read c.distinct_records.ensures.unique told rose r (λ tells. (c.in_ok-found.ensures.value tells).answer) e
    (subst (λ (f : Format). IsCheckStop f n r after e) c.requires.format c.in_err-job.ensures.stops)) c.from_residual-in_err-job.ensures.1

pub returns-clause-value : goal.returns-clause-value
returns-clause-value g c tells =
    let x = g.D.TreeDisk.disk.reads c.args.disk.now in
    let n = c.args.number in
    let r = c.in_ok-found.found in
    let after = c.args.list.now.troves in
    let before = c.check_record.new.list.troves in
    let job = c.in_ok-job.job in
    let es = job.changes.items in
    let run = c.in_ok-found.ensures.value tells in
    let t = c.in_ok-found.ensures.text.text in
    let is = subst (λ (f : Format). IsJobOf f n r after before job) c.requires.format c.in_ok-job.ensures.value in
    read_as run (record {
      es = es;
      bytes = c.in_ok-bytes.bytes;
      holds = holds One x n after c.records_by_lists.ensures.written r before es run.answer is.0 is.1;
      text = c.records_by_lists.ensures.written Two n before after es r c.in_ok-bytes.bytes
          (record {
            number_fits = t.number_fits;
            deltas_are = c.in_ok-bytes.ensures.deltas;
            deltas_fit = c.in_ok-bytes.ensures.fits;
            deltas_rise = t.deltas_rise;
            entries_are = t.entries_are;
            entries_rise = t.entries_rise;
            text = c.in_ok-bytes.ensures.value;
          }) is.0;
      wanted = subst (λ (p : Name). HasFile p c.in_ok-bytes.bytes c.args.wants.now c.want_file.new.wants) c.in_ok-path.ensures c.in_ok-want_file.ensures;
    })
