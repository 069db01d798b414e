use Rattle.std.proofs.Common.{ℕ, List, Result, Ok, Err, IfOk, inl, refl, sym, ◌∙◌, subst}
use Rattle.cli_call.specs.cny-base.Count.{Rose}
use Rattle.cli_call.specs.cny-base.declared.stop.Stop.{Stop}
use Rattle.rollback_stack.specs.declared.undo.NotedJob.{NotedJob}
use Rattle.rollback_stack.specs.Numbers.{job_count}
use Rattle.rollback_stack.specs.Reading.{AreNotes}
use Rattle.cli_call.specs.Alone.{AnswersByRecords, PerformsAlone}
use Rattle.cli_call.specs.Command.{disks, Performs}
use Rattle.cli_call.proofs.ReadingEnds.{ready_on}
use Rattle.cli_call.proofs.ReadingRoot.{read_alone, read_performed}
use Rattle.cli_call.specs.cny-laws.declared.failure.Failure.TheVariants as failure
use Rattle.root_commands.specs.Jobs as spec
use Rattle.root_commands.specs.Noting.{AreToldBy}
use Rattle.root_commands.specs.Records.{ListsWhole}
use Rattle.root_commands.proofs.JobEnds.{failed_by, failed_ends, found_by, found_ends, read_of}
use Rattle.cli_call.proofs.RootResults.{root_ok}
use Rattle.root_commands.proofs.RecordEnds.{list_failed, told_whole}
use Rattle.local_db.proofs.cny-base.Passing.{err_is}
use Rattle.root_commands.proofs.jobs.list_jobs.Goals as goal

pub returns-in_err-jobs-clause-performs : goal.returns-in_err-jobs-clause-performs
returns-in_err-jobs-clause-performs g c = λ input.
    let disk = g.T.TreeDisk.disk in
    let root = c.args.root.now in
    let root' = c.all.new.disk in
    let opened = c.args.opened.now in
    let read = read_of disk root root' c.all.ensures.value in
    let failed = failed_ends disk g.P.TreeDisk.disk c.distinct_databases.ensures.unique c.one_record.ensures.one input root root' c.args.repo.now opened c.requires (λ told. (read told).same.reads) c.all.result c.in_err-jobs.field-0.0 (sym c.on_root.ensures ∙ c.in_err-jobs.was) c.all.ensures.stops in
    err_is (Performs disk g.P.TreeDisk.disk spec.list_jobs input (disks root c.args.repo.now opened) (disks root' c.args.repo.now opened)) c.from_residual.result c.in_err-jobs.field-0.0 c.from_residual.ensures.1
    (read_performed g.P.TreeDisk.disk g.met.T.TreeDisk.laws root root' c.args.repo.now opened spec.list_jobs input read (Err c.in_err-jobs.field-0.0) failed.0 g.met.P.TreeDisk.laws c.store_laws.ensures c.requires c.all.ensures.later failed.1)

pub returns-in_err-told-clause-performs : goal.returns-in_err-told-clause-performs
returns-in_err-told-clause-performs g c = λ input.
    let disk = g.T.TreeDisk.disk in
    let root = c.args.root.now in
    let root' = c.all.new.disk in
    let opened = c.args.opened.now in
    let read = read_of disk root root' c.all.ensures.value in
    err_is (Performs disk g.P.TreeDisk.disk spec.list_jobs input (disks root c.args.repo.now opened) (disks root' c.args.repo.now opened)) c.from_residual-in_err-told.result failure.Memory c.from_residual-in_err-told.ensures.1
    (read_performed g.P.TreeDisk.disk g.met.T.TreeDisk.laws root root' c.args.repo.now opened spec.list_jobs input read (Err failure.Memory) tt g.met.P.TreeDisk.laws c.store_laws.ensures c.requires c.all.ensures.later tt)

pub returns-clause-performs : goal.returns-clause-performs
returns-clause-performs g c = λ input.
    let disk = g.T.TreeDisk.disk in
    let root = c.args.root.now in
    let root' = c.all.new.disk in
    let opened = c.args.opened.now in
    let read = read_of disk root root' c.all.ensures.value in
    let is = root_ok c.all.result c.in_ok-jobs.jobs (sym c.on_root.ensures ∙ c.in_ok-jobs.was) in
    let ends = found_ends disk g.P.TreeDisk.disk c.distinct_databases.ensures.unique c.one_record.ensures.one input root root' c.args.repo.now opened c.requires (λ told. (read told).same.reads) c.in_ok-jobs.jobs c.in_ok-told.field-0
    (λ told. subst (λ (r : Result (List NotedJob) Stop). IfOk r (AreNotes (disk.reads root) (job_count opened.db.oldest opened.db.newest) opened.db.newest opened.db.installed)) is (c.all.ensures.value told).answer)
    (subst (λ (l : List NotedJob). AreToldBy l c.in_ok-told.field-0) c.get.ensures c.in_ok-told.ensures) in
    read_performed g.P.TreeDisk.disk g.met.T.TreeDisk.laws root root' c.args.repo.now opened spec.list_jobs input read (Ok c.in_ok-told.field-0) ends g.met.P.TreeDisk.laws c.store_laws.ensures c.requires c.all.ensures.later tt

pub returns-in_err-jobs-clause-alone : goal.returns-in_err-jobs-clause-alone
returns-in_err-jobs-clause-alone g c = λ input.
    let disk = g.T.TreeDisk.disk in
    let root = c.args.root.now in
    let root' = c.all.new.disk in
    let opened = c.args.opened.now in
    let read = read_of disk root root' c.all.ensures.value in
    let failed = failed_ends disk g.P.TreeDisk.disk c.distinct_databases.ensures.unique c.one_record.ensures.one input root root' c.args.repo.now opened c.requires (λ told. (read told).same.reads) c.all.result c.in_err-jobs.field-0.0 (sym c.on_root.ensures ∙ c.in_err-jobs.was) c.all.ensures.stops in
    err_is (PerformsAlone disk g.P.TreeDisk.disk spec.list_jobs input (disks root c.args.repo.now opened) (disks root' c.args.repo.now opened)) c.from_residual.result c.in_err-jobs.field-0.0 c.from_residual.ensures.1
    (read_alone g.P.TreeDisk.disk g.met.T.TreeDisk.laws root root' c.args.repo.now opened spec.list_jobs input read (Err c.in_err-jobs.field-0.0) failed.0 failed.2)

pub returns-in_err-told-clause-alone : goal.returns-in_err-told-clause-alone
returns-in_err-told-clause-alone g c = λ input.
    let disk = g.T.TreeDisk.disk in
    let root = c.args.root.now in
    let root' = c.all.new.disk in
    let opened = c.args.opened.now in
    let read = read_of disk root root' c.all.ensures.value in
    err_is (PerformsAlone disk g.P.TreeDisk.disk spec.list_jobs input (disks root c.args.repo.now opened) (disks root' c.args.repo.now opened)) c.from_residual-in_err-told.result failure.Memory c.from_residual-in_err-told.ensures.1
    (read_alone g.P.TreeDisk.disk g.met.T.TreeDisk.laws root root' c.args.repo.now opened spec.list_jobs input read (Err failure.Memory) tt (λ path named. absurd (cc named)))

pub returns-clause-alone : goal.returns-clause-alone
returns-clause-alone g c = λ input.
    let disk = g.T.TreeDisk.disk in
    let root = c.args.root.now in
    let root' = c.all.new.disk in
    let opened = c.args.opened.now in
    let read = read_of disk root root' c.all.ensures.value in
    let is = root_ok c.all.result c.in_ok-jobs.jobs (sym c.on_root.ensures ∙ c.in_ok-jobs.was) in
    let ends = found_ends disk g.P.TreeDisk.disk c.distinct_databases.ensures.unique c.one_record.ensures.one input root root' c.args.repo.now opened c.requires (λ told. (read told).same.reads) c.in_ok-jobs.jobs c.in_ok-told.field-0
    (λ told. subst (λ (r : Result (List NotedJob) Stop). IfOk r (AreNotes (disk.reads root) (job_count opened.db.oldest opened.db.newest) opened.db.newest opened.db.installed)) is (c.all.ensures.value told).answer)
    (subst (λ (l : List NotedJob). AreToldBy l c.in_ok-told.field-0) c.get.ensures c.in_ok-told.ensures) in
    read_alone g.P.TreeDisk.disk g.met.T.TreeDisk.laws root root' c.args.repo.now opened spec.list_jobs input read (Ok c.in_ok-told.field-0) ends (λ path named. absurd (cc named))

pub returns-in_err-jobs-clause-records : goal.returns-in_err-jobs-clause-records
returns-in_err-jobs-clause-records g c told =
    let disk = g.T.TreeDisk.disk in
    let root = c.args.root.now in
    let db = c.args.opened.now.db in
    err_is (ListsWhole {A = List ℕ} (disk.reads root) db) c.from_residual.result c.in_err-jobs.field-0.0 c.from_residual.ensures.1
    (list_failed disk.tells (disk.reads root) db (job_count db.oldest db.newest) db.newest db.installed (Rose (disk.faults root) (disk.faults c.all.new.disk)) c.all.result c.in_err-jobs.field-0.0 (sym c.on_root.ensures ∙ c.in_err-jobs.was) c.all.ensures.stops)

pub returns-in_err-told-clause-records : goal.returns-in_err-told-clause-records
returns-in_err-told-clause-records g c told = err_is (ListsWhole {A = List ℕ} (g.T.TreeDisk.disk.reads c.args.root.now) c.args.opened.now.db) c.from_residual-in_err-told.result failure.Memory c.from_residual-in_err-told.ensures.1 tt

pub returns-clause-records : goal.returns-clause-records
returns-clause-records g c told =
    let disk = g.T.TreeDisk.disk in
    let root = c.args.root.now in
    let db = c.args.opened.now.db in
    let is = root_ok c.all.result c.in_ok-jobs.jobs (sym c.on_root.ensures ∙ c.in_ok-jobs.was) in
    told_whole c.one_record.ensures.one (disk.reads root) db c.in_ok-jobs.jobs
    (subst (λ (r : Result (List NotedJob) Stop). IfOk r (AreNotes (disk.reads root) (job_count db.oldest db.newest) db.newest db.installed)) is (c.all.ensures.value told).answer)

-- by the records
pub returns-in_err-jobs-clause-by_records : goal.returns-in_err-jobs-clause-by_records
returns-in_err-jobs-clause-by_records g c input =
    let old = disks c.args.root.now c.args.repo.now c.args.opened.now in
    let new = disks c.all.new.disk c.args.repo.now c.args.opened.now in
    err_is (AnswersByRecords g.T.TreeDisk.disk g.P.TreeDisk.disk spec.list_jobs input old new) c.from_residual.result c.in_err-jobs.field-0.0 c.from_residual.ensures.1
    (failed_by g.T.TreeDisk.disk g.P.TreeDisk.disk c.one_record.ensures.one input c.args.root.now c.all.new.disk c.args.repo.now c.args.opened.now c.all.result c.in_err-jobs.field-0.0 (sym c.on_root.ensures ∙ c.in_err-jobs.was) c.all.ensures.stops)

pub returns-in_err-told-clause-by_records : goal.returns-in_err-told-clause-by_records
returns-in_err-told-clause-by_records g c input =
    let old = disks c.args.root.now c.args.repo.now c.args.opened.now in
    let new = disks c.all.new.disk c.args.repo.now c.args.opened.now in
    err_is (AnswersByRecords g.T.TreeDisk.disk g.P.TreeDisk.disk spec.list_jobs input old new) c.from_residual-in_err-told.result failure.Memory c.from_residual-in_err-told.ensures.1 (λ told s has records. inl refl)

pub returns-clause-by_records : goal.returns-clause-by_records
returns-clause-by_records g c input =
    let disk = g.T.TreeDisk.disk in
    let opened = c.args.opened.now in
    let is = root_ok c.all.result c.in_ok-jobs.jobs (sym c.on_root.ensures ∙ c.in_ok-jobs.was) in
    found_by disk g.P.TreeDisk.disk c.one_record.ensures.one input c.args.root.now c.all.new.disk c.args.repo.now opened c.in_ok-jobs.jobs c.in_ok-told.field-0
    (λ told. subst (λ (r : Result (List NotedJob) Stop). IfOk r (AreNotes (disk.reads c.args.root.now) (job_count opened.db.oldest opened.db.newest) opened.db.newest opened.db.installed)) is (c.all.ensures.value told).answer)
    (subst (λ (l : List NotedJob). AreToldBy l c.in_ok-told.field-0) c.get.ensures c.in_ok-told.ensures)

pub returns-clause-again : goal.returns-clause-again
returns-clause-again g c =
    ready_on c.args.root.now c.all.new.disk c.args.repo.now c.args.opened.now (read_of g.T.TreeDisk.disk c.args.root.now c.all.new.disk c.all.ensures.value) c.requires

-- the root was only read
pub returns-in_err-jobs-clause-root_read : goal.returns-in_err-jobs-clause-root_read
returns-in_err-jobs-clause-root_read g c = read_of g.T.TreeDisk.disk c.args.root.now c.all.new.disk c.all.ensures.value

pub returns-in_err-told-clause-root_read : goal.returns-in_err-told-clause-root_read
returns-in_err-told-clause-root_read g c = read_of g.T.TreeDisk.disk c.args.root.now c.all.new.disk c.all.ensures.value

pub returns-clause-root_read : goal.returns-clause-root_read
returns-clause-root_read g c = read_of g.T.TreeDisk.disk c.args.root.now c.all.new.disk c.all.ensures.value
