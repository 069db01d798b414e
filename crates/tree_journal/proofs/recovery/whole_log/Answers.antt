use Rattle.tree_journal.specs.Recovery.{log_damaged}
use Rattle.tree_journal.proofs.OwnNames.{log_part, staged_shorter}
use Rattle.tree_journal.proofs.Recovering.{fault_stops, stops_on, read_start, read_ended, reads_joined, stopped_from}
use Rattle.tree_journal.proofs.Finding.{if_ok_err as err_if_ok}
use Rattle.journal_log.proofs.StagedLaws.{p_part as staged_part}
use Rattle.tree_journal.proofs.recovery.whole_log.Goals as goal

pub own_path-requires-clause-part : goal.own_path-requires-clause-part
own_path-requires-clause-part g c = log_part

pub returns-in_err-log_path-clause-reads : goal.returns-in_err-log_path-clause-reads
returns-in_err-log_path-clause-reads g c = λ tells. read_start _ g.met.D.TreeDisk.laws c.args.disk.now (err_if_ok _ _ _ c.from_residual.ensures.1)

pub own_path-requires-2-clause-part : goal.own_path-requires-2-clause-part
own_path-requires-2-clause-part g c = staged_part

pub own_path-requires-2-clause-short : goal.own_path-requires-2-clause-short
own_path-requires-2-clause-short g c = staged_shorter c.args.base.now c.requires.short

pub returns-in_err-dir-clause-reads : goal.returns-in_err-dir-clause-reads
returns-in_err-dir-clause-reads g c = λ tells. read_start _ g.met.D.TreeDisk.laws c.args.disk.now (err_if_ok _ _ _ c.from_residual-in_err-dir.ensures.1)

pub returns-in_err-puts-clause-reads : goal.returns-in_err-puts-clause-reads
returns-in_err-puts-clause-reads g c = λ tells. read_ended (c.in_err-puts.ensures.finds.found tells) (err_if_ok _ _ _ c.from_residual-in_err-puts.ensures.1)

pub returns-in_err-puts-clause-causes : goal.returns-in_err-puts-clause-causes
returns-in_err-puts-clause-causes g c = stopped_from g.D.TreeDisk.disk c.args.base.now c.args.disk.now c.read_log.new.disk _ _ c.from_residual-in_err-puts.ensures.1 (fault_stops g.D.TreeDisk.disk c.args.base.now c.args.disk.now c.read_log.new.disk _ c.in_err-puts.ensures.finds.stops)

pub returns-in_default-clause-reads : goal.returns-in_default-clause-reads
returns-in_default-clause-reads g c = λ tells. read_ended (c.in_ok-puts.ensures.finds.found tells) tt

pub returns-in_default-clause-causes : goal.returns-in_default-clause-causes
returns-in_default-clause-causes g c = λ tells.
    let found = c.in_ok-puts.ensures.finds.found tells in
    (log_damaged (c.requires.flag_set tells) c.in_ok-log_path.ensures.path (rw c.in_default.is at found.answer), found.same.reads)

pub check_log-requires-clause-loggable : goal.check_log-requires-clause-loggable
check_log-requires-clause-loggable g c = rw c.in-Some.is at c.in_ok-puts.ensures.loggable

pub check_log-requires-clause-flag_set : goal.check_log-requires-clause-flag_set
check_log-requires-clause-flag_set g c = λ tells. rw (c.in_ok-puts.ensures.finds.found tells).same.reads (c.requires.flag_set tells)

pub check_log-requires-clause-found : goal.check_log-requires-clause-found
check_log-requires-clause-found g c = λ tells. rw (c.in_ok-puts.ensures.finds.found tells).same.reads (rw c.in-Some.is at (c.in_ok-puts.ensures.finds.found tells).answer)

pub returns-in_err-check_log-clause-reads : goal.returns-in_err-check_log-clause-reads
returns-in_err-check_log-clause-reads g c = λ tells. reads_joined g.met.D.TreeDisk.laws (c.in_ok-puts.ensures.finds.found tells) (c.in_err-check_log.ensures.reads tells) (err_if_ok _ _ _ c.from_residual-in_err-check_log.ensures.1)

pub returns-in_err-check_log-clause-causes : goal.returns-in_err-check_log-clause-causes
returns-in_err-check_log-clause-causes g c = stopped_from g.D.TreeDisk.disk c.args.base.now c.args.disk.now c.check_log.new.disk _ _ c.from_residual-in_err-check_log.ensures.1
    (stops_on g.D.TreeDisk.disk c.args.base.now c.args.disk.now c.read_log.new.disk c.check_log.new.disk _ c.in_ok-puts.ensures.finds.later (λ tells. (c.in_ok-puts.ensures.finds.found tells).same.reads) c.in_err-check_log.ensures.causes)

pub returns-clause-reads : goal.returns-clause-reads
returns-clause-reads g c = λ tells. reads_joined g.met.D.TreeDisk.laws (c.in_ok-puts.ensures.finds.found tells) (c.in_ok-check_log.ensures.reads tells)
    (rw (c.in_ok-puts.ensures.finds.found tells).same.reads at (c.in_ok-check_log.ensures.reads tells).answer)

pub returns-clause-loggable : goal.returns-clause-loggable
returns-clause-loggable g c = rw c.in-Some.is at c.in_ok-puts.ensures.loggable
