use Rattle.std.proofs.Common.{IsTrue, List, [], ◌∷◌, ◌++◌, All, subst}
use Rattle.rollback_stack.specs.journal-log.declared.put.Put.{Put}
use Rattle.rollback_stack.specs.journal-log.Targets.{node_of}
use Rattle.rollback_stack.specs.journal-log.WriteSet.{Rises}
use Rattle.rollback_stack.specs.tree-disk.Tree.{may_stand}
use Rattle.local_db.specs.declared.format.Format.TheVariants.{Two}
use Rattle.local_db.specs.Steps.{after_job, IsUnion}
use Rattle.rollback_stack.specs.Saving.{dropped_below}
use Rattle.system_core.specs.JobWriting.{database_write}
use Rattle.system_core.proofs.JobRunning.{after_stored, can_write, joined, next_job, only_pushed, settled}
use Rattle.system_core.proofs.Resting.{put_fixed, put_ready}
use Rattle.system_core.proofs.JobEnding.{last_stops}
use Rattle.system_core.proofs.TreesMoved.{job_moves, job_targets, saved_moves}
use Rattle.job_targets.specs.Carrying.{whole_of}
use Rattle.job_targets.proofs.WholeWrites.{held_whole}
use Rattle.system_core.proofs.StagedWrites.{all_means, pushed_given, pushed_stays, whole_free, whole_given, whole_rising, whole_union}
use Rattle.system_core.proofs.job_writing.put_job.Goals as goal

pub push_puts-requires-clause-dir : goal.push_puts-requires-clause-dir
push_puts-requires-clause-dir g c tells = (c.requires.1.1.1.1.1.1.1.1.1 tells).pinned

pub returns-in_err-pushed-clause-goes : goal.returns-in_err-pushed-clause-goes
returns-in_err-pushed-clause-goes g c tells s stores from = only_pushed tells (c.requires.1.1.1.1.1.1.1.1.1 tells) (c.in_err-pushed.ensures.confined tells) c.in_err-pushed.ensures.keeps stores from _ c.from_residual.ensures.1

pub returns-in_err-all-clause-goes : goal.returns-in_err-all-clause-goes
returns-in_err-all-clause-goes g c tells s stores from = only_pushed tells (c.requires.1.1.1.1.1.1.1.1.1 tells) (c.in_ok-pushed.ensures.confined tells) c.in_ok-pushed.ensures.keeps stores from _ c.from_residual-in_err-all.ensures.1

pub write_whole-requires : goal.write_whole-requires
write_whole-requires g c = λ κs lives. (
  lives,
  (
    (λ tells.
        let stand = (held_whole (g.T.TreeDisk.disk.reads c.push_puts.new.disk) (g.met.T.TreeDisk.laws.reads_well_formed c.push_puts.new.disk) c.in_ok-all.all (subst (All (λ (p : Put). IsTrue (may_stand (node_of p.want)))) c.get.ensures.value c.put_ranges.ensures)) in
        can_write g.met.T.TreeDisk.laws g.whole c.args.before.now c.args.entries.now c.args.db.now (whole_rising (g.T.TreeDisk.disk.reads c.args.root.now) c.args.targets g.whole (c.requires.1.1.1.1.1.1.1.0 tells) (subst Rises c.get-items.ensures.value c.get-items.ensures.rises)) (whole_free (g.T.TreeDisk.disk.reads c.args.root.now) c.args.targets g.whole (c.requires.1.1.1.1.1.1.1.0 tells) c.requires.1.1.1.1.1.1.0) (whole_given (g.T.TreeDisk.disk.reads c.args.root.now) c.args.targets g.whole (c.requires.1.1.1.1.1.1.1.0 tells)) c.requires.1.0 c.requires.1.1.1.1.0
        c.args.root.now c.push_puts.new.disk (c.requires.1.1.1.1.1.1.1.1.1 tells) (c.in_ok-pushed.ensures.confined tells)
        c.in_ok-pushed.pushed (whole_of (g.T.TreeDisk.disk.reads c.push_puts.new.disk) c.in_ok-all.all) c.args.bytes (c.in_ok-pushed.ensures.pushed tells) (whole_union (g.T.TreeDisk.disk.reads c.args.root.now) c.args.targets g.whole (c.requires.1.1.1.1.1.1.1.0 tells) (g.T.TreeDisk.disk.reads c.push_puts.new.disk) (pushed_stays g.T.TreeDisk.disk c.args.db.now c.args.root.now c.push_puts.new.disk (c.in_ok-pushed.ensures.confined tells)) c.in_ok-all.all (c.in_ok-pushed.pushed ++ database_write c.args.bytes ∷ []) (pushed_given c.in_ok-pushed.pushed c.args.bytes c.in_ok-pushed.ensures.written) c.in_ok-all.ensures) stand),
    (λ tells. all_means (g.T.TreeDisk.disk.reads c.args.root.now) c.args.targets g.whole (c.requires.1.1.1.1.1.1.1.0 tells) (g.T.TreeDisk.disk.reads c.push_puts.new.disk) (pushed_stays g.T.TreeDisk.disk c.args.db.now c.args.root.now c.push_puts.new.disk (c.in_ok-pushed.ensures.confined tells)) c.in_ok-all.all (c.in_ok-pushed.pushed ++ database_write c.args.bytes ∷ []) (pushed_given c.in_ok-pushed.pushed c.args.bytes c.in_ok-pushed.ensures.written) c.in_ok-all.ensures),
  ),
)

pub returns-clause-goes : goal.returns-clause-goes
returns-clause-goes g c tells s stores from =
    let can = c.requires.1.1.1.1.1.1.1.1.1 tells in
    let before = c.args.before.now in
    let db = c.args.db.now in
    let puts = g.whole in
    let stand = (held_whole (g.T.TreeDisk.disk.reads c.push_puts.new.disk) (g.met.T.TreeDisk.laws.reads_well_formed c.push_puts.new.disk) c.in_ok-all.all (subst (All (λ (p : Put). IsTrue (may_stand (node_of p.want)))) c.get.ensures.value c.put_ranges.ensures)) in
    let rises = whole_rising (g.T.TreeDisk.disk.reads c.args.root.now) c.args.targets g.whole (c.requires.1.1.1.1.1.1.1.0 tells) (subst Rises c.get-items.ensures.value c.get-items.ensures.rises) in
    let confined = c.in_ok-pushed.ensures.confined tells in
    let keeps = c.in_ok-pushed.ensures.keeps Two s (next_job puts before db s from) tells (λ q counted. can.synced q) stores in
    let pushed = c.in_ok-pushed.ensures.pushed tells in
    let union = subst (λ (l : List Put). IsUnion (whole_of (g.T.TreeDisk.disk.reads c.push_puts.new.disk) c.in_ok-all.all) puts (l ++ database_write c.args.bytes ∷ [])) pushed.puts_are (whole_union (g.T.TreeDisk.disk.reads c.args.root.now) c.args.targets g.whole (c.requires.1.1.1.1.1.1.1.0 tells) (g.T.TreeDisk.disk.reads c.push_puts.new.disk) (pushed_stays g.T.TreeDisk.disk c.args.db.now c.args.root.now c.push_puts.new.disk (c.in_ok-pushed.ensures.confined tells)) c.in_ok-all.all (c.in_ok-pushed.pushed ++ database_write c.args.bytes ∷ []) (pushed_given c.in_ok-pushed.pushed c.args.bytes c.in_ok-pushed.ensures.written) c.in_ok-all.ensures) in
    joined db.newest (dropped_below db.oldest) puts c.args.root.now c.push_puts.new.disk can.flag_clear can.synced confined s (after_job puts db.installed s) keeps
    (whole_of (g.T.TreeDisk.disk.reads c.push_puts.new.disk) c.in_ok-all.all) db.newest pushed.mode pushed.bytes c.args.bytes union c.write_whole.new.root c.write_whole.result c.in_ok-pushed.ensures.later c.write_whole.ensures.later
    (c.write_whole.ensures.goes tells Two Two s (after_job puts db.installed s) keeps.now
    (settled g.met.T.TreeDisk.laws puts before c.args.entries.now db rises (whole_free (g.T.TreeDisk.disk.reads c.args.root.now) c.args.targets g.whole (c.requires.1.1.1.1.1.1.1.0 tells) c.requires.1.1.1.1.1.1.0) (whole_given (g.T.TreeDisk.disk.reads c.args.root.now) c.args.targets g.whole (c.requires.1.1.1.1.1.1.1.0 tells)) c.requires.1.0 c.requires.1.1.1.1.0 c.args.root.now c.push_puts.new.disk can confined
    c.in_ok-pushed.pushed (whole_of (g.T.TreeDisk.disk.reads c.push_puts.new.disk) c.in_ok-all.all) c.args.bytes pushed (whole_union (g.T.TreeDisk.disk.reads c.args.root.now) c.args.targets g.whole (c.requires.1.1.1.1.1.1.1.0 tells) (g.T.TreeDisk.disk.reads c.push_puts.new.disk) (pushed_stays g.T.TreeDisk.disk c.args.db.now c.args.root.now c.push_puts.new.disk (c.in_ok-pushed.ensures.confined tells)) c.in_ok-all.all (c.in_ok-pushed.pushed ++ database_write c.args.bytes ∷ []) (pushed_given c.in_ok-pushed.pushed c.args.bytes c.in_ok-pushed.ensures.written) c.in_ok-all.ensures) stand s stores from c.requires.1.1.1.1.1.1.1.1.0)
    (after_stored g.met.T.TreeDisk.laws puts before c.args.entries.now db rises (whole_free (g.T.TreeDisk.disk.reads c.args.root.now) c.args.targets g.whole (c.requires.1.1.1.1.1.1.1.0 tells) c.requires.1.1.1.1.1.1.0) (whole_given (g.T.TreeDisk.disk.reads c.args.root.now) c.args.targets g.whole (c.requires.1.1.1.1.1.1.1.0 tells)) c.requires.1.0 c.requires.1.1.1.1.0 c.args.root.now c.push_puts.new.disk can confined
    c.in_ok-pushed.pushed (whole_of (g.T.TreeDisk.disk.reads c.push_puts.new.disk) c.in_ok-all.all) c.args.bytes pushed (whole_union (g.T.TreeDisk.disk.reads c.args.root.now) c.args.targets g.whole (c.requires.1.1.1.1.1.1.1.0 tells) (g.T.TreeDisk.disk.reads c.push_puts.new.disk) (pushed_stays g.T.TreeDisk.disk c.args.db.now c.args.root.now c.push_puts.new.disk (c.in_ok-pushed.ensures.confined tells)) c.in_ok-all.all (c.in_ok-pushed.pushed ++ database_write c.args.bytes ∷ []) (pushed_given c.in_ok-pushed.pushed c.args.bytes c.in_ok-pushed.ensures.written) c.in_ok-all.ensures) stand s stores from c.requires.1.1.1.1.1.1.1.1.0))

pub returns-clause-stops : goal.returns-clause-stops
returns-clause-stops g c = last_stops g.T.TreeDisk.disk.tells _ _ _ c.write_whole.result c.in_ok-pushed.ensures.later c.write_whole.ensures.failed c.write_whole.ensures.stops

pub returns-clause-again : goal.returns-clause-again
returns-clause-again g c tells =
    put_ready g.whole c.args.before.now c.args.entries.now c.args.db.now (whole_free (g.T.TreeDisk.disk.reads c.args.root.now) c.args.targets g.whole (c.requires.1.1.1.1.1.1.1.0 tells) c.requires.1.1.1.1.1.1.0) c.requires.1.0 c.args.root.now c.push_puts.new.disk c.write_whole.new.root (c.requires.1.1.1.1.1.1.1.1.1 tells) (c.in_ok-pushed.ensures.confined tells)
    c.in_ok-pushed.pushed (whole_of (g.T.TreeDisk.disk.reads c.push_puts.new.disk) c.in_ok-all.all) c.args.bytes (c.in_ok-pushed.ensures.pushed tells) (whole_union (g.T.TreeDisk.disk.reads c.args.root.now) c.args.targets g.whole (c.requires.1.1.1.1.1.1.1.0 tells) (g.T.TreeDisk.disk.reads c.push_puts.new.disk) (pushed_stays g.T.TreeDisk.disk c.args.db.now c.args.root.now c.push_puts.new.disk (c.in_ok-pushed.ensures.confined tells)) c.in_ok-all.all (c.in_ok-pushed.pushed ++ database_write c.args.bytes ∷ []) (pushed_given c.in_ok-pushed.pushed c.args.bytes c.in_ok-pushed.ensures.written) c.in_ok-all.ensures) c.requires.1.1.1.1.1.1.1.1.0 c.write_whole.result (c.write_whole.ensures.put tells)

pub returns-clause-fixed : goal.returns-clause-fixed
returns-clause-fixed g c tells =
    put_fixed g.whole c.args.before.now c.args.entries.now c.args.db.now (whole_free (g.T.TreeDisk.disk.reads c.args.root.now) c.args.targets g.whole (c.requires.1.1.1.1.1.1.1.0 tells) c.requires.1.1.1.1.1.1.0) c.requires.1.0 c.args.root.now c.push_puts.new.disk c.write_whole.new.root (c.requires.1.1.1.1.1.1.1.1.1 tells) (c.in_ok-pushed.ensures.confined tells)
    c.in_ok-pushed.pushed (whole_of (g.T.TreeDisk.disk.reads c.push_puts.new.disk) c.in_ok-all.all) c.args.bytes (c.in_ok-pushed.ensures.pushed tells) (whole_union (g.T.TreeDisk.disk.reads c.args.root.now) c.args.targets g.whole (c.requires.1.1.1.1.1.1.1.0 tells) (g.T.TreeDisk.disk.reads c.push_puts.new.disk) (pushed_stays g.T.TreeDisk.disk c.args.db.now c.args.root.now c.push_puts.new.disk (c.in_ok-pushed.ensures.confined tells)) c.in_ok-all.all (c.in_ok-pushed.pushed ++ database_write c.args.bytes ∷ []) (pushed_given c.in_ok-pushed.pushed c.args.bytes c.in_ok-pushed.ensures.written) c.in_ok-all.ensures) c.requires.1.1.1.1.1.1.1.1.0 c.write_whole.result (c.write_whole.ensures.put tells)

pub returns-clause-outer : goal.returns-clause-outer
returns-clause-outer g c tells =
    job_targets g.met.T.TreeDisk.laws g.whole c.args.before.now c.args.entries.now c.args.db.now (whole_rising (g.T.TreeDisk.disk.reads c.args.root.now) c.args.targets g.whole (c.requires.1.1.1.1.1.1.1.0 tells) (subst Rises c.get-items.ensures.value c.get-items.ensures.rises)) (whole_free (g.T.TreeDisk.disk.reads c.args.root.now) c.args.targets g.whole (c.requires.1.1.1.1.1.1.1.0 tells) c.requires.1.1.1.1.1.1.0) (whole_given (g.T.TreeDisk.disk.reads c.args.root.now) c.args.targets g.whole (c.requires.1.1.1.1.1.1.1.0 tells)) c.requires.1.0 c.requires.1.1.1.1.0
    c.args.root.now c.push_puts.new.disk (c.requires.1.1.1.1.1.1.1.1.1 tells) (c.in_ok-pushed.ensures.confined tells)
    c.in_ok-pushed.pushed (whole_of (g.T.TreeDisk.disk.reads c.push_puts.new.disk) c.in_ok-all.all) c.args.bytes (c.in_ok-pushed.ensures.pushed tells) (whole_union (g.T.TreeDisk.disk.reads c.args.root.now) c.args.targets g.whole (c.requires.1.1.1.1.1.1.1.0 tells) (g.T.TreeDisk.disk.reads c.push_puts.new.disk) (pushed_stays g.T.TreeDisk.disk c.args.db.now c.args.root.now c.push_puts.new.disk (c.in_ok-pushed.ensures.confined tells)) c.in_ok-all.all (c.in_ok-pushed.pushed ++ database_write c.args.bytes ∷ []) (pushed_given c.in_ok-pushed.pushed c.args.bytes c.in_ok-pushed.ensures.written) c.in_ok-all.ensures) ((held_whole (g.T.TreeDisk.disk.reads c.push_puts.new.disk) (g.met.T.TreeDisk.laws.reads_well_formed c.push_puts.new.disk) c.in_ok-all.all (subst (All (λ (p : Put). IsTrue (may_stand (node_of p.want)))) c.get.ensures.value c.put_ranges.ensures))) c.requires.1.1.1.1.1.1.1.1.0 c.write_whole.new.root c.write_whole.result (c.write_whole.ensures.put tells)

pub returns-clause-moments : goal.returns-clause-moments
returns-clause-moments g c tells =
    job_moves g.met.T.TreeDisk.laws g.whole c.args.before.now c.args.entries.now c.args.db.now (whole_rising (g.T.TreeDisk.disk.reads c.args.root.now) c.args.targets g.whole (c.requires.1.1.1.1.1.1.1.0 tells) (subst Rises c.get-items.ensures.value c.get-items.ensures.rises)) (whole_free (g.T.TreeDisk.disk.reads c.args.root.now) c.args.targets g.whole (c.requires.1.1.1.1.1.1.1.0 tells) c.requires.1.1.1.1.1.1.0) (whole_given (g.T.TreeDisk.disk.reads c.args.root.now) c.args.targets g.whole (c.requires.1.1.1.1.1.1.1.0 tells)) c.requires.1.0 c.requires.1.1.1.1.0
    c.args.root.now c.push_puts.new.disk (c.requires.1.1.1.1.1.1.1.1.1 tells) (c.in_ok-pushed.ensures.confined tells)
    c.in_ok-pushed.pushed (whole_of (g.T.TreeDisk.disk.reads c.push_puts.new.disk) c.in_ok-all.all) c.args.bytes (c.in_ok-pushed.ensures.pushed tells) (whole_union (g.T.TreeDisk.disk.reads c.args.root.now) c.args.targets g.whole (c.requires.1.1.1.1.1.1.1.0 tells) (g.T.TreeDisk.disk.reads c.push_puts.new.disk) (pushed_stays g.T.TreeDisk.disk c.args.db.now c.args.root.now c.push_puts.new.disk (c.in_ok-pushed.ensures.confined tells)) c.in_ok-all.all (c.in_ok-pushed.pushed ++ database_write c.args.bytes ∷ []) (pushed_given c.in_ok-pushed.pushed c.args.bytes c.in_ok-pushed.ensures.written) c.in_ok-all.ensures) ((held_whole (g.T.TreeDisk.disk.reads c.push_puts.new.disk) (g.met.T.TreeDisk.laws.reads_well_formed c.push_puts.new.disk) c.in_ok-all.all (subst (All (λ (p : Put). IsTrue (may_stand (node_of p.want)))) c.get.ensures.value c.put_ranges.ensures))) c.requires.1.1.1.1.1.1.1.1.0 c.write_whole.new.root (c.write_whole.ensures.writes tells)

pub returns-in_err-pushed-clause-moments : goal.returns-in_err-pushed-clause-moments
returns-in_err-pushed-clause-moments g c tells =
    let can = c.requires.1.1.1.1.1.1.1.1.1 tells in
    saved_moves c.args.db.now.newest (dropped_below c.args.db.now.oldest) g.whole c.args.root.now c.push_puts.new.disk can.flag_clear can.synced (c.in_err-pushed.ensures.confined tells) c.args.db.now

pub returns-in_err-all-clause-moments : goal.returns-in_err-all-clause-moments
returns-in_err-all-clause-moments g c tells =
    let can = c.requires.1.1.1.1.1.1.1.1.1 tells in
    saved_moves c.args.db.now.newest (dropped_below c.args.db.now.oldest) g.whole c.args.root.now c.push_puts.new.disk can.flag_clear can.synced (c.in_ok-pushed.ensures.confined tells) c.args.db.now
