use Rattle.std.proofs.Common.{ℕ, ◌-◌, [], sym, subst, arith}
use Rattle.job_targets.specs.cny-base.Count.{Rose}
use Rattle.rollback_stack.specs.JobReading.{IsDamagedJob, IsDamagedRecord, IsReadStop}
use Rattle.local_db.specs.Installed.{IsInstalled}
use Rattle.local_db.specs.declared.format.Format.TheVariants.{One}
use Rattle.job_targets.proofs.tree-disk.Moments.{rose_before}
use Rattle.job_targets.specs.tree-disk.Tree.{Tree}
use Rattle.rollback_stack.specs.Migrated.{AreRewritten, HasRewritten}
use Rattle.rollback_stack.specs.Numbers.{job_count}
use Rattle.rollback_stack.proofs.Later.{read_as, read_start, read_stop_then, read_stopped, read_then}
use Rattle.change_rel.proofs.cny-base.Faults.{passed_on}
use Rattle.rollback_stack.proofs.Noting.{count_is, none_of_none}
use Rattle.rollback_stack.proofs.Rewriting.{all_rewritten, damaged_after, least, most, none_added, none_rewritten, one_rewritten}
use Rattle.rollback_stack.proofs.migration.want_records.Goals as goal

pub loop-below-init : goal.loop-below-init
loop-below-init g c = record {
  later = omega arith;
  read = λ tells. read_start g.met.D.TreeDisk.laws c.args.disk.now;
  format = c.in_ok-list.ensures.format;
  installed = subst IsInstalled (sym c.in_ok-list.ensures.troves) c.requires.installed;
  rewritten = λ tells. none_rewritten (g.D.TreeDisk.disk.reads c.args.disk.now) c.args.db.now.newest c.args.db.now.installed c.in_ok-list.list.troves c.args.wants.now c.in_ok-list.ensures.troves;
}

pub returns-in_err-want_record-clause-value : goal.returns-in_err-want_record-clause-value
returns-in_err-want_record-clause-value g c tells = read_stopped g.met.D.TreeDisk.laws _ _ c.from_residual-in_err-want_record.result (c.loop-below.invariant.read tells) (c.in_err-want_record.ensures.value tells) c.from_residual-in_err-want_record.ensures.1

pub returns-in_err-want_record-clause-stops : goal.returns-in_err-want_record-clause-stops
returns-in_err-want_record-clause-stops g c =
    let told = g.D.TreeDisk.disk.tells in
    let faults = g.D.TreeDisk.disk.faults in
    let x = g.D.TreeDisk.disk.reads c.args.disk.now in
    let y = g.D.TreeDisk.disk.reads c.loop-below.disk in
    let db = c.args.db.now in
    let so_far = c.loop-below.invariant in
    let below = c.loop-below.below in
    let list = c.loop-below.list.troves in
    let number = db.newest - below in
    let count = job_count db.oldest db.newest in
    let e = c.in_err-want_record.field-0.0 in
    let counts = count_is db.oldest db.newest c.requires.ends c.if-db-eq0.false in
    let rose = Rose (faults c.loop-below.disk) (faults c.want_record.new.disk) in
    let later = Rose (faults c.args.disk.now) (faults c.want_record.new.disk) in
    passed_on (IsReadStop told (IsDamagedRecord One x count db.newest db.installed) later) e c.from_residual-in_err-want_record.result
    (read_stop_then told (IsDamagedJob One y number list) (IsDamagedRecord One x count db.newest db.installed) rose later e
    (λ tells path damaged. damaged_after x db.newest below count db.installed list c.args.wants.now c.loop-below.wants path (so_far.rewritten tells) (omega (arith, counts, c.loop-below-test.true))
    (subst (λ (t : Tree). IsDamagedJob One t number list path) (so_far.read tells).same.reads damaged))
    (λ r. rose_before (faults c.args.disk.now) (faults c.loop-below.disk) (faults c.want_record.new.disk) so_far.later r)
    c.in_err-want_record.ensures.stops) c.from_residual-in_err-want_record.ensures.1

pub loop-below-preserved : goal.loop-below-preserved
loop-below-preserved g c =
    let x = g.D.TreeDisk.disk.reads c.args.disk.now in
    let db = c.args.db.now in
    let so_far = c.loop-below.invariant in
    let below = c.loop-below.below in
    let old = c.loop-below.list.troves in
    let new = c.want_record.new.list.troves in
    let counts = count_is db.oldest db.newest c.requires.ends c.if-db-eq0.false in
    let low = least db.oldest db.newest c.requires.ends c.if-db-eq0.false in
    record {
      later = omega (arith, so_far.later, c.in_ok-want_record.ensures.later);
      read = λ tells. read_as (read_then g.met.D.TreeDisk.laws (so_far.read tells) (c.in_ok-want_record.ensures.value tells)) tt;
      format = c.in_ok-want_record.ensures.format;
      installed = c.in_ok-want_record.ensures.installed;
      rewritten = λ tells. one_rewritten x db.newest below db.installed old new c.args.wants.now c.loop-below.wants c.want_record.new.wants (so_far.rewritten tells)
          (subst (λ (t : Tree). HasRewritten t (db.newest - below) old new c.loop-below.wants c.want_record.new.wants) (so_far.read tells).same.reads (c.in_ok-want_record.ensures.value tells).answer)
          (most db.oldest db.newest c.requires.ends) (omega (arith, low, counts, c.loop-below-test.true));
    }

pub returns-clause-value : goal.returns-clause-value
returns-clause-value g c tells =
    let x = g.D.TreeDisk.disk.reads c.args.disk.now in
    let db = c.args.db.now in
    let so_far = c.loop-below.invariant in
    let counts = count_is db.oldest db.newest c.requires.ends c.if-db-eq0.false in
    let all = so_far.rewritten tells in
    read_as (so_far.read tells) (record {
      records = all.records;
      rewritten = all_rewritten x db.newest c.loop-below.below (job_count db.oldest db.newest) db.installed c.loop-below.list.troves c.args.wants.now c.loop-below.wants all
          (omega (arith, counts, c.loop-below-test.false, c.loop-below.auto.below-end));
      added = all.added;
    })

pub returns-then-db-eq0-clause-value : goal.returns-then-db-eq0-clause-value
returns-then-db-eq0-clause-value g c tells =
    let x = g.D.TreeDisk.disk.reads c.args.disk.now in
    let db = c.args.db.now in
    let none = none_of_none db.oldest db.newest c.requires.ends c.if-db-eq0.true in
    read_as (read_start g.met.D.TreeDisk.laws c.args.disk.now) (record {
      records = [];
      rewritten = subst (λ (n : ℕ). AreRewritten x n db.newest db.installed []) (sym none) tt;
      added = none_added c.args.wants.now;
    })
