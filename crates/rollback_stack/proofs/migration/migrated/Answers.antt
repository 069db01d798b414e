use Rattle.std.proofs.Common.{subst}
use Rattle.job_targets.specs.cny-base.Count.{Rose}
use Rattle.job_targets.proofs.tree-disk.Moments.{rose_before}
use Rattle.job_targets.specs.tree-disk.Tree.{Tree}
use Rattle.rollback_stack.specs.Migrated.{AreWritesOf, IsMigratedStop, IsOldDatabase}
use Rattle.rollback_stack.proofs.Later.{read_as, read_then}
use Rattle.rollback_stack.proofs.Migrating.{migration_is, no_database_stop, records_stop}
use Rattle.change_rel.proofs.cny-base.Faults.{passed_on}
use Rattle.rollback_stack.proofs.migration.migrated.Goals as goal

pub returns-in_err-found-clause-stops : goal.returns-in_err-found-clause-stops
returns-in_err-found-clause-stops g c =
    let told = g.D.TreeDisk.disk.tells in
    let x = g.D.TreeDisk.disk.reads c.args.disk.now in
    let rose = Rose (g.D.TreeDisk.disk.faults c.args.disk.now) (g.D.TreeDisk.disk.faults c.old_database.new.disk) in
    let e = c.in_err-found.field-0.0 in
    passed_on (IsMigratedStop told x rose) e c.from_residual.result (no_database_stop told x rose e c.in_err-found.ensures.stops) c.from_residual.ensures.1

pub returns-in_err-puts-clause-stops : goal.returns-in_err-puts-clause-stops
returns-in_err-puts-clause-stops g c =
    let told = g.D.TreeDisk.disk.tells in
    let faults = g.D.TreeDisk.disk.faults in
    let x = g.D.TreeDisk.disk.reads c.args.disk.now in
    let y = g.D.TreeDisk.disk.reads c.old_database.new.disk in
    let db = c.in-Some.db in
    let rose = Rose (faults c.old_database.new.disk) (faults c.writes_of.new.disk) in
    let later = Rose (faults c.args.disk.now) (faults c.writes_of.new.disk) in
    let e = c.in_err-puts.field-0.0 in
    passed_on (IsMigratedStop told x later) e c.from_residual-in_err-puts.result
    (records_stop told x y db rose later e
    (λ tells. (subst (IsOldDatabase x) c.in-Some.is (c.in_ok-found.ensures.value tells).answer).1)
    (λ r. rose_before (faults c.args.disk.now) (faults c.old_database.new.disk) (faults c.writes_of.new.disk) c.in_ok-found.ensures.later r)
    (λ tells. (c.in_ok-found.ensures.value tells).same.reads) c.in_err-puts.ensures.stops) c.from_residual-in_err-puts.ensures.1

pub returns-clause-value : goal.returns-clause-value
returns-clause-value g c tells =
    let x = g.D.TreeDisk.disk.reads c.args.disk.now in
    let db = c.in-Some.db in
    let first = c.in_ok-found.ensures.value tells in
    let second = c.in_ok-puts.ensures.value tells in
    let old = subst (IsOldDatabase x) c.in-Some.is first.answer in
    read_as (read_then g.met.D.TreeDisk.laws first second)
    (old.0, migration_is x db c.in_ok-puts.puts old.1 (subst (λ (t : Tree). AreWritesOf t db c.in_ok-puts.puts) first.same.reads second.answer))
