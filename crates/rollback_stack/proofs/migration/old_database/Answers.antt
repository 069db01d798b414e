use Rattle.std.proofs.Common.{◌≡◌, IsTrue, Some, List, ℕ, sym, ◌∙◌, ap}
use Rattle.std.specs.FinMap.{get}
use Rattle.job_targets.specs.cny-base.Count.{Rose}
use Rattle.job_targets.specs.content-store.Store.{file_bytes}
use Rattle.job_targets.specs.tree-disk.Tree.{Name}
use Rattle.local_db.specs.Names.{database}
use Rattle.local_db.proofs.Holding.{if_err_map, if_ok_map}
use Rattle.local_db.proofs.tree-disk.StepLaws.{tests_value}
use Rattle.rollback_stack.specs.JobReading.{IsReadStop}
use Rattle.rollback_stack.specs.Migrated.{IsFileStop, IsNoDatabase, IsOldDatabase, IsOldIn}
use Rattle.rollback_stack.specs.Seen.{seen_as}
use Rattle.rollback_stack.proofs.Later.{read_as}
use Rattle.rollback_stack.proofs.Migrating.{file_stop, old_value, seen_current, seen_file, seen_other}
use Rattle.rollback_stack.proofs.migration.old_database.Goals as goal

pub returns-in-Current-clause-value : goal.returns-in-Current-clause-value
returns-in-Current-clause-value g c tells =
    let x = g.D.TreeDisk.disk.reads c.args.disk.now in
    read_as (c.in_ok-seen_at.ensures.tests.same tells)
    (seen_current (get x database) (sym c.in-Current.is ∙ tests_value c.in_ok-seen_at.ensures.tests tells ∙ ap (λ (n : Name). seen_as (get x n)) c.in_ok-path.ensures))

pub returns-in-File-clause-value : goal.returns-in-File-clause-value
returns-in-File-clause-value g c tells =
    let x = g.D.TreeDisk.disk.reads c.args.disk.now in
    let bytes = c.get.result.now in
    let file : file_bytes (get x database) ≡ Some bytes =
    seen_file c.in-File.bytes (get x database) (sym c.in-File.is ∙ tests_value c.in_ok-seen_at.ensures.tests tells ∙ ap (λ (n : Name). seen_as (get x n)) c.in_ok-path.ensures)
    ∙ ap (λ (l : List ℕ). Some l) (sym c.get.ensures) in
    read_as (c.in_ok-seen_at.ensures.tests.same tells)
    (if_ok_map (IsOldIn bytes) (IsOldDatabase x) c.old_file.result (old_value x bytes file) c.old_file.ensures.value)

pub returns-in-File-clause-stops : goal.returns-in-File-clause-stops
returns-in-File-clause-stops g c =
    let told = g.D.TreeDisk.disk.tells in
    let x = g.D.TreeDisk.disk.reads c.args.disk.now in
    let rose = Rose (g.D.TreeDisk.disk.faults c.args.disk.now) (g.D.TreeDisk.disk.faults c.seen_at.new.disk) in
    let path = c.in_ok-path.path in
    let bytes = c.get.result.now in
    if_err_map (IsFileStop path bytes) (IsReadStop told (IsNoDatabase x) rose) c.old_file.result
    (λ e is. file_stop told x rose path bytes e c.in_ok-path.ensures
    (λ tells.
    seen_file c.in-File.bytes (get x database) (sym c.in-File.is ∙ tests_value c.in_ok-seen_at.ensures.tests tells ∙ ap (λ (n : Name). seen_as (get x n)) c.in_ok-path.ensures)
    ∙ ap (λ (l : List ℕ). Some l) (sym c.get.ensures)) is)
    c.old_file.ensures.stops

pub returns-in-Other-clause-stops : goal.returns-in-Other-clause-stops
returns-in-Other-clause-stops g c tells =
    let x = g.D.TreeDisk.disk.reads c.args.disk.now in
    seen_other x c.in_ok-path.path c.in_ok-path.ensures (sym c.in-Other.is ∙ tests_value c.in_ok-seen_at.ensures.tests tells ∙ ap (λ (n : Name). seen_as (get x n)) c.in_ok-path.ensures)
