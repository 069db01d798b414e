use Rattle.std.proofs.Common.{◌≡◌, ◌∙◌, ap, subst, sym}
use Rattle.std.specs.FinMap.{get}
use Rattle.tree_journal.proofs.tree-disk.StepLaws.{tests_value}
use Rattle.trove_stream.specs.cny-base.Count.{Rose}
use Rattle.tree_journal.specs.tree-disk.Tree.{Name}
use Rattle.local_db.specs.Names.{database}
use Rattle.local_db.specs.Stores.{HoldsFile}
use Rattle.local_db.specs.declared.db.Db.{Db}
use Rattle.local_db.specs.Database.{IsDatabaseFile}
use Rattle.local_db.specs.Loading.{HoldsDb, IsLoadStop, IsTextStop, found_of}
use Rattle.local_db.proofs.Holding.{file_here, held_is_file, if_err_map, if_ok_map, load_stop}
use Rattle.local_db.proofs.loading.load.Goals as goal

pub returns-in-File-clause-only : goal.returns-in-File-clause-only
returns-in-File-clause-only g c tells =
    let x = g.D.TreeDisk.disk.reads c.args.disk.now in
    let seen = sym c.in-File.is ∙ tests_value c.in_ok-read_found.ensures.tests tells ∙ ap (λ (n : Name). found_of (get x n)) c.in_ok-path.ensures in
    let file = file_here (get x database) c.in-File.bytes seen in
    if_ok_map (λ (read : Db). (db : Db) → IsDatabaseFile db c.get.result.now → read ≡ db) (λ (loaded : Db). (db : Db) → HoldsDb x db → loaded ≡ db) c.decode_file.result
    (λ loaded is db held. is db (subst (IsDatabaseFile db) (sym c.get.ensures) (held_is_file x c.in-File.bytes file db held)))
    c.decode_file.ensures.only

pub returns-in-File-clause-stops : goal.returns-in-File-clause-stops
returns-in-File-clause-stops g c =
    let told = g.D.TreeDisk.disk.tells in
    let x = g.D.TreeDisk.disk.reads c.args.disk.now in
    let rose = Rose (g.D.TreeDisk.disk.faults c.args.disk.now) (g.D.TreeDisk.disk.faults c.read_found.new.disk) in
    if_err_map (IsTextStop c.in_ok-path.path c.get.result.now) (IsLoadStop told x rose) c.decode_file.result
    (load_stop told x rose c.in_ok-path.path c.get.result.now c.in_ok-path.ensures
    (λ tells. subst (HoldsFile x database) (sym c.get.ensures) (file_here (get x database) c.in-File.bytes
    (sym c.in-File.is ∙ tests_value c.in_ok-read_found.ensures.tests tells ∙ ap (λ (n : Name). found_of (get x n)) c.in_ok-path.ensures))))
    c.decode_file.ensures.stops
