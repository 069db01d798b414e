use Rattle.std.proofs.Common.{ap, sym, ◌∙◌, Some}
use Rattle.std.specs.FinMap.{get}
use Rattle.tree_disk.specs.Tree.{Name, Tree}
use Rattle.tree_disk.specs.Rows.{bytes_at, is_file_at}
use Rattle.tree_disk.proofs.StepLaws.{tests_value}
use Rattle.content_store.specs.Store.{content_path, file_bytes}
use Rattle.content_store.specs.Outcome.{IsCollision, PutStops}
use Rattle.content_store.proofs.Standing.{moved_stands, same_move, same_move_names}
use Rattle.content_store.proofs.Deciding.{decided_tree, decides_after, decides_as, decides_memory, decides_ok, decides_stop, decides_test_stop, stops_later, stops_passed, stops_test}
use Rattle.tree_disk.proofs.cny-base.Faults.{passed_memory}
use Rattle.tree_disk.proofs.Deciding.{tests_next}
use Rattle.content_store.proofs.putting.put_file.Goals as goal

pub returns-in_err-size-clause-decides : goal.returns-in_err-size-clause-decides
returns-in_err-size-clause-decides g c = decides_test_stop g.met.D.TreeDisk.laws c.in_err-size.ensures.tests c.in_err-size.ensures.stops c.from_residual.ensures.1

pub returns-in_err-name-clause-decides : goal.returns-in_err-name-clause-decides
returns-in_err-name-clause-decides g c =
    decides_test_stop g.met.D.TreeDisk.laws (tests_next g.met.D.TreeDisk.laws c.in_ok-size.ensures.tests c.in_err-name.ensures.tests) c.in_err-name.ensures.stops c.from_residual-in_err-name.ensures.1

pub returns-in_err-path-clause-decides : goal.returns-in_err-path-clause-decides
returns-in_err-path-clause-decides g c =
    decides_after g.met.D.TreeDisk.laws (tests_next g.met.D.TreeDisk.laws c.in_ok-size.ensures.tests c.in_ok-name.ensures.tests)
    (decides_memory g.met.D.TreeDisk.laws c.name_file.new.disk (passed_memory _ _ c.from_residual-in_err-path.ensures.1 c.in_err-path.ensures.memory))

pub returns-in_err-move_in-clause-decides : goal.returns-in_err-move_in-clause-decides
returns-in_err-move_in-clause-decides g c =
    let run = tests_next g.met.D.TreeDisk.laws c.in_ok-size.ensures.tests c.in_ok-name.ensures.tests in
    decides_after g.met.D.TreeDisk.laws run (decides_as (decides_stop c.in_err-move_in.ensures.decides c.from_residual-in_err-move_in.ensures.1)
    (λ tells. same_move_names _ _ _ c.args.dir.now _ c.args.from.now c.in_ok-path.ensures.path (tests_value run tells))
    (λ tells. same_move _ _ _ c.args.dir.now _ c.args.from.now c.in_ok-path.ensures.path (tests_value run tells)))

pub returns-clause-decides : goal.returns-clause-decides
returns-clause-decides g c =
    let run = tests_next g.met.D.TreeDisk.laws c.in_ok-size.ensures.tests c.in_ok-name.ensures.tests in
    decides_after g.met.D.TreeDisk.laws run (decides_as (decides_ok c.in_ok-name.name c.in_ok-move_in.ensures.decides)
    (λ tells. same_move_names _ _ _ c.args.dir.now _ c.args.from.now c.in_ok-path.ensures.path (tests_value run tells))
    (λ tells. same_move _ _ _ c.args.dir.now _ c.args.from.now c.in_ok-path.ensures.path (tests_value run tells)))

pub returns-clause-stored : goal.returns-clause-stored
returns-clause-stored g c tells =
    let run = tests_next g.met.D.TreeDisk.laws c.in_ok-size.ensures.tests c.in_ok-name.ensures.tests in
    let reads = (run.same tells).same.reads in
    ap (λ (p : Name). file_bytes (get (g.D.TreeDisk.disk.reads c.move_in.new.disk) p)) (sym (c.in_ok-path.ensures.path ∙ ap (content_path c.args.dir.now) (tests_value run tells)))
    ∙ moved_stands _ _ _ _ c.args.from.now (ap (λ (t : Tree). is_file_at t c.args.from.now) reads ∙ c.requires.from tells) (decided_tree c.in_ok-move_in.ensures.decides tells)
    ∙ ap (λ (t : Tree). Some (bytes_at t c.args.from.now)) reads

pub returns-in_err-size-clause-stops : goal.returns-in_err-size-clause-stops
returns-in_err-size-clause-stops g c = stops_test IsCollision c.from_residual.result c.in_err-size.ensures.tests c.in_err-size.ensures.stops c.from_residual.ensures.1

pub returns-in_err-name-clause-stops : goal.returns-in_err-name-clause-stops
returns-in_err-name-clause-stops g c =
    stops_test IsCollision c.from_residual-in_err-name.result (tests_next g.met.D.TreeDisk.laws c.in_ok-size.ensures.tests c.in_err-name.ensures.tests) c.in_err-name.ensures.stops c.from_residual-in_err-name.ensures.1

pub returns-in_err-move_in-clause-stops : goal.returns-in_err-move_in-clause-stops
returns-in_err-move_in-clause-stops g c =
    let run = tests_next g.met.D.TreeDisk.laws c.in_ok-size.ensures.tests c.in_ok-name.ensures.tests in
    stops_later IsCollision (g.D.TreeDisk.disk.faults c.move_in.new.disk) c.from_residual-in_err-move_in.result run.later
    (stops_passed (PutStops IsCollision (g.D.TreeDisk.disk.faults c.name_file.new.disk) (g.D.TreeDisk.disk.faults c.move_in.new.disk))
    c.from_residual-in_err-move_in.result c.in_err-move_in.ensures.stops c.from_residual-in_err-move_in.ensures.1)
