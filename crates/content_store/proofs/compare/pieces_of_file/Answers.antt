use Rattle.std.proofs.Common.{◌≤◌, ◌-◌, length, length-drop, length-take, drop, Ok, refl, sym, ap, ◌∙◌, arith}
use Rattle.tree_disk.specs.Rows.{bytes_at}
use Rattle.tree_disk.proofs.StepLaws.{tests_answer, tests_value}
use Rattle.content_store.proofs.Differences.{behind_found, behind_longer, behind_on}
use Rattle.tree_disk.proofs.cny-base.Lists.{rest_is}
use Rattle.tree_disk.proofs.Deciding.{tests_next}
use Rattle.content_store.proofs.compare.pieces_of_file.Goals as goal

pub returns-in-Some-clause-tests : goal.returns-in-Some-clause-tests
returns-in-Some-clause-tests g c =
    let file = bytes_at (g.D.TreeDisk.disk.reads c.args.disk.now) c.args.path.now in
    let run = tests_next g.met.D.TreeDisk.laws c.pieces.invariant.so_far c.in_ok-found.ensures.tests in
    tests_answer run (λ tells. ap Ok (behind_found file c.args.bytes.now _ c.pieces.at c.min-room.result c.in-Some.place (c.pieces.invariant.behind tells) (rest_is c.args.bytes.now c.pieces.at c.min-room.result) (sym (tests_value run tells) ∙ c.in-Some.is)))

pub pieces-preserved : goal.pieces-preserved
pieces-preserved g c =
    let file = bytes_at (g.D.TreeDisk.disk.reads c.args.disk.now) c.args.path.now in
    let run = tests_next g.met.D.TreeDisk.laws c.pieces.invariant.so_far c.in_ok-found.ensures.tests in
    let room : c.min-room.result ≤ length (drop c.pieces.at c.args.bytes.now) = omega (arith, c.min-room.ensures, length-take (length c.args.bytes.now - c.pieces.at) (drop c.pieces.at c.args.bytes.now)) in
    record {
      so_far = tests_answer run (λ tells. refl);
      behind = λ tells. behind_on file c.args.bytes.now _ c.pieces.at c.min-room.result (c.pieces.invariant.behind tells) (rest_is c.args.bytes.now c.pieces.at c.min-room.result) room (sym (tests_value run tells) ∙ c.in_default.is);
      within = omega (arith, room, length-drop c.pieces.at c.args.bytes.now, c.pieces.invariant.within);
    }

pub returns-then-size-at-clause-tests : goal.returns-then-size-at-clause-tests
returns-then-size-at-clause-tests g c =
    tests_answer c.pieces.invariant.so_far (λ tells. ap Ok (behind_longer _ c.args.bytes.now c.pieces.at (c.pieces.invariant.behind tells) (omega arith) (omega (arith, c.requires.size tells))))
