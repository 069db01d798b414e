use Rattle.std.proofs.Common.{◌≡◌, ◌-◌, ◌≤◌, length, drop, take, Ok, refl, sym, ap, ◌∙◌, arith}
use Rattle.std.proofs.lemmas.List.{length-take, length-drop, take_all}
use Rattle.tree_disk.specs.cny-base.Compare.{count_of_differing}
use Rattle.tree_disk.specs.Rows.{bytes_at}
use Rattle.tree_disk.specs.Tree.{Tree}
use Rattle.tree_disk.proofs.StepLaws.{tests_answer, tests_start, tests_value}
use Rattle.tree_scan.proofs.Counts.{counted_on, differing_none, differing_past, piece_read}
use Rattle.tree_disk.proofs.Deciding.{tests_next}
use Rattle.tree_scan.proofs.counting.pieces_differing.Goals as goal

pub pieces-init : goal.pieces-init
pieces-init g c = record {
  so_far = tests_start g.met.D.TreeDisk.laws c.args.disk.now tt (λ tells. refl);
  counted = λ tells. sym (differing_none (bytes_at (g.D.TreeDisk.disk.reads c.args.disk.now) c.args.path.now));
  few = omega arith;
  within = omega arith;
  room = c.requires.room;
}

pub returns-then-piece-eq0-clause-tests : goal.returns-then-piece-eq0-clause-tests
returns-then-piece-eq0-clause-tests g c =
    let file = bytes_at (g.D.TreeDisk.disk.reads c.args.disk.now) c.args.path.now in
    let run = tests_next g.met.D.TreeDisk.laws c.pieces.invariant.so_far c.in_ok-piece.ensures.tests in
    let rest = take (length c.args.bytes.now - c.pieces.at) (drop c.pieces.at c.args.bytes.now) in
    tests_answer run (λ tells.
    let past : length file ≤ c.pieces.at =
    omega (arith, tests_value run tells, c.if-piece-eq0.true, c.min-room.ensures, c.pieces.invariant.room, length-take c.min-room.result rest, length-take (length c.args.bytes.now - c.pieces.at) (drop c.pieces.at c.args.bytes.now), length-drop c.pieces.at c.args.bytes.now) in
    ap Ok (sym (c.pieces.invariant.counted tells ∙ differing_past file c.args.bytes.now c.pieces.at past)))

pub pieces-preserved : goal.pieces-preserved
pieces-preserved g c =
    let file = bytes_at (g.D.TreeDisk.disk.reads c.args.disk.now) c.args.path.now in
    let rest = take (length c.args.bytes.now - c.pieces.at) (drop c.pieces.at c.args.bytes.now) in
    let run = tests_next g.met.D.TreeDisk.laws c.pieces.invariant.so_far c.in_ok-piece.ensures.tests in
    let most : c.in_ok-piece.piece.read ≤ length rest = omega (arith, c.in_ok-piece.ensures.most, length-take c.min-room.result rest) in
    record {
      so_far = tests_answer run (λ tells. refl);
      counted = λ tells.
          let same : c.in_ok-piece.piece.differing ≡ count_of_differing (drop c.pieces.at file) (take c.min-room.result rest) =
          c.in_ok-piece.ensures.differing tells
          ∙ ap (λ (t : Tree). count_of_differing (drop c.pieces.at (bytes_at t c.args.path.now)) (take c.min-room.result rest)) (c.pieces.invariant.so_far.same tells).same.reads in
          counted_on file c.args.bytes.now c.pieces.at c.in_ok-piece.piece.read c.pieces.count c.in_ok-piece.piece.differing c.pieces.invariant.within (c.pieces.invariant.counted tells)
          (piece_read file c.args.bytes.now c.pieces.at c.min-room.result c.in_ok-piece.piece.read c.in_ok-piece.piece.differing (tests_value run tells) same);
      few = omega (arith, c.pieces.invariant.few, c.in_ok-piece.ensures.few);
      within = omega (arith, most, length-take (length c.args.bytes.now - c.pieces.at) (drop c.pieces.at c.args.bytes.now), length-drop c.pieces.at c.args.bytes.now, c.pieces.invariant.within);
      room = omega (arith, c.pieces.invariant.room);
    }

pub returns-clause-tests : goal.returns-clause-tests
returns-clause-tests g c =
    tests_answer c.pieces.invariant.so_far (λ tells.
    ap Ok (sym (c.pieces.invariant.counted tells
    ∙ ap (count_of_differing (bytes_at (g.D.TreeDisk.disk.reads c.args.disk.now) c.args.path.now)) (take_all c.pieces.at c.args.bytes.now (omega arith)))))
