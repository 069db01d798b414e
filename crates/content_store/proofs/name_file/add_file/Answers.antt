use Rattle.std.proofs.Common.{◌≡◌, ◌++◌, ℕ, length, length-take, drop, take, take-add, refl, sym, ap, subst, ◌∙◌, arith}
use Rattle.tree_disk.specs.Tree.{Tree}
use Rattle.tree_disk.specs.Rows.{bytes_at}
use Rattle.tree_disk.proofs.StepLaws.{tests_answer}
use Rattle.tree_disk.proofs.Deciding.{tests_next}
use Rattle.content_store.proofs.name_file.add_file.Goals as goal

pub pieces-preserved : goal.pieces-preserved
pieces-preserved g c =
    let run = tests_next g.met.D.TreeDisk.laws c.pieces.invariant.so_far c.in_ok-add_piece.ensures.tests in
    let file = bytes_at (g.D.TreeDisk.disk.reads c.args.disk.now) c.args.path.now in
    let room = c.room_for-room.result in
    let long : length (take c.room_for-room.result c.pieces.buf) ≡ c.room_for-room.result = omega (arith, c.room_for-room.ensures, length-take c.room_for-room.result c.pieces.buf) in
    record {
      so_far = tests_answer run (λ tells. refl);
      given = λ tells.
          let piece : take (length (take c.room_for-room.result c.pieces.buf)) (drop c.pieces.at (bytes_at (g.D.TreeDisk.disk.reads c.pieces.disk) c.args.path.now)) ≡ take c.room_for-room.result (drop c.pieces.at (bytes_at (g.D.TreeDisk.disk.reads c.args.disk.now) c.args.path.now)) =
          ap (λ (n : ℕ). take n (drop c.pieces.at (bytes_at (g.D.TreeDisk.disk.reads c.pieces.disk) c.args.path.now))) long
          ∙ ap (λ (t : Tree). take c.room_for-room.result (drop c.pieces.at (bytes_at t c.args.path.now))) (c.pieces.invariant.so_far.same tells).same.reads in
          subst (λ l. g.N.Namer.is_given c.args.namer.now c.add_piece.new.naming l) (ap (λ l. take c.pieces.at file ++ l) piece ∙ sym (take-add c.pieces.at room file))
          (c.in_ok-add_piece.ensures.given tells (take c.pieces.at file) (c.pieces.invariant.given tells));
      within = omega (arith, c.room_for-room.ensures, c.pieces.invariant.within);
    }
