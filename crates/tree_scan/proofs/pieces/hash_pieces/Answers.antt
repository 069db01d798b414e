use Rattle.std.proofs.Common.{◌≡◌, ◌+◌, ◌++◌, ℕ, length, length-take, drop, take, take-add, refl, sym, ap, subst, ◌∙◌, arith}
use Rattle.sha1.specs.Sha1.{Holds}
use Rattle.tree_disk.specs.Tree.{Tree}
use Rattle.tree_disk.specs.Rows.{bytes_at}
use Rattle.tree_disk.proofs.StepLaws.{tests_answer, tests_value}
use Rattle.tree_disk.proofs.Deciding.{tests_next}
use Rattle.tree_scan.proofs.pieces.hash_pieces.Goals as goal

pub returns-then-count-eq0-clause-given : goal.returns-then-count-eq0-clause-given
returns-then-count-eq0-clause-given g c tells =
    let run = tests_next g.met.D.TreeDisk.laws c.pieces.invariant.so_far c.in_ok-count.ensures.tests in
    absurd (omega (arith, tests_value run tells, c.requires.size tells, c.if-count-eq0.true, c.pieces.invariant.room, c.room_for-room.ensures, length-take c.room_for-room.result c.pieces.buf))

pub pieces-preserved : goal.pieces-preserved
pieces-preserved g c =
    let run = tests_next g.met.D.TreeDisk.laws c.pieces.invariant.so_far c.in_ok-count.ensures.tests in
    let file = bytes_at (g.D.TreeDisk.disk.reads c.args.disk.now) c.args.path.now in
    let room = c.room_for-room.result in
    let long : length (take c.room_for-room.result c.pieces.buf) ≡ c.room_for-room.result = omega (arith, c.room_for-room.ensures, length-take c.room_for-room.result c.pieces.buf) in
    record {
      so_far = tests_answer run (λ tells. refl);
      given = λ tells.
          let piece : take (length (take c.room_for-room.result c.pieces.buf)) (drop c.pieces.at (bytes_at (g.D.TreeDisk.disk.reads c.pieces.disk) c.args.path.now)) ≡ take c.room_for-room.result (drop c.pieces.at (bytes_at (g.D.TreeDisk.disk.reads c.args.disk.now) c.args.path.now)) =
          ap (λ (n : ℕ). take n (drop c.pieces.at (bytes_at (g.D.TreeDisk.disk.reads c.pieces.disk) c.args.path.now))) long
          ∙ ap (λ (t : Tree). take c.room_for-room.result (drop c.pieces.at (bytes_at t c.args.path.now))) (c.pieces.invariant.so_far.same tells).same.reads in
          let whole : c.room_for-room.result ≡ c.in_ok-count.count = omega (arith, tests_value run tells, long, c.room_for-room.ensures, c.requires.size tells) in
          subst (λ l. Holds c.hash_piece.new.hasher l) (ap (λ l. take c.pieces.at file ++ l) piece ∙ sym (take-add c.pieces.at room file) ∙ ap (λ (n : ℕ). take (c.pieces.at + n) file) whole)
          (c.in_ok-count.ensures.given tells (take c.pieces.at file) (c.pieces.invariant.given tells));
      within = omega (arith, c.room_for-room.ensures, c.in_ok-count.ensures.most, long, c.pieces.invariant.within);
      room = omega (arith, c.pieces.invariant.room);
    }
