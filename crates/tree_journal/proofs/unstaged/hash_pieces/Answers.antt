use Rattle.std.proofs.Common.{◌+◌, ◌∙◌, length, take, refl, ap, subst, arith}
use Rattle.sha1.specs.Sha1.{Holds}
use Rattle.journal_log.specs.tree-disk.Rows.{bytes_at}
use Rattle.journal_log.proofs.tree-disk.StepLaws.{tests_value}
use Rattle.journal_log.specs.tree-disk.Tree.{Tree}
use Rattle.tree_journal.proofs.Finding.{finds_start, finds_then, finds_answer, finds_test_stop, finds_test_answer}
use Rattle.tree_journal.proofs.FirstUnstaged.{hashed_more, hashed_all, piece_is_last}
use Rattle.tree_journal.proofs.unstaged.hash_pieces.Goals as goal

pub pieces-init : goal.pieces-init
pieces-init g c = record { so_far = finds_start g.met.D.TreeDisk.laws c.args.disk.now (tt {0}) (λ tells. c.requires.empty); room = refl }

pub read_at-requires : goal.read_at-requires
read_at-requires g c = λ tells. rw (c.pieces.invariant.so_far.found tells).same.reads (c.requires.file tells)

pub returns-in_err-count : goal.returns-in_err-count
returns-in_err-count g c = finds_then g.met.D.TreeDisk.laws c.pieces.invariant.so_far
    (finds_test_stop {P = λ tree (x : Unit {0}). Holds c.pieces.hasher (bytes_at tree c.args.path.now)} c.in_err-count.ensures.tests c.in_err-count.ensures.stops c.from_residual.ensures.1) (λ tells q z p. p)

pub returns-then-count-eq0 : goal.returns-then-count-eq0
returns-then-count-eq0 g c = finds_then g.met.D.TreeDisk.laws c.pieces.invariant.so_far
    (finds_test_answer {P = λ tree (x : Unit {0}). Holds c.pieces.hasher (take c.pieces.at (bytes_at tree c.args.path.now)) → Holds c.pieces.hasher (bytes_at tree c.args.path.now)} {z = tt} c.in_ok-count.ensures.tests (λ tells holds.
    let same = (c.pieces.invariant.so_far.found tells).same.reads in
    let long : _ = ap (λ (t : Tree). length (bytes_at t c.args.path.now)) same ∙ c.requires.size tells in
    subst (Holds c.pieces.hasher) (hashed_all _ c.pieces.at c.args.size long
    (piece_is_last _ c.pieces.at c.args.size _ c.in_ok-count.count long (tests_value c.in_ok-count.ensures.tests tells) (omega (arith, c.if-count-eq0.true)) (λ some. omega (arith, c.pieces.invariant.room, c.requires.room some)))) holds))
    (λ tells q z p. p q)

pub pieces-preserved : goal.pieces-preserved
pieces-preserved g c = record {
  so_far = finds_then g.met.D.TreeDisk.laws c.pieces.invariant.so_far
      (finds_test_answer {P = λ tree (x : Unit {0}). Holds c.pieces.hasher (take c.pieces.at (bytes_at tree c.args.path.now)) → Holds c.update.new.self (take (c.pieces.at + c.in_ok-count.count) (bytes_at tree c.args.path.now))} {z = tt} c.in_ok-count.ensures.tests (λ tells holds.
      let filled = c.in_ok-count.ensures.filled tells in
      subst (Holds c.update.new.self) (hashed_more _ _ _ c.pieces.at c.in_ok-count.count filled.most filled.bytes) (c.update.ensures _ holds)))
      (λ tells q z p. p q);
  room = omega (arith, c.pieces.invariant.room);
}

pub returns : goal.returns
returns g c = finds_answer c.pieces.invariant.so_far (λ tells holds. subst (Holds c.pieces.hasher) (hashed_all _ c.pieces.at c.args.size (c.requires.size tells) (omega (arith, c.pieces-test.false))) holds)
