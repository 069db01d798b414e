use Rattle.std.proofs.Common.{◌+◌, ◌∙◌, arith}
use Rattle.journal_log.proofs.tree-disk.StepLaws.{makes_as, makes_then, makes_then_stop}
use Rattle.tree_journal.proofs.Copies.{copy_starts, may_start, file_kept, may_grow, copy_grows, copy_ends, not_empty}
use Rattle.tree_journal.proofs.Seen.{makes_answer}
use Rattle.tree_journal.proofs.copying.copy_pieces.Goals as goal

pub copy_piece-requires-clause-file : goal.copy_piece-requires-clause-file
copy_piece-requires-clause-file g c = λ tells. (c.requires.told tells).file.stands

pub copy_piece-requires-clause-room : goal.copy_piece-requires-clause-room
copy_piece-requires-clause-room g c = λ tells. may_start _ c.args.from.now c.args.to.now c.args.size (c.requires.told tells)

pub pieces-init : goal.pieces-init
pieces-init g c = record {
  so_far = makes_answer tt (makes_as c.in_ok-first.ensures.makes (λ tells. copy_starts _ c.args.from.now c.args.to.now c.args.size (c.requires.told tells) _ c.in_ok-first.first (c.in_ok-first.ensures.count tells)));
  room = omega arith;
}

pub copy_piece-requires-in-pieces-clause-file : goal.copy_piece-requires-in-pieces-clause-file
copy_piece-requires-in-pieces-clause-file g c = λ tells. rw (c.pieces.invariant.so_far.ended tells) (file_kept _ c.args.from.now c.args.to.now c.args.size (c.requires.told tells) c.pieces.at)

pub copy_piece-requires-in-pieces-clause-room : goal.copy_piece-requires-in-pieces-clause-room
copy_piece-requires-in-pieces-clause-room g c = λ tells. rw (c.pieces.invariant.so_far.ended tells) (may_grow _ c.args.from.now c.args.to.now c.args.size (c.requires.told tells) c.pieces.at)

pub returns-in_err-count : goal.returns-in_err-count
returns-in_err-count g c = makes_then_stop c.pieces.invariant.so_far (λ p h. h) c.in_err-count.ensures.makes c.from_residual-in_err-count.ensures.1

pub returns-then-count-eq0 : goal.returns-then-count-eq0
returns-then-count-eq0 g c = makes_answer tt (makes_then c.pieces.invariant.so_far (λ p h. h) c.in_ok-count.ensures.makes (λ tells.
    let can = c.requires.told tells in
    let tree = g.D.TreeDisk.disk.reads c.args.disk.now in
    let most = rw (c.pieces.invariant.so_far.ended tells) at (c.in_ok-count.ensures.count tells) in
    copy_grows tree c.args.from.now c.args.to.now c.args.size can c.pieces.at _ c.in_ok-count.count most
    ∙ copy_ends tree c.args.from.now c.args.to.now c.args.size can (c.pieces.at + c.in_ok-count.count)
    (let last = not_empty tree c.args.from.now c.args.to.now c.args.size can c.pieces.at _ c.in_ok-count.count most (omega (arith, c.if-count-eq0.true)) (λ some. omega (arith, c.pieces.invariant.room, c.requires.room some)) in omega (arith, last))))

pub pieces-preserved : goal.pieces-preserved
pieces-preserved g c = record {
  so_far = makes_answer tt (makes_then c.pieces.invariant.so_far (λ p h. h) c.in_ok-count.ensures.makes (λ tells.
      copy_grows (g.D.TreeDisk.disk.reads c.args.disk.now) c.args.from.now c.args.to.now c.args.size (c.requires.told tells) c.pieces.at _ c.in_ok-count.count
      (rw (c.pieces.invariant.so_far.ended tells) at (c.in_ok-count.ensures.count tells))));
  room = omega (arith, c.pieces.invariant.room);
}

pub returns : goal.returns
returns g c = makes_as c.pieces.invariant.so_far (λ tells. copy_ends (g.D.TreeDisk.disk.reads c.args.disk.now) c.args.from.now c.args.to.now c.args.size (c.requires.told tells) c.pieces.at (omega (arith, c.pieces-test.false)))
