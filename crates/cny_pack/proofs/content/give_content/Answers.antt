use Rattle.std.proofs.Common.{◌≡◌, ℕ, ◌+◌, IsTrue, arith, refl, sym, ◌∙◌, subst}
use Rattle.tree_disk.specs.Tree.{Tree}
use Rattle.cny_pack.specs.Gives.{GivesPiece}
use Rattle.cny_pack.proofs.Giving.{piece_none, piece_on, piece_all, piece_from}
use Rattle.cny_pack.specs.Entries.{IsFileOf}
use Rattle.cny_pack.specs.Halts.{OnlyChanged}
use Rattle.cny_pack.proofs.Stopping.{halt_later, counts_start, counts_on}
use Rattle.cny_pack.proofs.content.give_content.Goals as goal

pub pieces-init : goal.pieces-init
pieces-init g c = record {
  given = piece_none g.D.TreeDisk.disk.tells (g.D.TreeDisk.disk.reads c.args.disk.now) c.args.path.now (g.S.Sink.sink.written c.args.out.now);
  within = omega arith;
  same = λ tells. refl;
  counts = counts_start (g.D.TreeDisk.disk.faults c.args.disk.now) (g.S.Sink.sink.faults c.args.out.now);
}

pub returns-then-count-eq0-clause-given : goal.returns-then-count-eq0-clause-given
returns-then-count-eq0-clause-given g c =
    let written = g.S.Sink.sink.written in
    let tells = g.D.TreeDisk.disk.tells in
    let tree = g.D.TreeDisk.disk.reads c.args.disk.now in
    let path = c.args.path.now in
    let all : c.pieces.at + c.in_ok-count.count ≡ c.args.size = omega (arith, c.pieces.invariant.within, c.if-count-eq0.true, c.in_ok-count.ensures.end c.if-count-eq0.true) in
    piece_all tells tree path c.args.size (written c.args.out.now) (written c.give_piece.new.out) c.requires.file
    (subst (λ (n : ℕ). GivesPiece tells tree path 0 n (written c.args.out.now) (written c.give_piece.new.out)) all
    (piece_on tells tree path c.pieces.at c.in_ok-count.count (written c.args.out.now) (written c.pieces.out) (written c.give_piece.new.out) c.pieces.invariant.given
    (piece_from tells (g.D.TreeDisk.disk.reads c.pieces.disk) tree path c.pieces.at c.in_ok-count.count (written c.pieces.out) (written c.give_piece.new.out) c.pieces.invariant.same c.in_ok-count.ensures.given)))

pub returns-then-count-eq0-clause-same : goal.returns-then-count-eq0-clause-same
returns-then-count-eq0-clause-same g c tells = c.in_ok-count.ensures.same tells ∙ c.pieces.invariant.same tells

pub pieces-preserved : goal.pieces-preserved
pieces-preserved g c =
    let written = g.S.Sink.sink.written in
    let tells = g.D.TreeDisk.disk.tells in
    let tree = g.D.TreeDisk.disk.reads c.args.disk.now in
    let path = c.args.path.now in
    record {
      given = piece_on tells tree path c.pieces.at c.in_ok-count.count (written c.args.out.now) (written c.pieces.out) (written c.give_piece.new.out) c.pieces.invariant.given
          (piece_from tells (g.D.TreeDisk.disk.reads c.pieces.disk) tree path c.pieces.at c.in_ok-count.count (written c.pieces.out) (written c.give_piece.new.out) c.pieces.invariant.same c.in_ok-count.ensures.given);
      within = omega (arith, c.pieces.invariant.within, c.in_ok-count.ensures.within);
      same = λ tells. c.in_ok-count.ensures.same tells ∙ c.pieces.invariant.same tells;
      counts = counts_on (g.D.TreeDisk.disk.faults c.args.disk.now) (g.D.TreeDisk.disk.faults c.pieces.disk) (g.D.TreeDisk.disk.faults c.give_piece.new.disk) (g.S.Sink.sink.faults c.args.out.now) (g.S.Sink.sink.faults c.pieces.out) (g.S.Sink.sink.faults c.give_piece.new.out) c.pieces.invariant.counts c.in_ok-count.ensures.counts;
    }

pub give_piece-requires-clause-file : goal.give_piece-requires-clause-file
give_piece-requires-clause-file g c tells = subst (λ (t : Tree). IsFileOf t c.args.path.now c.args.size) (sym (c.pieces.invariant.same tells)) (c.requires.file tells)

pub returns-then-count-eq0-clause-counts : goal.returns-then-count-eq0-clause-counts
returns-then-count-eq0-clause-counts g c = counts_on (g.D.TreeDisk.disk.faults c.args.disk.now) (g.D.TreeDisk.disk.faults c.pieces.disk) (g.D.TreeDisk.disk.faults c.give_piece.new.disk) (g.S.Sink.sink.faults c.args.out.now) (g.S.Sink.sink.faults c.pieces.out) (g.S.Sink.sink.faults c.give_piece.new.out) c.pieces.invariant.counts c.in_ok-count.ensures.counts

pub returns-in_err-count-clause-counts : goal.returns-in_err-count-clause-counts
returns-in_err-count-clause-counts g c = counts_on (g.D.TreeDisk.disk.faults c.args.disk.now) (g.D.TreeDisk.disk.faults c.pieces.disk) (g.D.TreeDisk.disk.faults c.give_piece.new.disk) (g.S.Sink.sink.faults c.args.out.now) (g.S.Sink.sink.faults c.pieces.out) (g.S.Sink.sink.faults c.give_piece.new.out) c.pieces.invariant.counts c.in_err-count.ensures.counts

pub returns-in_err-count-clause-stops : goal.returns-in_err-count-clause-stops
returns-in_err-count-clause-stops g c =
    let was = c.pieces.invariant.counts in
    let only = OnlyChanged (IsTrue g.D.TreeDisk.disk.tells → ⊥) in
    halt_later c.from_residual.result _ only only (g.D.TreeDisk.disk.faults c.args.disk.now) (g.D.TreeDisk.disk.faults c.pieces.disk) (g.D.TreeDisk.disk.faults c.give_piece.new.disk) (g.S.Sink.sink.faults c.args.out.now) (g.S.Sink.sink.faults c.pieces.out) (g.S.Sink.sink.faults c.give_piece.new.out) c.from_residual.ensures.1 was.disk_later was.sink_later
    (λ why is. is) c.in_err-count.ensures.stops
