use Rattle.std.proofs.Common.{arith, take, length-take}
use Rattle.std.proofs.Common.{◌≡◌, ◌≤◌, ◌-◌, true, false, IsTrue, length, Err, ap, sym, ◌∙◌}
use Rattle.tree_disk.specs.Rows.{bytes_at}
use Rattle.tree_disk.specs.cny-base.Count.{Rose}
use Rattle.cny_pack.specs.Entries.{IsFileOf}
use Rattle.cny_pack.specs.Halts.{Never, OnlyChanged}
use Rattle.cny_pack.proofs.Stopping.{halt_disk, halt_sink}
use Rattle.cny_pack.proofs.content.give_piece.Goals as goal

pub returns-clause-given : goal.returns-clause-given
returns-clause-given g c = record {
  bytes = take c.in_ok-count.count c.read_piece.new.buf;
  given = c.in_ok-give.ensures.given;
  long = omega (arith, length-take c.in_ok-count.count c.read_piece.new.buf, c.in_ok-count.ensures.most, c.read_piece.auto.buf);
  told = λ tells. c.in_ok-count.ensures.told tells;
}

pub read_piece-requires : goal.read_piece-requires
read_piece-requires g c tells = (c.requires.file tells).stands

pub returns-in_err-count-clause-stops : goal.returns-in_err-count-clause-stops
returns-in_err-count-clause-stops g c =
    halt_disk c.from_residual.result _ Never (OnlyChanged (IsTrue g.D.TreeDisk.disk.tells → ⊥)) (Rose (g.D.TreeDisk.disk.faults c.args.disk.now) (g.D.TreeDisk.disk.faults c.read_piece.new.disk)) (Rose (g.S.Sink.sink.faults c.args.out.now) (g.S.Sink.sink.faults c.args.out.now)) c.from_residual.ensures.1
    (λ why never. absurd never) c.in_err-count.ensures.stops

pub returns-in_err-give-clause-stops : goal.returns-in_err-give-clause-stops
returns-in_err-give-clause-stops g c =
    halt_sink c.from_residual-in_err-give.result _ (OnlyChanged (IsTrue g.D.TreeDisk.disk.tells → ⊥)) (Rose (g.D.TreeDisk.disk.faults c.args.disk.now) (g.D.TreeDisk.disk.faults c.read_piece.new.disk)) (g.S.Sink.sink.faults c.args.out.now) (g.S.Sink.sink.faults c.args.out.now) (g.S.Sink.sink.faults c.give.new.self)
    c.from_residual-in_err-give.ensures.1 (omega arith) (λ is. c.in_err-give.ensures.cause.failed (ap Err is))

pub returns-then-not-fits-clause-stops : goal.returns-then-not-fits-clause-stops
returns-then-not-fits-clause-stops g c = λ told.
    let file : IsFileOf (g.D.TreeDisk.disk.reads c.args.disk.now) c.args.path.now c.args.size = c.requires.file told in
    let counted = c.in_ok-count.ensures.counted told in
    let room = c.requires.room in
    let few : c.in_ok-count.count ≤ c.args.size - c.args.at = omega (arith, counted, file.long) in
    let fit : IsTrue c.fits.result = c.fits.ensures.all few (λ none. omega (arith, counted, file.long, room, none)) in
    let no : true ≡ false = sym fit ∙ c.if-not-fits.true in cc
