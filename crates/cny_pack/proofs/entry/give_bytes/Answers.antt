use Rattle.std.proofs.Common.{IsTrue, Err, ap}
use Rattle.tree_disk.specs.cny-base.Count.{Rose}
use Rattle.cny_pack.specs.Halts.{OnlyChanged}
use Rattle.cny_pack.proofs.Stopping.{halt_sink}
use Rattle.cny_pack.proofs.entry.give_bytes.Goals as goal

pub returns-in_err-give-clause-stops : goal.returns-in_err-give-clause-stops
returns-in_err-give-clause-stops g c =
    halt_sink c.from_residual-in_err-give.result _ (OnlyChanged (IsTrue g.D.TreeDisk.disk.tells → ⊥)) (Rose (g.D.TreeDisk.disk.faults c.args.disk.now) (g.D.TreeDisk.disk.faults c.give_content.new.disk)) (g.S.Sink.sink.faults c.args.out.now) (g.S.Sink.sink.faults c.give_content.new.out) (g.S.Sink.sink.faults c.give.new.self)
    c.from_residual-in_err-give.ensures.1 c.in_ok-give_content.ensures.counts.sink_later (λ is. c.in_err-give.ensures.cause.failed (ap Err is))
