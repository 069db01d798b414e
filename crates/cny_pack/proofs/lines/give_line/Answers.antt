use Rattle.std.proofs.Common.{Err, ap, arith}
use Rattle.cny_pack.specs.Halts.{Never}
use Rattle.cny_pack.proofs.Stopping.{halt_sink}
use Rattle.cny_pack.proofs.lines.give_line.Goals as goal

pub returns-in_err-give-clause-stops : goal.returns-in_err-give-clause-stops
returns-in_err-give-clause-stops g c =
    halt_sink c.from_residual-in_err-give.result _ Never ⊥ (g.S.Sink.sink.faults c.args.out.now) (g.S.Sink.sink.faults c.args.out.now) (g.S.Sink.sink.faults c.give.new.self) c.from_residual-in_err-give.ensures.1 (omega arith) (λ is. c.in_err-give.ensures.cause.failed (ap Err is))
