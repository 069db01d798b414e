use Rattle.std.specs.Io.KnownBytes.{Keeps}
use Rattle.cny_base.proofs.std_sink.write_part.Given as goal

abbrev pub invariant-loop : goal.invariant-loop
invariant-loop g l = Keeps (g.W.Write.contents l.fn.writer) (g.W.Write.contents l.writer)
