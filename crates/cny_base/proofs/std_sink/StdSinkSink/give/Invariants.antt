use Rattle.std.proofs.Common.{◌≡◌, ℕ, List, ◌++◌, length}
use Rattle.std.specs.Io.KnownBytes.{Appends}
use Rattle.cny_base.proofs.std_sink.StdSinkSink.give.Given as goal

abbrev pub invariant-loop-rest : goal.invariant-loop-rest
invariant-loop-rest g l = record {
  front : List ℕ;
  split : front ++ l.rest ≡ l.fn.bytes;
  given : Appends (g.W.Write.contents l.fn.self.writer) (g.W.Write.contents l.self-inside.writer) front;
  same : l.self-inside.faults ≡ l.fn.self.faults;
}

abbrev pub decreases-loop-rest : goal.decreases-loop-rest
decreases-loop-rest g l = length l.rest
