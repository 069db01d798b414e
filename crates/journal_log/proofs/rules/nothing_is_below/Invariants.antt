use Rattle.std.proofs.Common.{All, take}
use Rattle.journal_log.specs.Rules.{MayStand}
use Rattle.journal_log.proofs.rules.nothing_is_below.Given as goal

abbrev pub invariant-loop-put : goal.invariant-loop-put
invariant-loop-put l = All (MayStand l.puts) (take l.put-index l.puts)
