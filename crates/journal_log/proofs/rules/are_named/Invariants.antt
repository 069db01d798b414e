use Rattle.std.proofs.Common.{All, take}
use Rattle.journal_log.proofs.NamedPuts.{IsNamed}
use Rattle.journal_log.proofs.rules.are_named.Given as goal

abbrev pub invariant-loop-put : goal.invariant-loop-put
invariant-loop-put l = All (IsNamed l.base) (take l.put-index l.puts)
