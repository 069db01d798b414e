use Rattle.std.proofs.Common.{take}
use Rattle.journal_log.proofs.FreeNumbers.{IsNumberedTo}
use Rattle.journal_log.proofs.numbering.numbered.Given as goal

abbrev pub invariant-loop-put : goal.invariant-loop-put
invariant-loop-put l = IsNumberedTo l.writes (take l.put-index l.writes) l.from l.items.items
