use Rattle.std.proofs.Common.{◌-◌, length}
use Rattle.journal_log.proofs.Decoding.{IsReadTo}
use Rattle.journal_log.proofs.decode.read_puts.Given as goal

abbrev pub invariant-items : goal.invariant-items
invariant-items l = IsReadTo l.bytes l.puts.items l.at

abbrev pub decreases-items : goal.decreases-items
decreases-items l = length l.bytes - l.at
