use Rattle.std.proofs.Common.{length}
use denote.Shadow.{shadow}
use denote.Text.{Utf8}
use Rattle.journal_log.proofs.Walking.{WalksUp}
use Rattle.journal_log.proofs.rules.has_dirs_above.Given as goal

abbrev pub invariant-loop-above : goal.invariant-loop-above
invariant-loop-above l = shadow (Utf8 l.above) × WalksUp l.puts l.path l.above

abbrev pub decreases-loop-above : goal.decreases-loop-above
decreases-loop-above l = length l.above
