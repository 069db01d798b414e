use Rattle.std.proofs.Common.{length}
use Rattle.tree_journal.proofs.blocked.+has_way.Given as goal

abbrev pub decreases-has_way : goal.decreases-has_way
decreases-has_way g l = length l.path.now
