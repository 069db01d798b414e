use Rattle.std.proofs.Common.{length}
use Rattle.outcome_laws.proofs.MadeEvents.{ComesTo}
use Rattle.outcome_laws.proofs.playing.make_all.Given as goal

abbrev pub invariant-loop-rest : goal.invariant-loop-rest
invariant-loop-rest l = ComesTo l.fn.events l.rest l.fn.statuses l.statuses l.fn.root l.root l.fn.repo l.repo

abbrev pub decreases-loop-rest : goal.decreases-loop-rest
decreases-loop-rest l = length l.rest
