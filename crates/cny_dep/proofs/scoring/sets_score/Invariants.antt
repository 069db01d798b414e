use Rattle.cny_dep.proofs.Totals.{SetsSummed}
use Rattle.cny_dep.proofs.scoring.sets_score.Given as goal

abbrev pub invariant-loop-set : goal.invariant-loop-set
invariant-loop-set l = SetsSummed l.trove l.system l.set-index l.score
