use Rattle.cny_dep.proofs.Totals.{FlagsSummed}
use Rattle.cny_dep.proofs.scoring.flags_score.Given as goal

abbrev pub invariant-loop-flag : goal.invariant-loop-flag
invariant-loop-flag l = FlagsSummed l.trove l.system l.flag-index l.score
