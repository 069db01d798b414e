use Rattle.journal_log.proofs.NumberSets.{one_more, still_fit}
use Rattle.journal_log.proofs.staged.insert.Goals as goal

pub returns-clause-adds : goal.returns-clause-adds
returns-clause-adds c = λ n. one_more _ _ _ c.in_ok-insert.ensures.updates n

pub returns-clause-fit : goal.returns-clause-fit
returns-clause-fit c = still_fit _ _ _ c.in_ok-insert.ensures.updates c.ranges.number.fits
