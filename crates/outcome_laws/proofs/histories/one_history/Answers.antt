use Rattle.outcome_laws.proofs.Counted.{answered_folds, folds_then}
use Rattle.outcome_laws.proofs.OneAnswer.{answered_once, call_once, folds_keep, folds_once, line_once}
use Rattle.outcome_laws.proofs.histories.one_history.Goals as goal

pub returns-clause-line : goal.returns-clause-line
returns-clause-line c = line_once (record { outcomes = c.one_outcome.ensures; words = c.one_reading.ensures.words })

pub returns-clause-call : goal.returns-clause-call
returns-clause-call c = call_once (record { outcomes = c.one_outcome.ensures; words = c.one_reading.ensures.words })
    (record { calls = c.one_reading.ensures.calls; batches = record { lines = c.one_batch.ensures.lines; excluded = c.one_batch.ensures.excluded; fault = c.one_batch.ensures.fault } })

pub returns-clause-answered : goal.returns-clause-answered
returns-clause-answered c = answered_once (record { outcomes = c.one_outcome.ensures; words = c.one_reading.ensures.words })
    (record { calls = c.one_reading.ensures.calls; batches = record { lines = c.one_batch.ensures.lines; excluded = c.one_batch.ensures.excluded; fault = c.one_batch.ensures.fault } })

pub returns-clause-folds : goal.returns-clause-folds
returns-clause-folds c = folds_once (record { outcomes = c.one_outcome.ensures; words = c.one_reading.ensures.words })
    (record { calls = c.one_reading.ensures.calls; batches = record { lines = c.one_batch.ensures.lines; excluded = c.one_batch.ensures.excluded; fault = c.one_batch.ensures.fault } })

pub returns-clause-counted : goal.returns-clause-counted
returns-clause-counted c = answered_folds

pub returns-clause-joined : goal.returns-clause-joined
returns-clause-joined c events more cuts others s t u first second = folds_then events cuts more others s t u first second

pub returns-clause-rules : goal.returns-clause-rules
returns-clause-rules c = folds_keep
