use Rattle.outcome_laws.proofs.OneWords.{calls_once, words_once}
use Rattle.outcome_laws.proofs.histories.one_reading.Goals as goal

pub returns-clause-words : goal.returns-clause-words
returns-clause-words c = words_once c.distinct_texts.ensures.labels

pub returns-clause-calls : goal.returns-clause-calls
returns-clause-calls c = calls_once c.distinct_texts.ensures.labels
