use Rattle.outcome_laws.proofs.StepsKept as histories
use Rattle.outcome_laws.proofs.SoundLists.{empty_sound}
use Rattle.outcome_laws.proofs.histories.sound_lists.Goals as goal

pub returns-clause-empty : goal.returns-clause-empty
returns-clause-empty c = empty_sound

pub returns-clause-kept : goal.returns-clause-kept
returns-clause-kept c = histories.sound_lists
