use Rattle.outcome_laws.proofs.BlockedLogs.{blocked_call}
use Rattle.outcome_laws.proofs.FixedCuts.{call_synced, crash_synced, cuts_fixed, cuts_opened, root_synced, told_state, unopened_left}
use Rattle.outcome_laws.proofs.ToldFolds.{told_folds, uncut_answered}
use Rattle.outcome_laws.proofs.played.played_laws.Goals as goal

pub returns-clause-rules : goal.returns-clause-rules
returns-clause-rules c = told_state

pub returns-clause-fold : goal.returns-clause-fold
returns-clause-fold c = told_folds

pub returns-clause-answered : goal.returns-clause-answered
returns-clause-answered c = uncut_answered

pub returns-clause-fixed : goal.returns-clause-fixed
returns-clause-fixed c = cuts_fixed c.store_laws.ensures

pub returns-clause-synced : goal.returns-clause-synced
returns-clause-synced c = call_synced

pub returns-clause-crashed : goal.returns-clause-crashed
returns-clause-crashed c = crash_synced

pub returns-clause-opened : goal.returns-clause-opened
returns-clause-opened c = cuts_opened c.store_laws.ensures

pub returns-clause-unopened : goal.returns-clause-unopened
returns-clause-unopened c = unopened_left

pub returns-clause-root_synced : goal.returns-clause-root_synced
returns-clause-root_synced c = root_synced

pub returns-clause-blocked : goal.returns-clause-blocked
returns-clause-blocked c = blocked_call
