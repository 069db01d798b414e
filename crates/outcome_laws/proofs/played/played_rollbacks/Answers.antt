use Rattle.outcome_laws.proofs.RolledBack.{line_rolled_back, rolled_back, told_steps, whole}
use Rattle.outcome_laws.proofs.played.played_rollbacks.Goals as goal

pub returns-clause-restored : goal.returns-clause-restored
returns-clause-restored c events behind e ends later end cuts r u state is same h =
    rolled_back (record { words = c.one_reading.ensures.words; calls = c.one_reading.ensures.calls }) events behind e ends later end cuts r u state is same h

pub returns-clause-steps : goal.returns-clause-steps
returns-clause-steps c = told_steps

pub returns-clause-line : goal.returns-clause-line
returns-clause-line c o steps r s l a state job words h = line_rolled_back (record { words = c.one_reading.ensures.words; calls = c.one_reading.ensures.calls }) o steps r s l a state job words h

pub returns-clause-whole : goal.returns-clause-whole
returns-clause-whole c o steps r s state job none = whole o steps r s state job none
