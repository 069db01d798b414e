use Rattle.tree_journal.proofs.writing.apply.Goals as goal

pub returns-clause-any_moment : goal.returns-clause-any_moment
returns-clause-any_moment g c = c.apply_staged.ensures.any_moment

pub returns-clause-applied : goal.returns-clause-applied
returns-clause-applied g c = c.apply_staged.ensures.applied

pub returns-clause-cleared : goal.returns-clause-cleared
returns-clause-cleared g c = c.apply_staged.ensures.cleared

pub returns-clause-stopped : goal.returns-clause-stopped
returns-clause-stopped g c = c.apply_staged.ensures.stopped

pub returns-clause-confined : goal.returns-clause-confined
returns-clause-confined g c = c.apply_staged.ensures.confined

pub returns-clause-visible : goal.returns-clause-visible
returns-clause-visible g c = c.apply_staged.ensures.visible

pub returns-clause-later : goal.returns-clause-later
returns-clause-later g c = c.apply_staged.ensures.later

pub returns-clause-failed : goal.returns-clause-failed
returns-clause-failed g c = c.apply_staged.ensures.failed

pub returns-clause-stops : goal.returns-clause-stops
returns-clause-stops g c = c.apply_staged.ensures.stops
