use Rattle.tree_journal.proofs.recovery.recover.Goals as goal

pub returns-clause-any_moment : goal.returns-clause-any_moment
returns-clause-any_moment g c = c.recover_all.ensures.any_moment

pub returns-clause-recovered : goal.returns-clause-recovered
returns-clause-recovered g c = c.recover_all.ensures.recovered

pub returns-clause-was_committed : goal.returns-clause-was_committed
returns-clause-was_committed g c = c.recover_all.ensures.was_committed

pub returns-clause-still : goal.returns-clause-still
returns-clause-still g c = c.recover_all.ensures.still

pub returns-clause-untouched : goal.returns-clause-untouched
returns-clause-untouched g c = c.recover_all.ensures.untouched

pub returns-clause-kept : goal.returns-clause-kept
returns-clause-kept g c = c.recover_all.ensures.kept

pub returns-clause-visible : goal.returns-clause-visible
returns-clause-visible g c = c.recover_all.ensures.visible

pub returns-clause-causes : goal.returns-clause-causes
returns-clause-causes g c = c.recover_all.ensures.causes

pub returns-clause-later : goal.returns-clause-later
returns-clause-later g c = c.recover_all.ensures.later

pub returns-clause-put : goal.returns-clause-put
returns-clause-put g c = c.recover_all.ensures.put_log
