use Rattle.past_jobs.proofs.Ending.{can_from, stop_from}
use Rattle.past_jobs.proofs.checking.check_undo.Goals as goal

pub returns-clause-can : goal.returns-clause-can
returns-clause-can g c = can_from g.met.D.TreeDisk.laws c.args.found.now c.args.changes.now c.requires c.args.disk.now c.test_undo.new.disk c.test_undo.result c.test_undo.ensures.tests

pub returns-clause-stops : goal.returns-clause-stops
returns-clause-stops g c = stop_from g.met.D.TreeDisk.laws c.args.found.now c.args.changes.now c.requires c.args.disk.now c.test_undo.new.disk c.test_undo.result c.test_undo.ensures.kinds c.test_undo.ensures.tests

pub returns-clause-later : goal.returns-clause-later
returns-clause-later g c = c.test_undo.ensures.tests.later
