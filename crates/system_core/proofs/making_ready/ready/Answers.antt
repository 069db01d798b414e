use Rattle.system_core.proofs.Systems.{makes_so}
use Rattle.system_core.proofs.making_ready.ready.Goals as goal

pub returns-clause-ready : goal.returns-clause-ready
returns-clause-ready g c = c.ready_trees.ensures.readied

pub returns-clause-images : goal.returns-clause-images
returns-clause-images g c = c.ready_trees.ensures.images

pub returns-clause-reads : goal.returns-clause-reads
returns-clause-reads g c = c.ready_trees.ensures.reads

pub returns-clause-shown : goal.returns-clause-shown
returns-clause-shown g c = c.ready_trees.ensures.shown

pub returns-clause-makes : goal.returns-clause-makes
returns-clause-makes g c =
    makes_so c.distinct_databases.ensures.unique c.one_record.ensures.one c.migrated_system.ensures g.T.TreeDisk.disk c.args.root.now c.ready_trees.new.root c.ready_trees.result c.ready_trees.ensures

pub returns-clause-missing : goal.returns-clause-missing
returns-clause-missing g c = c.ready_trees.ensures.missing

pub returns-clause-untouched : goal.returns-clause-untouched
returns-clause-untouched g c = c.ready_trees.ensures.untouched

pub returns-clause-clear : goal.returns-clause-clear
returns-clause-clear g c = c.ready_trees.ensures.clear

pub returns-clause-database : goal.returns-clause-database
returns-clause-database g c = c.ready_trees.ensures.database

pub returns-clause-stops : goal.returns-clause-stops
returns-clause-stops g c = c.ready_trees.ensures.stops

pub returns-clause-later : goal.returns-clause-later
returns-clause-later g c = c.ready_trees.ensures.later

pub returns-clause-outer : goal.returns-clause-outer
returns-clause-outer g c = c.ready_trees.ensures.outer
