use Rattle.std.proofs.Common.{sym, subst}
use Rattle.tree_disk.specs.cny-base.Count.{Rose}
use Rattle.cny_pack.specs.Halts.{IsLookStop}
use Rattle.cny_pack.proofs.Looking.{step_stops}
use Rattle.cny_pack.proofs.pack.find.Goals as goal

pub returns-in-Ok-clause-same : goal.returns-in-Ok-clause-same
returns-in-Ok-clause-same g c tells = (c.in-Ok.ensures.looks.same tells).same.reads

pub returns-in-Err-clause-same : goal.returns-in-Err-clause-same
returns-in-Err-clause-same g c tells = (c.in-Err.ensures.looks.same tells).same.reads

pub returns-in-Err-clause-stops : goal.returns-in-Err-clause-stops
returns-in-Err-clause-stops g c =
    let faults = g.D.TreeDisk.disk.faults in
    subst (IsLookStop (Rose (faults c.args.disk.now) (faults c.find_all.new.disk))) (sym c.by_step.ensures) (step_stops c.in-Err.stop c.in-Err.ensures.stops c.in-Err.ensures.looks)
