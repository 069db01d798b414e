use Rattle.job_targets.proofs.Fitting.{changes_of, given_of, over_of, savable_of}
use Rattle.job_targets.proofs.WholeWrites.{given_fits, given_gathers}
use Rattle.job_targets.proofs.targets.targets_of.Goals as goal

pub returns-clause-gathers : goal.returns-clause-gathers
returns-clause-gathers g c =
    given_gathers c.args.carried.now (g.C.Contents.contents.answers c.args.far.now) c.args.planned.now c.make_targets.result c.make_targets.ensures.gathers c.make_targets.ensures.fits

pub returns-clause-over : goal.returns-clause-over
returns-clause-over g c tells =
    over_of c.args.carried.now (g.C.Contents.contents.answers c.args.far.now) c.args.planned.now c.make_targets.result
    (given_gathers c.args.carried.now (g.C.Contents.contents.answers c.args.far.now) c.args.planned.now c.make_targets.result c.make_targets.ensures.gathers c.make_targets.ensures.fits)
    (given_fits c.args.planned.now c.make_targets.result c.make_targets.ensures.fits) tells

pub returns-clause-changes : goal.returns-clause-changes
returns-clause-changes g c tells change =
    changes_of (g.T.TreeDisk.disk.reads c.args.root.now) c.args.planned.now c.make_targets.result (c.requires.seen tells) change (given_fits c.args.planned.now c.make_targets.result c.make_targets.ensures.fits)

pub returns-clause-fits : goal.returns-clause-fits
returns-clause-fits g c = given_fits c.args.planned.now c.make_targets.result c.make_targets.ensures.fits

pub returns-clause-puts : goal.returns-clause-puts
returns-clause-puts g c = given_of c.args.planned.now c.make_targets.result (given_fits c.args.planned.now c.make_targets.result c.make_targets.ensures.fits) c.make_targets.ensures.held

pub returns-clause-entries : goal.returns-clause-entries
returns-clause-entries g c = savable_of c.args.planned.now c.make_targets.result c.requires.in_order (given_fits c.args.planned.now c.make_targets.result c.make_targets.ensures.fits)
