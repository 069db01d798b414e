use Rattle.job_targets.proofs.WholeWrites.{changes_whole, fits_whole, given_whole, over_whole}
use Rattle.job_targets.proofs.Fitting.{savable_by}
use Rattle.job_targets.proofs.targets.targets_by.Goals as goal

pub returns-clause-over : goal.returns-clause-over
returns-clause-over g c tells =
    over_whole (g.I.Carries.gives c.args.carried.now) (g.I.Carries.listed c.args.carried.now) (g.C.Contents.contents.answers c.args.far.now) c.args.planned.now c.make_targets.result c.make_targets.ensures.gathers c.make_targets.ensures.fits tells

pub returns-clause-changes : goal.returns-clause-changes
returns-clause-changes g c tells change =
    changes_whole (g.I.Carries.gives c.args.carried.now) (g.I.Carries.listed c.args.carried.now) (g.C.Contents.contents.answers c.args.far.now) c.args.planned.now c.make_targets.result c.make_targets.ensures.gathers c.make_targets.ensures.fits tells
    (c.requires.seen tells) change

pub returns-clause-whole : goal.returns-clause-whole
returns-clause-whole g c tells =
    fits_whole (g.I.Carries.gives c.args.carried.now) (g.I.Carries.listed c.args.carried.now) (g.C.Contents.contents.answers c.args.far.now) c.args.planned.now c.make_targets.result c.make_targets.ensures.gathers c.make_targets.ensures.fits tells

pub returns-clause-puts : goal.returns-clause-puts
returns-clause-puts g c tells =
    given_whole (g.I.Carries.gives c.args.carried.now) (g.I.Carries.listed c.args.carried.now) (g.C.Contents.contents.answers c.args.far.now) c.args.planned.now c.make_targets.result c.make_targets.ensures.gathers c.make_targets.ensures.fits tells
    (g.met.T.TreeDisk.laws.reads_well_formed c.args.root.now) c.make_targets.ensures.held

pub returns-clause-entries : goal.returns-clause-entries
returns-clause-entries g c = savable_by (g.I.Carries.gives c.args.carried.now) c.args.planned.now c.make_targets.result c.requires.in_order c.make_targets.ensures.fits
