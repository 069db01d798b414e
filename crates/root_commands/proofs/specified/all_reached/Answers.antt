use Rattle.trove_spec.specs.AndThen.{EndsAs}
use Rattle.root_commands.specs.UpdateSpecs.{ReachAll}
use Rattle.root_commands.proofs.SpecEnds.{reached_allowed, unreached}
use Rattle.local_db.proofs.cny-base.Passing.{err_is}
use Rattle.root_commands.proofs.specified.all_reached.Goals as goal

pub returns-in_err-troves-clause-ends : goal.returns-in_err-troves-clause-ends
returns-in_err-troves-clause-ends c =
    err_is (EndsAs (ReachAll c.args.catalogue.now.troves c.args.ids.now)) c.from_residual.result c.in_err-troves.field-0.0 c.from_residual.ensures.1
    (unreached c.args.catalogue.now.troves c.args.ids.now c.in_err-troves.field-0.0 c.in_err-troves.ensures.fault)

pub returns-clause-ends : goal.returns-clause-ends
returns-clause-ends c = (c.in_ok-troves.ensures.value, c.in_ok-troves.ensures.once)

pub returns-clause-allowed : goal.returns-clause-allowed
returns-clause-allowed c = reached_allowed c.args.catalogue.now c.requires c.args.ids.now c.in_ok-troves.troves c.in_ok-troves.ensures.value
