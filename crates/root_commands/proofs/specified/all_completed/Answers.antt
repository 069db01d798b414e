use Rattle.trove_spec.specs.AndThen.{EndsAs}
use Rattle.sys_model.specs.Rounds.{Completes}
use Rattle.root_commands.proofs.SpecEnds.{all_allowed}
use Rattle.local_db.proofs.cny-base.Passing.{err_is}
use Rattle.root_commands.proofs.specified.all_completed.Goals as goal

pub returns-in_err-troves-clause-ends : goal.returns-in_err-troves-clause-ends
returns-in_err-troves-clause-ends c =
    err_is (EndsAs (Completes c.args.opened.now.catalogue.troves c.args.opened.now.db.installed c.args.config.now c.args.ids.now)) c.from_residual.result c.in_err-troves.field-0.0 c.from_residual.ensures.1 c.in_err-troves.ensures.ends

pub returns-clause-allowed : goal.returns-clause-allowed
returns-clause-allowed c = all_allowed c.args.opened.now.catalogue c.requires c.in_ok-troves.troves c.in_ok-troves.ensures.committed
