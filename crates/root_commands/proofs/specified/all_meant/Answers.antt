use Rattle.std.proofs.Common.{List, ◌+◌, arith, subst, sym, take}
use Rattle.cli_call.specs.trove-parts.declared.id.TroveId.{TroveId}
use Rattle.trove_spec.specs.AndThen.{EndsAs}
use Rattle.root_commands.specs.UpdateSpecs.{AreMeant, MeanAll}
use Rattle.root_commands.proofs.SpecEnds.{first_unmeant, meant_more}
use Rattle.local_db.proofs.cny-base.Passing.{err_is}
use Rattle.root_commands.proofs.specified.all_meant.Goals as goal

pub returns-in_err-meant : goal.returns-in_err-meant
returns-in_err-meant c =
    let troves = c.args.catalogue.now.troves in
    let config = c.args.config.now in
    err_is (EndsAs (MeanAll troves config c.args.givens.now)) c.from_residual.result c.in_err-meant.field-0.0 c.from_residual.ensures.1
    (first_unmeant troves config c.args.givens.now c.loop-given.given-index c.given-item.result c.loop-given.ids.items c.in_err-meant.field-0.0 (omega arith) c.given-item.is c.loop-given.invariant c.in_err-meant.ensures)

pub loop-given-preserved : goal.loop-given-preserved
loop-given-preserved c =
    subst (λ (l : List TroveId). AreMeant c.args.catalogue.now.troves c.args.config.now (take (c.loop-given.given-index + 1) c.args.givens.now) l) (sym c.in_ok-push.ensures.items)
    (meant_more c.args.catalogue.now.troves c.args.config.now c.args.givens.now c.loop-given.given-index c.given-item.result c.loop-given.ids.items c.in_ok-meant.field-0 (omega arith) c.given-item.is c.loop-given.invariant c.in_ok-meant.ensures)
