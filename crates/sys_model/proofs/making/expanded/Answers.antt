use Rattle.std.proofs.Common.{List, subst}
use Rattle.repo_index.specs.trove-parts.declared.id.TroveId.{TroveId}
use Rattle.repo_index.proofs.cny-base.Passing.{err_is}
use Rattle.trove_spec.specs.AndThen.{EndsAs}
use Rattle.trove_spec.specs.Expansion.{IsUnexpanded}
use Rattle.trove_spec.specs.Meant.{Expands, Means, Reaches}
use Rattle.trove_spec.specs.Resolve.{IsUnresolved}
use Rattle.trove_spec.proofs.MeantTroves.{first_fails, rest_fails, unreached, unresolved}
use Rattle.sys_model.specs.Wanted.{given}
use Rattle.sys_model.proofs.making.expanded.Goals as goal

pub returns-in_err-root : goal.returns-in_err-root
returns-in_err-root c =
    let troves = c.args.catalogue.now.troves in
    let config = c.args.config.now in
    let asked = given c.args.spec.now c.args.text.now in
    let f = c.in_err-root.field-0.0 in
    err_is (EndsAs (Expands troves config asked)) c.from_residual.result f c.from_residual.ensures.1
    (first_fails (Means troves config asked) (Reaches troves) f
    (unresolved troves config asked f (subst (λ (text : List _). IsUnresolved troves asked.spec text config f) c.get.ensures c.in_err-root.ensures.fault)))

pub returns-in_err-found : goal.returns-in_err-found
returns-in_err-found c =
    let troves = c.args.catalogue.now.troves in
    let config = c.args.config.now in
    let asked = given c.args.spec.now c.args.text.now in
    let root = c.in_ok-root.root in
    let f = c.in_err-found.field-0.0 in
    err_is (EndsAs (Expands troves config asked)) c.from_residual-in_err-found.result f c.from_residual-in_err-found.ensures.1
    (rest_fails (Means troves config asked) (Reaches troves) root f c.in_ok-root.ensures.value
    (unreached troves root f (subst (λ (roots : List TroveId). IsUnexpanded troves roots f) c.from_ref.ensures.value c.in_err-found.ensures.fault)))
