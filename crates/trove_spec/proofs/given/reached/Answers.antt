use Rattle.std.proofs.Common.{List, subst}
use Rattle.repo_index.specs.trove-parts.declared.id.TroveId.{TroveId}
use Rattle.trove_spec.specs.Expansion.{IsExpansion, IsUnexpanded}
use Rattle.trove_spec.specs.AndThen.{EndsAs}
use Rattle.trove_spec.specs.Meant.{Reaches}
use Rattle.trove_spec.proofs.MeantTroves.{unreached}
use Rattle.cny_version.proofs.cny-base.Passing.{err_is}
use Rattle.trove_spec.proofs.given.reached.Goals as goal

pub returns-in_err-troves-clause-ends : goal.returns-in_err-troves-clause-ends
returns-in_err-troves-clause-ends c =
    let troves = c.args.catalogue.now.troves in
    let root = c.args.root.now in
    let f = c.in_err-troves.field-0.0 in
    err_is (EndsAs (Reaches troves root)) c.from_residual.result f c.from_residual.ensures.1
    (unreached troves root f (subst (λ (roots : List TroveId). IsUnexpanded troves roots f) c.from_ref.ensures.value c.in_err-troves.ensures.fault))

pub returns-clause-ends : goal.returns-clause-ends
returns-clause-ends c =
    (subst (λ (roots : List TroveId). IsExpansion c.args.catalogue.now.troves roots c.in_ok-troves.troves) c.from_ref.ensures.value c.in_ok-troves.ensures.value, c.in_ok-troves.ensures.once)

pub returns-clause-committed : goal.returns-clause-committed
returns-clause-committed c = c.in_ok-troves.ensures.value.there
