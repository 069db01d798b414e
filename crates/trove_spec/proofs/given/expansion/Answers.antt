use Rattle.std.proofs.Common.{inl}
use Rattle.trove_spec.specs.AndThen.{EndsAs}
use Rattle.trove_spec.specs.Meant.{Expands, Means, Reaches}
use Rattle.trove_spec.proofs.MeantTroves.{first_fails, rest_fails}
use Rattle.cny_version.proofs.cny-base.Passing.{err_is}
use Rattle.trove_spec.proofs.given.expansion.Goals as goal

pub returns-in_err-root-clause-ends : goal.returns-in_err-root-clause-ends
returns-in_err-root-clause-ends c =
    let troves = c.args.catalogue.now.troves in
    let config = c.args.config.now in
    let given = c.args.given.now in
    let f = c.in_err-root.field-0.0 in
    err_is (EndsAs (Expands troves config given)) c.from_residual.result f c.from_residual.ensures.1 (first_fails (Means troves config given) (Reaches troves) f c.in_err-root.ensures)

pub returns-in_err-troves-clause-ends : goal.returns-in_err-troves-clause-ends
returns-in_err-troves-clause-ends c =
    let troves = c.args.catalogue.now.troves in
    let config = c.args.config.now in
    let given = c.args.given.now in
    let f = c.in_err-troves.field-0.0 in
    err_is (EndsAs (Expands troves config given)) c.from_residual-in_err-troves.result f c.from_residual-in_err-troves.ensures.1
    (rest_fails (Means troves config given) (Reaches troves) c.in_ok-root.root f c.in_ok-root.ensures c.in_err-troves.ensures.ends)

pub returns-clause-ends : goal.returns-clause-ends
returns-clause-ends c = inl (record { value = c.in_ok-root.root; found = c.in_ok-root.ensures; rest = c.in_ok-troves.ensures.ends })
