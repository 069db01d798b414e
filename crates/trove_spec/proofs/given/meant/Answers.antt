use Rattle.std.proofs.Common.{List, ℕ, subst}
use Rattle.trove_spec.specs.Resolve.{IsUnresolved}
use Rattle.trove_spec.specs.AndThen.{EndsAs}
use Rattle.trove_spec.specs.Meant.{Means}
use Rattle.trove_spec.proofs.MeantTroves.{unresolved}
use Rattle.cny_version.proofs.cny-base.Passing.{err_is}
use Rattle.trove_spec.proofs.given.meant.Goals as goal

pub returns-in_err-id : goal.returns-in_err-id
returns-in_err-id c =
    let troves = c.args.catalogue.now.troves in
    let config = c.args.config.now in
    let given = c.args.given.now in
    let f = c.in_err-id.field-0.0 in
    err_is (EndsAs (Means troves config given)) c.from_residual.result f c.from_residual.ensures.1
    (unresolved troves config given f (subst (λ (text : List ℕ). IsUnresolved troves given.spec text config f) c.get.ensures c.in_err-id.ensures.fault))
