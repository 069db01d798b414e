use Rattle.std.proofs.Common.{List, subst}
use Rattle.repo_index.specs.trove-stream.declared.parts.TroveParts.{TroveParts}
use Rattle.repo_index.proofs.cny-base.Passing.{err_is}
use Rattle.trove_spec.specs.AndThen.{EndsAs}
use Rattle.update_job.specs.Lists.{IsUpdated, IsUnupdated}
use Rattle.sys_model.specs.Wanted.{PutsIn}
use Rattle.sys_model.proofs.MadeLists.{not_put_in}
use Rattle.sys_model.proofs.making.with_put_in.Goals as goal

pub returns-in_err-new : goal.returns-in_err-new
returns-in_err-new c =
    let list = c.args.list.now in
    let found = c.args.found.now in
    let f = c.in_err-new.field-0.0 in
    err_is (EndsAs (PutsIn list found)) c.from_residual.result f c.from_residual.ensures.1
    (not_put_in list found f c.troves.ensures.rising (subst (λ (come : List TroveParts). IsUnupdated come f) c.troves.ensures.value c.in_err-new.ensures.fault))

pub returns : goal.returns
returns c = subst (λ (come : List TroveParts). IsUpdated c.args.list.now come c.in_ok-new.new) c.troves.ensures.value c.in_ok-new.ensures.value
