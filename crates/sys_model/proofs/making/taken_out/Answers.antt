use Rattle.std.proofs.Common.{List, ℕ, subst}
use Rattle.repo_index.proofs.cny-base.Passing.{err_is}
use Rattle.trove_spec.specs.AndThen.{EndsAs}
use Rattle.update_job.specs.Lists.{AreInstalled, IsErased, IsUnerased}
use Rattle.sys_model.specs.Wanted.{TakesOut}
use Rattle.sys_model.proofs.MadeLists.{name_is_there, not_taken_out}
use Rattle.sys_model.proofs.making.taken_out.Goals as goal

pub returns-in_err-new : goal.returns-in_err-new
returns-in_err-new c =
    let list = c.args.list.now in
    let name = c.args.name.now in
    let f = c.in_err-new.field-0.0 in
    err_is (EndsAs (TakesOut list name)) c.from_residual.result f c.from_residual.ensures.1
    (not_taken_out list name f (subst (λ (names : List (List ℕ)). IsUnerased list names f) c.from_ref.ensures.value c.in_err-new.ensures.fault))

pub returns : goal.returns
returns c =
    let list = c.args.list.now in (
      subst (λ (names : List (List ℕ)). IsErased list names c.in_ok-new.new) c.from_ref.ensures.value c.in_ok-new.ensures.value,
      name_is_there list c.args.name.now (subst (AreInstalled list) c.from_ref.ensures.value c.in_ok-new.ensures.all),
    )
