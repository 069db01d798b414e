use Rattle.std.proofs.Common.{List, ℕ, sym, subst, ◌∙◌}
use Rattle.trove_spec.specs.Spec.{IsSpecText}
use Rattle.sys_model.proofs.Directives.{bad_is, unread}
use Rattle.sys_model.proofs.directive.read_spec.Goals as goal

pub returns-in_err-spec-clause-bad : goal.returns-in_err-spec-clause-bad
returns-in_err-spec-clause-bad c = λ h meant text is.
    let f = c.in_err-spec.field-0.0 in
    unread f meant (bad_is c.from_residual.result f c.from_residual.ensures.1 h)
    (c.in_err-spec.ensures.only meant (subst (λ (t : List ℕ). IsSpecText t meant) (sym c.in-Some.ensures.some) is.is))

pub returns-clause-only : goal.returns-clause-only
returns-clause-only c = λ meant text is. (
  c.in_ok-spec.ensures.only meant (subst (λ (t : List ℕ). IsSpecText t meant) (sym c.in-Some.ensures.some) is.is),
  c.in_ok-new.ensures ∙ c.in-Some.ensures.some ∙ sym is.kept_is,
)
