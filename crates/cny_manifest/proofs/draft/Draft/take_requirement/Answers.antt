use Rattle.std.proofs.Common.{sym, ◌∙◌}
use Rattle.cny_manifest.specs.Body.{with_requirement, can_require}
use Rattle.cny_manifest.specs.Grammar.{InBody, IsDepFields}
use Rattle.cny_manifest.proofs.Steps.{line_barred, line_takes, line_unread}
use Rattle.cny_manifest.proofs.draft.Draft.take_requirement.Goals as goal

pub returns-in_err-line : goal.returns-in_err-line
returns-in_err-line c = line_unread (IsDepFields c.args.fields.now) (can_require c.args.self.now) (λ x. InBody (with_requirement c.args.self.now x)) (InBody c.args.self.now) c.in_err-line.field-0.0 c.in_err-line.ensures c.from_residual.result c.from_residual.ensures.1

pub returns-then-not-can_require : goal.returns-then-not-can_require
returns-then-not-can_require c = line_barred (IsDepFields c.args.fields.now) (can_require c.args.self.now) (λ x. InBody (with_requirement c.args.self.now x)) c.in_ok-line.line c.in_ok-line.ensures (sym c.can_require.ensures ∙ c.if-not-can_require.true)

pub returns : goal.returns
returns c = line_takes (IsDepFields c.args.fields.now) (can_require c.args.self.now) (with_requirement c.args.self.now) c.in_ok-line.line c.in_ok-line.ensures (sym c.can_require.ensures ∙ c.if-not-can_require.false) _ c.in_ok-push_requirement.ensures
