use Rattle.std.proofs.Common.{sym, ◌∙◌}
use Rattle.cny_manifest.specs.Body.{with_provided, can_provide}
use Rattle.cny_manifest.specs.Grammar.{InBody, IsDepFields}
use Rattle.cny_manifest.proofs.Steps.{line_barred, line_takes, line_unread}
use Rattle.cny_manifest.proofs.draft.Draft.take_provided.Goals as goal

pub returns-in_err-line : goal.returns-in_err-line
returns-in_err-line c = line_unread (IsDepFields c.args.fields.now) (can_provide c.args.self.now) (λ x. InBody (with_provided c.args.self.now x)) (InBody c.args.self.now) c.in_err-line.field-0.0 c.in_err-line.ensures c.from_residual.result c.from_residual.ensures.1

pub returns-then-not-can_provide : goal.returns-then-not-can_provide
returns-then-not-can_provide c = line_barred (IsDepFields c.args.fields.now) (can_provide c.args.self.now) (λ x. InBody (with_provided c.args.self.now x)) c.in_ok-line.line c.in_ok-line.ensures (sym c.can_provide.ensures ∙ c.if-not-can_provide.true)

pub returns : goal.returns
returns c = line_takes (IsDepFields c.args.fields.now) (can_provide c.args.self.now) (with_provided c.args.self.now) c.in_ok-line.line c.in_ok-line.ensures (sym c.can_provide.ensures ∙ c.if-not-can_provide.false) _ c.in_ok-push_provided.ensures
