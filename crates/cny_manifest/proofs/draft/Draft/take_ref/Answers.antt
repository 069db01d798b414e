use Rattle.std.proofs.Common.{sym, ◌∙◌}
use Rattle.cny_manifest.specs.Body.{with_ref, can_refer}
use Rattle.cny_manifest.specs.Grammar.{InBody, IsRefField}
use Rattle.cny_manifest.proofs.Steps.{line_barred, line_takes, line_unread}
use Rattle.cny_manifest.proofs.draft.Draft.take_ref.Goals as goal

pub returns-in_err-id : goal.returns-in_err-id
returns-in_err-id c = line_unread (IsRefField c.args.fields.now) (can_refer c.args.self.now) (λ x. InBody (with_ref c.args.self.now x)) (InBody c.args.self.now) c.in_err-id.field-0.0 c.in_err-id.ensures c.from_residual.result c.from_residual.ensures.1

pub returns-then-not-can_refer : goal.returns-then-not-can_refer
returns-then-not-can_refer c = line_barred (IsRefField c.args.fields.now) (can_refer c.args.self.now) (λ x. InBody (with_ref c.args.self.now x)) c.in_ok-id.id c.in_ok-id.ensures (sym c.can_refer.ensures ∙ c.if-not-can_refer.true)

pub returns : goal.returns
returns c = line_takes (IsRefField c.args.fields.now) (can_refer c.args.self.now) (with_ref c.args.self.now) c.in_ok-id.id c.in_ok-id.ensures (sym c.can_refer.ensures ∙ c.if-not-can_refer.false) _ c.in_ok-push_ref.ensures
