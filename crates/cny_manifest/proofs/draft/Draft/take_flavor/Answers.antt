use Rattle.std.proofs.Common.{sym, ◌∙◌}
use Rattle.cny_manifest.specs.Body.{with_flavor, can_have_flavor}
use Rattle.cny_manifest.specs.Grammar.{InBody, IsFlavorField}
use Rattle.cny_manifest.proofs.Steps.{line_barred, line_takes, line_unread}
use Rattle.cny_manifest.proofs.draft.Draft.take_flavor.Goals as goal

pub returns-in_err-flavor : goal.returns-in_err-flavor
returns-in_err-flavor c = line_unread (IsFlavorField c.args.fields.now) (λ x. can_have_flavor c.args.self.now) (λ x. InBody (with_flavor c.args.self.now x)) (InBody c.args.self.now) c.in_err-flavor.field-0.0 c.in_err-flavor.ensures c.from_residual.result c.from_residual.ensures.1

pub returns-then-not-can_have_flavor : goal.returns-then-not-can_have_flavor
returns-then-not-can_have_flavor c = line_barred (IsFlavorField c.args.fields.now) (λ x. can_have_flavor c.args.self.now) (λ x. InBody (with_flavor c.args.self.now x)) c.in_ok-flavor.flavor c.in_ok-flavor.ensures (sym c.can_have_flavor.ensures ∙ c.if-not-can_have_flavor.true)

pub returns : goal.returns
returns c = line_takes (IsFlavorField c.args.fields.now) (λ x. can_have_flavor c.args.self.now) (with_flavor c.args.self.now) c.in_ok-flavor.flavor c.in_ok-flavor.ensures (sym c.can_have_flavor.ensures ∙ c.if-not-can_have_flavor.false) _ c.set_flavor.ensures
