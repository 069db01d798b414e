use Rattle.std.proofs.Common.{◌≡◌, Some, Err, sym, ◌∙◌}
use Rattle.cny_manifest.specs.declared.entries.DirLine.{DirLine}
use Rattle.cny_manifest.specs.Body.{with_dir, can_record}
use Rattle.cny_manifest.specs.Entries.{dir_of}
use Rattle.cny_manifest.specs.Grammar.{InBody}
use Rattle.cny_manifest.proofs.Steps.{line_barred, line_takes, line_unread, only_found, as_only}
use Rattle.cny_manifest.proofs.draft.Draft.take_dir.Goals as goal

pub returns-in_err-line : goal.returns-in_err-line
returns-in_err-line c =
    line_unread (λ (x : DirLine). dir_of c.args.self.now.owners c.args.fields.now ≡ Some x) (λ (x : DirLine). can_record c.args.self.now x.path) (λ x. InBody (with_dir c.args.self.now x)) (InBody c.args.self.now) c.in_err-line.field-0.0
    (as_only (dir_of c.args.self.now.owners c.args.fields.now) (Err c.in_err-line.field-0.0) c.in_err-line.ensures) c.from_residual.result c.from_residual.ensures.1

pub returns-then-not-can_record : goal.returns-then-not-can_record
returns-then-not-can_record c =
    line_barred (λ (x : DirLine). dir_of c.args.self.now.owners c.args.fields.now ≡ Some x) (λ (x : DirLine). can_record c.args.self.now x.path) (λ x. InBody (with_dir c.args.self.now x)) c.in_ok-line.line
    (only_found (dir_of c.args.self.now.owners c.args.fields.now) c.in_ok-line.line c.in_ok-line.ensures) (sym c.can_record.ensures ∙ c.if-not-can_record.true)

pub returns : goal.returns
returns c =
    line_takes (λ (x : DirLine). dir_of c.args.self.now.owners c.args.fields.now ≡ Some x) (λ (x : DirLine). can_record c.args.self.now x.path) (with_dir c.args.self.now) c.in_ok-line.line
    (only_found (dir_of c.args.self.now.owners c.args.fields.now) c.in_ok-line.line c.in_ok-line.ensures) (sym c.can_record.ensures ∙ c.if-not-can_record.false) _ c.in_ok-push_dir.ensures
