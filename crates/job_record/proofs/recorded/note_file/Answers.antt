use Rattle.std.proofs.Common.{cond, Some, sym, ap, ◌∙◌, true≢false}
use Rattle.local_db.specs.tree-disk.Tree.{Name, same_name}
use Rattle.tree_scan.specs.declared.mark.Mark.{Mark}
use Rattle.job_record.specs.Recorded.{mark_at}
use Rattle.job_record.proofs.Noted.{note_missing, note_there, note_new}
use Rattle.job_record.proofs.recorded.note_file.Goals as goal

pub returns-then-not-has_change : goal.returns-then-not-has_change
returns-then-not-has_change c =
    note_missing c.args.changes.now c.args.file.now c.args.marks.now (λ is. true≢false (sym (c.has_change.ensures is) ∙ c.if-not-has_change.true))

pub returns-then-contains_key : goal.returns-then-contains_key
returns-then-contains_key c =
    note_there c.args.changes.now c.args.file.now c.args.marks.now (sym c.contains_key.ensures ∙ c.if-contains_key.true)

pub returns : goal.returns
returns c =
    note_new c.args.changes.now c.args.file.now c.args.marks.now c.insert.new.self (sym c.contains_key.ensures ∙ c.if-contains_key.false)
    (λ q. c.in_ok-insert.ensures.updates.0 q
    ∙ ap (λ (k : Name). cond (same_name k q) (Some c.in_ok-mark.mark) (mark_at c.args.marks.now q)) c.in_ok-path.ensures
    ∙ ap (λ (m : Mark). cond (same_name c.args.file.now.path q) (Some m) (mark_at c.args.marks.now q)) c.in_ok-mark.ensures.value)
