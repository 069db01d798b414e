use Rattle.std.proofs.Common.{cond, List, ℕ, Option, Some, sym, ap, ◌∙◌}
use Rattle.std.specs.BTreeMap.{get}
use Rattle.std.specs.Cmp.Lexicographic.{slice_cmp}
use Rattle.std.specs.Ordering.{nat_cmp}
use Rattle.local_db.specs.tree-disk.Tree.{same_name}
use Rattle.past_jobs.specs.Table.{mark_beside}
use Rattle.past_jobs.specs.declared.past_marks.Recorder.{Recorder}
use Rattle.past_jobs.proofs.Added.{beside}
use Rattle.past_jobs.proofs.past_marks.with_mark.Goals as goal

pub returns : goal.returns
returns c = λ n.
    let other = get (slice_cmp nat_cmp) c.args.recorders.others n in
    ap (cond (same_name c.in-Some.first.name n) (Some c.in-Some.first.mark))
    (c.in_ok-insert.ensures.updates.0 n ∙ ap (λ (q : List ℕ). cond (same_name q n) (Some c.args.mark) other) c.in_ok-copy.ensures)
    ∙ beside c.in-Some.first.name c.args.name.now c.in-Some.first.mark (Some c.args.mark) other n (sym c.eq.ensures ∙ c.if-eq.false)
    ∙ ap (λ (o : Option Recorder). cond (same_name c.args.name.now n) (Some c.args.mark) (mark_beside o other n)) (sym c.in-Some.is)
