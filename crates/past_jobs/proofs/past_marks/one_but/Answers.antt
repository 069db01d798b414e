use Rattle.std.proofs.Common.{cond, None, Option, sym, ap, ◌∙◌}
use Rattle.local_db.specs.tree-disk.Tree.{same_name}
use Rattle.past_jobs.specs.Table.{mark_beside}
use Rattle.past_jobs.specs.declared.past_marks.Recorder.{Recorder}
use Rattle.past_jobs.proofs.Added.{beside}
use Rattle.past_jobs.proofs.past_marks.one_but.Goals as goal

pub returns : goal.returns
returns c = λ n other.
    beside c.in-Some.first.name c.args.name.now c.in-Some.first.mark None other n (sym c.eq.ensures ∙ c.if-eq.false)
    ∙ ap (λ (o : Option Recorder). cond (same_name c.args.name.now n) None (mark_beside o other n)) (sym c.in-Some.is)
