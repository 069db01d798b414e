use Rattle.std.proofs.Common.{◌≡◌, ◌+◌, ◌-◌, ◌&&◌, ◌∷◌, ℕ, None, is_some, List, cond, length, drop, get_or, sym, ap, ◌∙◌, subst, arith}
use Rattle.local_db.specs.trove-parts.declared.files.FileAt.{FileAt}
use Rattle.local_db.specs.Installed.{record_at}
use Rattle.local_db.specs.tree-disk.Tree.{same_name}
use Rattle.past_jobs.specs.Table.{mark_at}
use Rattle.past_jobs.proofs.Added.{one_less}
use Rattle.past_jobs.proofs.Joining.{drop_next}
use Rattle.past_jobs.proofs.past_marks.remove_files.Goals as goal

pub loop-behind-preserved : goal.loop-behind-preserved
loop-behind-preserved c = λ p n.
    let whole : drop (length c.args.files.now - (c.loop-behind.behind + 1)) c.args.files.now ≡ c.index-files-files.result ∷ drop (length c.args.files.now - c.loop-behind.behind) c.args.files.now =
    drop_next c.args.files.now (length c.args.files.now - (c.loop-behind.behind + 1)) (length c.args.files.now - c.loop-behind.behind) c.index-files-files.result (omega arith) (omega arith)
    (c.index-files-files.is ∙ ap (λ (i : ℕ). get_or c.args.files.now i c.index-files-files.result) (omega arith)) in
    subst (λ (l : List FileAt). mark_at c.remove_mark.new.marks p n ≡ cond (same_name c.args.name.now n && is_some (record_at l p)) None (mark_at c.args.marks.now p n)) (sym whole)
    (one_less c.args.marks.now c.loop-behind.marks c.remove_mark.new.marks c.args.name.now c.index-files-files.result (drop (length c.args.files.now - c.loop-behind.behind) c.args.files.now) c.loop-behind.invariant
    c.in_ok-remove_mark.ensures p n)
