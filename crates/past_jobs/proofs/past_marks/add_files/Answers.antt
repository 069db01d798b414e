use Rattle.std.proofs.Common.{◌≡◌, ◌+◌, ◌-◌, ◌&&◌, ◌∷◌, ℕ, get_or, Some, List, cond, length, drop, sym, ap, ◌∙◌, subst, arith}
use Rattle.local_db.specs.trove-parts.declared.files.FileAt.{FileAt}
use Rattle.tree_scan.specs.declared.mark.Mark.{Mark}
use Rattle.local_db.specs.Installed.{record_at, first_mark}
use Rattle.local_db.specs.tree-disk.Tree.{same_name}
use Rattle.past_jobs.specs.Table.{mark_at}
use Rattle.past_jobs.proofs.Added.{one_more}
use Rattle.past_jobs.proofs.Joining.{drop_next}
use Rattle.past_jobs.proofs.past_marks.add_files.Goals as goal

pub loop-behind-preserved : goal.loop-behind-preserved
loop-behind-preserved c = λ p n.
    let whole : drop (length c.args.files.now - (c.loop-behind.behind + 1)) c.args.files.now ≡ c.index-files-files.result ∷ drop (length c.args.files.now - c.loop-behind.behind) c.args.files.now =
    drop_next c.args.files.now (length c.args.files.now - (c.loop-behind.behind + 1)) (length c.args.files.now - c.loop-behind.behind) c.index-files-files.result (omega arith) (omega arith)
    (c.index-files-files.is ∙ ap (λ (i : ℕ). get_or c.args.files.now i c.index-files-files.result) (omega arith)) in
    subst (λ (l : List FileAt). mark_at c.add_mark.new.marks p n ≡ cond (same_name c.args.name.now n) (first_mark (record_at l p) (mark_at c.args.marks.now p n)) (mark_at c.args.marks.now p n)) (sym whole)
    (one_more c.args.marks.now c.loop-behind.marks c.add_mark.new.marks c.args.name.now c.index-files-files.result (drop (length c.args.files.now - c.loop-behind.behind) c.args.files.now) c.loop-behind.invariant
    (λ q m. c.in_ok-add_mark.ensures q m ∙ ap (λ (k : Mark). cond (same_name c.index-files-files.result.path q && same_name c.args.name.now m) (Some k) (mark_at c.loop-behind.marks q m)) c.in_ok-mark.ensures.value) p n)
