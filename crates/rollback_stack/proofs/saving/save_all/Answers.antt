use Rattle.std.proofs.Common.{◌≤◌, List, ℕ, length, subst, sym, ◌∙◌, ap, arith}
use Rattle.std.proofs.lemmas.List.{take_all}
use Rattle.job_targets.specs.cny-base.Path.{is_path, parent}
use Rattle.job_targets.specs.tree-disk.Clear.{is_within}
use Rattle.job_targets.specs.tree-disk.Confined.{Among}
use Rattle.job_targets.proofs.tree-disk.ConfinedLaws.{confined_on, confined_start, confined_wider}
use Rattle.job_targets.specs.tree-disk.Rows.{is_dir_at}
use Rattle.job_targets.specs.tree-disk.Tree.{Name}
use Rattle.local_db.specs.Names.{saved}
use Rattle.local_db.proofs.FileNames.{saved_is_path}
use Rattle.job_targets.specs.declared.entry.Entry.{Entry}
use Rattle.rollback_stack.specs.Saving.{HoldsOld}
use Rattle.rollback_stack.proofs.Keeping.{base_stays}
use Rattle.rollback_stack.proofs.Places.{saved_parent}
use Rattle.job_targets.proofs.tree-journal.Preparing.{prepares_stop}
use Rattle.rollback_stack.proofs.Saved.{are_saved, entry_within, holds_more_in, holds_none, may_hold_in}
use Rattle.job_targets.proofs.Paths.{saved_short}
use Rattle.rollback_stack.proofs.saving.save_all.Goals as goal

pub loop-entry-init : goal.loop-entry-init
loop-entry-init g c = record {
  later = omega arith;
  confined = λ tells. confined_start g.met.D.TreeDisk.laws (Among (is_within (saved c.args.number))) c.args.disk.now;
  holds = λ tells. holds_none (saved c.args.number) (g.D.TreeDisk.disk.reads c.args.disk.now) (c.requires.bare tells);
}

pub save_old-requires-clause-path : goal.save_old-requires-clause-path
save_old-requires-clause-path g c = ap is_path c.in_ok-dir.ensures ∙ saved_is_path c.args.number (omega arith)

pub save_old-requires-clause-short : goal.save_old-requires-clause-short
save_old-requires-clause-short g c = subst (λ (l : List ℕ). length l ≤ 983) (sym c.in_ok-dir.ensures) (saved_short c.args.number (omega arith))

pub save_old-requires-clause-parent : goal.save_old-requires-clause-parent
save_old-requires-clause-parent g c tells =
    let now = g.D.TreeDisk.disk.reads c.loop-entry.disk in
    ap (λ (d : Name). is_dir_at now (parent d)) c.in_ok-dir.ensures
    ∙ ap (is_dir_at now) (saved_parent c.args.number (omega arith))
    ∙ base_stays c.args.number (g.D.TreeDisk.disk.reads c.args.disk.now) now (c.loop-entry.invariant.confined tells).reads (c.requires.base tells)

pub save_old-requires-clause-free : goal.save_old-requires-clause-free
save_old-requires-clause-free g c tells =
    may_hold_in c.args.number c.in_ok-dir.dir c.args.entries.now c.loop-entry.entry-index c.entry-item.result (g.D.TreeDisk.disk.reads c.loop-entry.disk) c.in_ok-dir.ensures c.requires.agree
    (omega arith) c.entry-item.is (c.loop-entry.invariant.holds tells)

pub returns-in_err-save_old : goal.returns-in_err-save_old
returns-in_err-save_old g c =
    prepares_stop _ c.loop-entry.invariant.later c.loop-entry.invariant.confined c.in_err-save_old.ensures.later
    (λ tells. confined_wider (entry_within c.args.number c.in_ok-dir.dir c.entry-item.result.was c.in_ok-dir.ensures) (c.in_err-save_old.ensures.confined tells))
    c.in_err-save_old.ensures.ends c.from_residual-in_err-save_old.ensures.1

pub loop-entry-preserved : goal.loop-entry-preserved
loop-entry-preserved g c =
    let run = c.in_ok-save_old.ensures in record {
      later = omega (arith, c.loop-entry.invariant.later, run.later);
      confined = λ tells. confined_on (c.loop-entry.invariant.confined tells) (entry_within c.args.number c.in_ok-dir.dir c.entry-item.result.was c.in_ok-dir.ensures) (run.confined tells);
      holds = λ tells. holds_more_in c.args.number c.in_ok-dir.dir c.args.entries.now c.loop-entry.entry-index c.entry-item.result (g.D.TreeDisk.disk.reads c.loop-entry.disk) (g.D.TreeDisk.disk.reads c.save_old.new.disk)
          c.in_ok-dir.ensures c.requires.agree (omega arith) c.entry-item.is (run.confined tells).reads (c.loop-entry.invariant.holds tells) (run.ends tells);
    }

pub returns : goal.returns
returns g c = record {
  later = c.loop-entry.invariant.later;
  ends = λ tells. are_saved c.args.number c.args.entries.now (g.D.TreeDisk.disk.reads c.loop-entry.disk) c.requires.given
      (subst (λ (l : List Entry). HoldsOld l (saved c.args.number) (g.D.TreeDisk.disk.reads c.loop-entry.disk)) (take_all c.loop-entry.entry-index c.args.entries.now (omega arith)) (c.loop-entry.invariant.holds tells));
  confined = c.loop-entry.invariant.confined;
}
