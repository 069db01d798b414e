use Rattle.std.proofs.Common.{◌≡◌, refl, ap, sym, subst, ◌∙◌}
use Rattle.journal_log.specs.cny-base.Path.{is_path, parent}
use Rattle.journal_log.specs.tree-disk.Rows.{is_dir_at}
use Rattle.journal_log.specs.tree-disk.Tree.{Name}
use Rattle.journal_log.proofs.tree-disk.Names.{parent_join}
use Rattle.journal_log.proofs.tree-disk.StepLaws.{makes_stop}
use Rattle.std.specs.Prelude.{codes}
use Rattle.tree_journal.specs.Apply.{with_base}
use Rattle.tree_journal.specs.Steps.{HasNoStrays}
use Rattle.tree_journal.proofs.Emptied.{empties_nothing, empties_so, ends_both, has_empty_stage, stopped, makes_base_dir, makes_empty_stage, with_empty_stage}
use Rattle.tree_journal.proofs.OwnFiles.{base_stands}
use Rattle.tree_journal.proofs.OwnNames.{staged_is_path, staged_not_root}
use Rattle.tree_journal.proofs.emptying.empty_dir.Goals as goal

pub returns-in_err-sync : goal.returns-in_err-sync
returns-in_err-sync g c = empties_nothing _ g.met.D.TreeDisk.laws c.args.base.now c.requires.base c.args.disk.now c.requires.told (λ s. s ≡ c.in_err-sync.field-0.0) _ _
    (makes_stop {goal = λ tree. tree} c.in_err-sync.ensures.makes c.from_residual.ensures.1) c.from_residual.ensures.1

pub make_dir-requires-clause-parent : goal.make_dir-requires-clause-parent
make_dir-requires-clause-parent g c = λ tells. rw (c.in_ok-sync.ensures.makes.ended tells) (c.requires.told tells).parent_stands

pub returns-in_err-make_dir : goal.returns-in_err-make_dir
returns-in_err-make_dir g c =
    empties_so _ g.met.D.TreeDisk.laws c.args.base.now c.requires.base c.args.disk.now c.requires.told c.in_ok-sync.ensures.makes c.in_ok-sync.ensures.synced (with_base c.args.base.now) _ _
    (makes_base_dir c.args.base.now (makes_stop c.in_err-make_dir.ensures c.from_residual-in_err-make_dir.ensures.1))
    (λ tells. stopped _ (λ s. s ≡ c.in_err-make_dir.field-0.0) _ c.from_residual-in_err-make_dir.ensures.1)

pub clear_dir-requires-clause-path : goal.clear_dir-requires-clause-path
clear_dir-requires-clause-path g c = ap is_path c.requires.dir ∙ staged_is_path c.args.base.now c.requires.base c.requires.short

pub clear_dir-requires-clause-not_root : goal.clear_dir-requires-clause-not_root
clear_dir-requires-clause-not_root g c = λ is. staged_not_root c.args.base.now c.requires.base (sym c.requires.dir ∙ is)

pub clear_dir-requires-clause-parent : goal.clear_dir-requires-clause-parent
clear_dir-requires-clause-parent g c = λ tells.
    ap (λ (p : Name). is_dir_at (g.D.TreeDisk.disk.reads c.make_dir.new.disk) p) (ap parent c.requires.dir ∙ parent_join c.args.base.now (codes "p") c.requires.base refl)
    ∙ rw (c.in_ok-make_dir.ensures.ended tells) (base_stands c.args.base.now _)

pub returns : goal.returns
returns g c =
    let disk = g.D.TreeDisk.disk in
    let base = c.args.base.now in
    let run = makes_empty_stage {disk = disk} base c.args.dir.now c.in-Some.none c.requires.dir c.in_ok-make_dir.ensures c.clear_dir.ensures.makes in
    empties_so disk g.met.D.TreeDisk.laws base c.requires.base c.args.disk.now c.requires.told c.in_ok-sync.ensures.makes c.in_ok-sync.ensures.synced (with_empty_stage base c.in-Some.none) _ _ run
    (λ tells. ends_both disk.tells (with_empty_stage base c.in-Some.none (disk.reads c.sync.new.disk)) _ _ _ _ run.ended tells (c.clear_dir.ensures.clear tells)
    (λ done clear. has_empty_stage base c.requires.base c.requires.short c.in-Some.none (c.in-Some.ensures.some ∙ c.new.ensures.items) _ _ done (subst (λ (p : Name). HasNoStrays p c.in-Some.none (disk.reads c.clear_dir.new.disk)) c.requires.dir clear)))
