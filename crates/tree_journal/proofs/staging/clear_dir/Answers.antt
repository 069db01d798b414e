use Rattle.std.proofs.Common.{refl, ap, sym, subst, ◌∙◌}
use Rattle.std.specs.Prelude.{List, ℕ}
use Rattle.journal_log.specs.tree-disk.Clear.{is_within}
use Rattle.journal_log.proofs.tree-disk.ClearLaws.{itself_within}
use Rattle.journal_log.specs.tree-disk.Tree.{children, WellFormed}
use Rattle.journal_log.proofs.tree-disk.StepLaws.{makes_stop, makes_then, makes_after_test, makes_test_stop, makes_wider, tests_value}
use Rattle.tree_journal.specs.Apply.{with_base}
use Rattle.tree_journal.specs.Steps.{without_strays, with_stage, HasNoStrays}
use Rattle.tree_journal.proofs.OwnFiles.{base_stands, ends_so}
use Rattle.tree_journal.proofs.StagedBytes.{no_strays}
use Rattle.tree_journal.proofs.staging.clear_dir.Goals as goal

pub returns-in_err-make_dir-clause-makes : goal.returns-in_err-make_dir-clause-makes
returns-in_err-make_dir-clause-makes g c = makes_stop (makes_wider (itself_within c.args.dir.now) c.in_err-make_dir.ensures) c.from_residual.ensures.1

pub list-requires : goal.list-requires
list-requires g c = λ tells. rw (c.in_ok-make_dir.ensures.ended tells) (base_stands c.args.dir.now _)

pub returns-in_err-names-clause-makes : goal.returns-in_err-names-clause-makes
returns-in_err-names-clause-makes g c =
    makes_then {next = λ tree. without_strays c.args.puts.now c.args.dir.now (children tree c.args.dir.now) tree} {goal = with_stage c.args.dir.now c.args.puts.now} (makes_wider (itself_within c.args.dir.now) c.in_ok-make_dir.ensures) (λ p h. h)
    (makes_test_stop g.met.D.TreeDisk.laws (is_within c.args.dir.now) c.in_err-names.ensures.tests c.in_err-names.ensures.stops c.from_residual-in_err-names.ensures.1) (λ tells. refl)

pub returns-clause-makes : goal.returns-clause-makes
returns-clause-makes g c =
    makes_then {next = λ tree. without_strays c.args.puts.now c.args.dir.now (children tree c.args.dir.now) tree} {goal = with_stage c.args.dir.now c.args.puts.now} (makes_wider (itself_within c.args.dir.now) c.in_ok-make_dir.ensures) (λ p h. h)
    (makes_after_test g.met.D.TreeDisk.laws c.in_ok-names.ensures.tests c.clear_strays.ensures (λ tells.
    ap (λ (names : List (List ℕ)). without_strays c.args.puts.now c.args.dir.now names (g.D.TreeDisk.disk.reads c.make_dir.new.disk)) (c.get.ensures ∙ tests_value c.in_ok-names.ensures.tests tells)))
    (λ tells. refl)

pub returns-clause-clear : goal.returns-clause-clear
returns-clause-clear g c = λ tells.
    let tree = g.D.TreeDisk.disk.reads c.args.disk.now in
    ends_so g.D.TreeDisk.disk.tells (with_stage c.args.dir.now c.args.puts.now tree) _ _ _ _ (returns-clause-makes g c).ended tells
    (λ done. subst (HasNoStrays c.args.dir.now c.args.puts.now) (sym done)
    (no_strays c.args.puts.now c.args.dir.now c.requires.path (with_base c.args.dir.now tree) (subst WellFormed (c.in_ok-make_dir.ensures.ended tells) (g.met.D.TreeDisk.laws.reads_well_formed c.make_dir.new.disk))))
