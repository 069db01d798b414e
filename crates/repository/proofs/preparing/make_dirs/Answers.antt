use Rattle.std.proofs.Common.{◌∙◌, refl}
use Rattle.std.specs.FinMap.{get}
use Rattle.repo_load.specs.cny-base.Path.{parent}
use Rattle.repo_load.specs.tree-disk.Tree.{is_dir}
use Rattle.repo_load.proofs.tree-disk.StepLaws.{makes_then, makes_then_stop, makes_wider}
use Rattle.tree_journal.specs.Apply.{with_base}
use Rattle.tree_journal.proofs.OwnFiles.{base_stands}
use Rattle.repo_load.specs.Files.{contents_dir, repository_base}
use Rattle.repository.proofs.Readying.{base_within, dir_within}
use Rattle.tree_journal.proofs.Seen.{makes_answer as makes_value}
use Rattle.repository.proofs.preparing.make_dirs.Goals as goal

pub make_dir-requires-2-clause-parent : goal.make_dir-requires-2-clause-parent
make_dir-requires-2-clause-parent g c tells =
    let based = rw c.in_ok-base.ensures at (c.in_ok-make_dir.ensures.ended tells) in
    (λ i. is_dir (get (based i) (parent (c.in_ok-contents.ensures i)))) ∙ base_stands repository_base (g.D.TreeDisk.disk.reads c.args.disk.now)

pub returns-in_err-make_dir-2-clause-makes : goal.returns-in_err-make_dir-2-clause-makes
returns-in_err-make_dir-2-clause-makes g c =
    makes_then_stop {next = with_base contents_dir} (makes_wider base_within (rw c.in_ok-base.ensures at c.in_ok-make_dir.ensures)) dir_within (rw c.in_ok-contents.ensures at c.in_err-make_dir-2.ensures) c.from_residual-in_err-make_dir-2.ensures.1

pub returns-clause-makes : goal.returns-clause-makes
returns-clause-makes g c =
    makes_value c.in_ok-contents.contents (makes_then {next = with_base contents_dir} (makes_wider base_within (rw c.in_ok-base.ensures at c.in_ok-make_dir.ensures)) dir_within (rw c.in_ok-contents.ensures at c.in_ok-make_dir-2.ensures) (λ tells. refl))
