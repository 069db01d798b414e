use Rattle.std.proofs.Common.{ap, ◌∙◌}
use Rattle.journal_log.specs.cny-base.declared.node.Node.TheVariants as node
use Rattle.journal_log.specs.tree-disk.Rows.{bytes_at, with_node}
use Rattle.journal_log.proofs.tree-disk.StepLaws.{makes_then}
use Rattle.journal_log.specs.tree-disk.Tree.{Name}
use Rattle.std.specs.Fmt.{decimal}
use Rattle.journal_log.specs.cny-base.Path.{is_path, join}
use Rattle.tree_journal.proofs.Copies.{may_work, may_set_file_mode, with_file_mode}
use Rattle.tree_journal.proofs.moving.make_file_at.Goals as goal

pub path_of-requires : goal.path_of-requires
path_of-requires g c = ap (λ (d : Name). is_path (join d (decimal c.args.number))) c.requires.dir ∙ c.requires.staged

pub copy_file-requires : goal.copy_file-requires
copy_file-requires g c = λ tells. record {
  file = rw (c.in_ok-from.ensures.path, c.requires.dir) (c.requires.stands tells);
  can = rw c.requires.work (may_work c.args.base.now c.requires.base _ (c.requires.told tells));
}

pub set_mode-requires : goal.set_mode-requires
set_mode-requires g c = λ tells. rw (c.in_ok-copy_file.ensures.ended tells) (may_set_file_mode _ c.args.work_path.now _)

pub returns : goal.returns
returns g c = makes_then c.in_ok-copy_file.ensures (λ p h. h) c.set_mode.ensures.makes
    (λ tells. with_file_mode _ c.args.work_path.now c.args.mode _
    ∙ ap (λ (p : Name). with_node (g.D.TreeDisk.disk.reads c.args.disk.now) c.args.work_path.now (node.File c.args.mode (bytes_at (g.D.TreeDisk.disk.reads c.args.disk.now) p))) (c.in_ok-from.ensures.path ∙ ap (λ (d : Name). join d (decimal c.args.number)) c.requires.dir))
