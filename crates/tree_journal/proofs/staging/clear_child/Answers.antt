use Rattle.std.proofs.Common.{ap}
use Rattle.journal_log.specs.tree-disk.Clear.{is_within, without_tree}
use Rattle.journal_log.proofs.tree-disk.ClearLaws.{below_within, within_join_below}
use Rattle.journal_log.proofs.tree-disk.StepLaws.{makes_as, makes_no_memory, makes_wider}
use Rattle.journal_log.proofs.cny-base.Faults.{passed_memory}
use Rattle.tree_journal.proofs.staging.clear_child.Goals as goal

pub returns-in_err-child : goal.returns-in_err-child
returns-in_err-child g c = makes_no_memory g.met.D.TreeDisk.laws (is_within c.args.dir.now) c.args.disk.now (passed_memory _ c.from_residual.result c.from_residual.ensures.1 c.in_err-child.ensures.memory)

pub clear_tree-requires : goal.clear_tree-requires
clear_tree-requires g c = c.in_ok-child.ensures.child.not_root

pub returns : goal.returns
returns g c =
    let up = c.in_ok-child.ensures.child in
    makes_as (makes_wider (λ q h. below_within c.args.dir.now q (within_join_below c.args.dir.now c.args.last.now q c.requires.path c.requires.not_root (rw up.is at h))) c.clear_tree.ensures)
    (λ tells. ap (without_tree (g.D.TreeDisk.disk.reads c.args.disk.now)) up.is)
