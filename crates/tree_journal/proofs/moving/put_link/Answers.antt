use Rattle.std.proofs.Common.{refl, ap, ◌∙◌}
use Rattle.journal_log.specs.cny-base.declared.node.Node.TheVariants as node
use Rattle.journal_log.specs.tree-disk.Disk.{one_name}
use Rattle.journal_log.specs.tree-disk.Rows.{with_rename}
use Rattle.journal_log.proofs.tree-disk.StepLaws.{makes_then, makes_stop, makes_wider}
use Rattle.journal_log.specs.tree-disk.Tree.{Tree}
use Rattle.tree_journal.proofs.Copies.{may_work, may_rename, moves, work_within, both_within, work_own}
use Rattle.tree_journal.proofs.Seen.{between_own, move_shows}
use Rattle.tree_journal.proofs.moving.put_link.Goals as goal

pub make_link-requires : goal.make_link-requires
make_link-requires g c = λ tells. rw c.requires.work (may_work c.args.base.now c.requires.base _ (c.requires.told tells).workable)

pub returns-in_err-make_link-clause-makes : goal.returns-in_err-make_link-clause-makes
returns-in_err-make_link-clause-makes g c = makes_stop (makes_wider (work_within c.args.base.now c.args.work_path.now c.args.path.now c.requires.work) c.in_err-make_link.ensures.makes) c.from_residual.ensures.1

pub returns-in_err-make_link-clause-seen : goal.returns-in_err-make_link-clause-seen
returns-in_err-make_link-clause-seen g c = λ tells. between_own c.args.base.now (one_name c.args.work_path.now) _ _ _ (work_own c.args.base.now c.args.work_path.now c.requires.work) (c.in_err-make_link.ensures.makes.confined tells)

pub rename-requires : goal.rename-requires
rename-requires g c = λ tells. rw (c.in_ok-make_link.ensures.makes.ended tells, c.requires.work) (may_rename c.args.base.now _ c.args.path.now (c.requires.told tells) (node.Link c.args.target.now) refl)

pub returns-clause-makes : goal.returns-clause-makes
returns-clause-makes g c =
    makes_then (makes_wider (work_within c.args.base.now c.args.work_path.now c.args.path.now c.requires.work) c.in_ok-make_link.ensures.makes)
    (both_within c.args.base.now c.args.work_path.now c.args.path.now c.requires.work) c.rename.ensures.makes
    (λ tells. moves c.args.base.now _ c.args.path.now c.args.work_path.now (c.requires.told tells) (node.Link c.args.target.now) c.requires.work)

pub returns-clause-seen : goal.returns-clause-seen
returns-clause-seen g c = λ tells.
    let tree = g.D.TreeDisk.disk.reads c.args.disk.now in
    move_shows c.args.base.now (one_name c.args.work_path.now) _ _ _ tree _ _ (work_own c.args.base.now c.args.work_path.now c.requires.work) c.in_ok-make_link.ensures.makes.later c.rename.ensures.makes.later
    (c.in_ok-make_link.ensures.makes.confined tells) (c.rename.ensures.seen tells)
    (ap (λ (t : Tree). with_rename t c.args.work_path.now c.args.path.now) (c.in_ok-make_link.ensures.makes.ended tells)
    ∙ moves c.args.base.now _ c.args.path.now c.args.work_path.now (c.requires.told tells) (node.Link c.args.target.now) c.requires.work)
