use Rattle.std.proofs.Common.{refl, ap, ◌∙◌}
use Rattle.journal_log.specs.cny-base.declared.node.Node.TheVariants as node
use Rattle.journal_log.specs.tree-disk.Disk.{one_name}
use Rattle.journal_log.specs.tree-disk.Rows.{bytes_at, with_rename}
use Rattle.journal_log.proofs.tree-disk.StepLaws.{makes_then, makes_stop, makes_wider}
use Rattle.journal_log.specs.tree-disk.Tree.{Tree}
use Rattle.journal_log.specs.Own.{staged_file}
use Rattle.tree_journal.proofs.Copies.{may_rename, moves, work_within, both_within, work_own}
use Rattle.tree_journal.proofs.Seen.{between_own, move_shows}
use Rattle.tree_journal.proofs.moving.put_file.Goals as goal

pub returns-in_err-make_file_at-clause-makes : goal.returns-in_err-make_file_at-clause-makes
returns-in_err-make_file_at-clause-makes g c = makes_stop (makes_wider (work_within c.args.base.now c.args.work_path.now c.args.path.now c.requires.work) c.in_err-make_file_at.ensures) c.from_residual.ensures.1

pub returns-in_err-make_file_at-clause-seen : goal.returns-in_err-make_file_at-clause-seen
returns-in_err-make_file_at-clause-seen g c = λ tells. between_own c.args.base.now (one_name c.args.work_path.now) _ _ _ (work_own c.args.base.now c.args.work_path.now c.requires.work) (c.in_err-make_file_at.ensures.confined tells)

pub make_file_at-requires-clause-told : goal.make_file_at-requires-clause-told
make_file_at-requires-clause-told g c = λ tells. (c.requires.told tells).workable

pub rename-requires : goal.rename-requires
rename-requires g c = λ tells.
    let tree = g.D.TreeDisk.disk.reads c.args.disk.now in
    rw (c.in_ok-make_file_at.ensures.ended tells, c.requires.work) (may_rename c.args.base.now tree c.args.path.now (c.requires.told tells) (node.File c.args.mode (bytes_at tree (staged_file c.args.base.now c.args.number))) refl)

pub returns-clause-makes : goal.returns-clause-makes
returns-clause-makes g c =
    let tree = g.D.TreeDisk.disk.reads c.args.disk.now in
    makes_then (makes_wider (work_within c.args.base.now c.args.work_path.now c.args.path.now c.requires.work) c.in_ok-make_file_at.ensures)
    (both_within c.args.base.now c.args.work_path.now c.args.path.now c.requires.work) c.rename.ensures.makes
    (λ tells. moves c.args.base.now tree c.args.path.now c.args.work_path.now (c.requires.told tells) (node.File c.args.mode (bytes_at tree (staged_file c.args.base.now c.args.number))) c.requires.work)

pub returns-clause-seen : goal.returns-clause-seen
returns-clause-seen g c = λ tells.
    let tree = g.D.TreeDisk.disk.reads c.args.disk.now in
    move_shows c.args.base.now (one_name c.args.work_path.now) _ _ _ tree _ _ (work_own c.args.base.now c.args.work_path.now c.requires.work) c.in_ok-make_file_at.ensures.later c.rename.ensures.makes.later
    (c.in_ok-make_file_at.ensures.confined tells) (c.rename.ensures.seen tells)
    (ap (λ (t : Tree). with_rename t c.args.work_path.now c.args.path.now) (c.in_ok-make_file_at.ensures.ended tells)
    ∙ moves c.args.base.now tree c.args.path.now c.args.work_path.now (c.requires.told tells) (node.File c.args.mode (bytes_at tree (staged_file c.args.base.now c.args.number))) c.requires.work)
