use Rattle.journal_log.proofs.tree-disk.StepLaws.{makes_then}
use Rattle.tree_journal.proofs.OwnFiles.{may_make_removed, may_remove_other, node_replaced}
use Rattle.journal_log.specs.cny-base.declared.node.Node.TheVariants as node
use Rattle.tree_journal.proofs.directory.replace_by_dir.Goals as goal

pub remove-requires : goal.remove-requires
remove-requires g c tells = may_remove_other _ c.args.path.now (c.requires.parent tells) (c.requires.stands tells)

pub new_dir-requires : goal.new_dir-requires
new_dir-requires g c = λ tells. rw (c.in_ok-remove.ensures.makes.ended tells) (may_make_removed _ c.args.path.now c.requires.path (c.requires.parent tells) (c.requires.stands tells))

pub returns : goal.returns
returns g c = makes_then c.in_ok-remove.ensures.makes (λ p h. h) c.new_dir.ensures (λ tells. node_replaced _ c.args.path.now (node.Dir 493))
