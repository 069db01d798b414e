use Rattle.system_core.proofs.tree-disk.Laws.{get_put_other}
use Rattle.cny_laws.proofs.EditedSystems.{edited_stored, fixed_kept}
use Rattle.cny_laws.proofs.edits.edited_system.Goals as goal

pub returns-clause-stored : goal.returns-clause-stored
returns-clause-stored c x s e is stores = edited_stored x s e is.not_reserved is.leaves_tree stores

pub returns-clause-others : goal.returns-clause-others
returns-clause-others c x e q other = get_put_other x e.path e.node q other

pub returns-clause-fixed : goal.returns-clause-fixed
returns-clause-fixed c x e is = fixed_kept x e.path e.node is.not_pinned
