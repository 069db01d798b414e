use Rattle.repo_load.proofs.HeldCatalogues.{held_after, kept_before, one_catalogue}
use Rattle.repo_load.proofs.catalogues.catalogue_after_commit.Goals as goal

pub returns-clause-before : goal.returns-clause-before
returns-clause-before c = kept_before

pub returns-clause-after : goal.returns-clause-after
returns-clause-after c = held_after

pub returns-clause-only : goal.returns-clause-only
returns-clause-only c = one_catalogue c.one_commit.ensures
