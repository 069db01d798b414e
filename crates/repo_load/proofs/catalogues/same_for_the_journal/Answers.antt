use Rattle.repo_load.proofs.HeldCatalogues.{same_state, same_catalogue, same_damage}
use Rattle.repo_load.proofs.catalogues.same_for_the_journal.Goals as goal

pub returns-clause-state : goal.returns-clause-state
returns-clause-state c x y r same h = same_state x y same r h

pub returns-clause-catalogue : goal.returns-clause-catalogue
returns-clause-catalogue c x y k same h = same_catalogue x y same k h

pub returns-clause-damaged : goal.returns-clause-damaged
returns-clause-damaged c x y path same h = same_damage x y same path h
