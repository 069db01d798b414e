use Rattle.repo_shadow.proofs.OneMove.{one_made, made_unrefused, one_refusal}
use Rattle.repo_shadow.proofs.shadow.one_move.Goals as goal

pub returns-clause-made : goal.returns-clause-made
returns-clause-made c = one_made c.one_expansion.ensures

pub returns-clause-unrefused : goal.returns-clause-unrefused
returns-clause-unrefused c = made_unrefused c.one_expansion.ensures

pub returns-clause-refusal : goal.returns-clause-refusal
returns-clause-refusal c = one_refusal c.one_expansion.ensures
