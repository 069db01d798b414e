use Rattle.change_rel.proofs.Leading.{equal_deps}
use Rattle.change_rel.proofs.OneResult.{one_rel}
use Rattle.cny_dep.specs.Dep.{dep_text}
use Rattle.trove_stream.proofs.Equal.{equal_ids, equal_lists}
use Rattle.change_rel.proofs.laws.one_relative.Goals as goal

pub returns : goal.returns
returns c =
    one_rel (λ i j i_is j_is is. c.distinct_ids.ensures.equal i j i_is j_is (equal_ids i j is))
    (λ i j i_is j_is is. equal_deps c.distinct_lists.ensures.deps i j i_is j_is (equal_lists (dep_text i) (dep_text j) is))
    (λ p q p_is q_is is. equal_lists p q is)
