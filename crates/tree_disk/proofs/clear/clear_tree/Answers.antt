use Rattle.std.proofs.Common.{ap, ◌∙◌}
use Rattle.std.specs.FinMap.{get}
use Rattle.tree_disk.proofs.ClearLaws.{bare_without}
use Rattle.tree_disk.proofs.clear.clear_tree.Goals as goal

pub returns-in-Ok-clause-cleared : goal.returns-in-Ok-clause-cleared
returns-in-Ok-clause-cleared g c tells q within = ap (λ tree. get tree q) (c.in-Ok.ensures.ended tells) ∙ bare_without _ _ q within
