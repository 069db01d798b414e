-- Write sets that name staged files, and the ones that they mean.
use Rattle.std.specs.Prelude.{◌≡◌, List}
use Rattle.rollback_stack.specs.cny-base.Reserved.{private_directory}
use Rattle.rollback_stack.specs.journal-log.declared.put.Put.{Put}
use Rattle.rollback_stack.specs.tree-disk.Tree.{Tree}
use Rattle.tree_journal.specs.Staging.{AllStaged}
use Rattle.job_targets.specs.Carrying.{whole_of}

-- The second write set is the first one with the bytes of the staged files that it names, and these stand.
pub record Means (x : Tree) (puts whole : List Put) : Type 0 where
  pub are : whole ≡ whole_of x puts
  pub stand : AllStaged private_directory x puts
