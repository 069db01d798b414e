-- What is so of contents without a condition.
use Rattle.std.specs.Prelude.{◌≡◌, false, List, map}
use Rattle.change_set.specs.declared.change.Carried.{Carried}
use Rattle.change_pull.specs.declared.staged.Staged.{Staged}
use Rattle.change_pull.specs.Files.{carried_in}
use Rattle.local_db.specs.journal-log.declared.put.Want.{Want}
use Rattle.local_db.specs.tree-disk.Tree.{Tree}
use Rattle.job_targets.specs.Old.{is_staged}

abbrev pub no_condition : Type 0
no_condition = Unit {0}

-- staged contents, by what a tree holds
abbrev pub listed_in : Tree → List Staged → List Carried
listed_in tree contents = map (carried_in tree) contents

pub any_given : (contents : List Staged) (w : Want) → is_staged w ≡ false → no_condition
any_given contents w given = tt
