-- The names of contents that stand in files.
use Rattle.std.proofs.Common.{List, map, ap}
use Rattle.std.proofs.lemmas.List.{get_or-map, length-map}
use Rattle.journal_log.specs.tree-disk.Tree.{Tree}
use Rattle.change_set.specs.declared.change.Carried.{Carried}
use Rattle.change_pull.specs.declared.staged.Staged.{Staged}
use Rattle.change_pull.specs.Files.{carried_in}
use Rattle.change_pull.specs.Incoming.{HaveNames}

-- what they are by what a disk reads has their names
pub have_names : (contents : List Staged) (tree : Tree) → HaveNames contents (map (carried_in tree) contents)
have_names contents tree = record {
  many = length-map contents (carried_in tree);
  each = λ place one content within. ap (λ (c : Carried). c.name) (get_or-map (carried_in tree) contents place one content within);
}
