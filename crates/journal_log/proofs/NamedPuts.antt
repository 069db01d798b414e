-- A put whose path a log can name.
use Rattle.std.proofs.Common.{IsTrue}
use Rattle.tree_disk.specs.cny-base.Path.{is_path}
use Rattle.tree_disk.specs.Tree.{Name}
use Rattle.journal_log.specs.declared.put.Put.{Put}
use Rattle.journal_log.specs.WriteSet.{CanBeNamed}

pub record IsNamed (base : Name) (p : Put) : Type 0 where
  pub named : CanBeNamed base p.path
  pub path_is : IsTrue (is_path p.path)
