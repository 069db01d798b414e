-- A pull may begin where a directory is empty.
use Rattle.std.proofs.Common.{◌||◌, not, [], Option, is_some, ap, ◌∙◌}
use Rattle.journal_log.specs.cny-base.Path.{parent}
use Rattle.journal_log.specs.cny-base.declared.node.Node.{Node}
use Rattle.journal_log.specs.tree-disk.Tree.{Name, Tree}
use Rattle.journal_log.specs.tree-disk.Rows.{is_dir_at, is_empty_at, is_file_at}
use Rattle.journal_log.proofs.cny-base.Bools.{both, or_left}
use Rattle.change_pull.specs.Files.{HoldsFiles, HasRoomFrom, IsEmptyDir, number_path}
use Rattle.change_pull.proofs.Disks.{number_below, parent_is}

module _ (tree : Tree) (dir : Name) (is : IsEmptyDir tree dir) where
  -- there is room for all files
  pub room_in_empty : HasRoomFrom tree dir 0
  room_in_empty = record {
    stands = is.stands;
    free = λ later from small.
        let q : Name = number_path dir later in
        both (is_dir_at tree (parent q)) (is_empty_at tree q || is_file_at tree q) (ap (is_dir_at tree) (parent_is dir later is.path small) ∙ is.stands)
        (or_left (is_empty_at tree q) (is_file_at tree q) (ap (λ (o : Option Node). not (is_some o)) (is.empty q (number_below dir later is.path is.not_root))));
  }

  -- and none stands
  pub no_files_in_empty : HoldsFiles tree dir []
  no_files_in_empty = record {
    each = λ number small. is.empty (number_path dir number) (number_below dir number is.path is.not_root);
    others = λ name low apart. is.empty name low;
  }
