use Rattle.std.proofs.Common.{◌≡◌, List, drop}
use Rattle.std.specs.List.Sorted.{IsStrictlySortedBy}
use Rattle.repo_load.specs.tree-disk.Tree.{Tree}
use Rattle.repo_load.specs.journal-log.Own.{staged}
use Rattle.change_set.specs.ChangeSet.{content_cmp}
use Rattle.change_set.specs.declared.change.Carried.{Carried}
use Rattle.repo_load.specs.Files.{repository_base}
use Rattle.repository.specs.Tests.{missing_content}
use Rattle.repository.proofs.contents.check_files.Given as goal

abbrev pub invariant-loop-file : goal.invariant-loop-file
invariant-loop-file g l = (listed : List Carried) (tree : Tree) → IsStrictlySortedBy content_cmp listed → g.I.Incoming.stand l.contents (staged repository_base) listed tree
    → missing_content l.committed.troves listed (drop l.file-index l.files) ≡ missing_content l.committed.troves listed l.files
