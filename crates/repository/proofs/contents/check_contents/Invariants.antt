use Rattle.std.proofs.Common.{◌≡◌, List, drop}
use Rattle.std.specs.List.Sorted.{IsStrictlySortedBy}
use Rattle.repo_load.specs.tree-disk.Tree.{Tree}
use Rattle.repo_load.specs.journal-log.Own.{staged}
use Rattle.change_set.specs.ChangeSet.{content_cmp}
use Rattle.change_set.specs.declared.change.Carried.{Carried}
use Rattle.repo_load.specs.Files.{repository_base}
use Rattle.repository.specs.Tests.{missing_content}
use Rattle.change_rel.specs.trove-stream.FilesOf.{files_of}
use Rattle.repository.proofs.contents.check_contents.Given as goal

abbrev pub invariant-loop-trove : goal.invariant-loop-trove
invariant-loop-trove g l = (listed : List Carried) (tree : Tree) → IsStrictlySortedBy content_cmp listed → g.I.Incoming.stand l.contents (staged repository_base) listed tree
    → missing_content l.committed.troves listed (files_of (drop l.trove-index l.troves)) ≡ missing_content l.committed.troves listed (files_of l.troves)
