use Rattle.std.proofs.Common.{◌≡◌, ◌++◌, List, take}
use Rattle.change_set.specs.trove-parts.declared.files.FileAt.{FileAt}
use Rattle.repo_mirror.specs.Lengths.{contents_length}
use Rattle.repo_mirror.specs.Sums.{AreNamesOf}
use Rattle.repo_mirror.proofs.sent.add_contents.Given as goal

abbrev pub invariant-loop-file : goal.invariant-loop-file
invariant-loop-file l =
    (before : List FileAt) → AreNamesOf before l.fn.names
    → (l.size ≡ contents_length before (take l.file-index l.files)) × AreNamesOf (before ++ take l.file-index l.files) l.names
