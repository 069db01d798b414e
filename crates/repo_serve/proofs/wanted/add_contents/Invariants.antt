use Rattle.std.proofs.Common.{◌++◌, List, take}
use Rattle.repo_load.specs.trove-parts.declared.files.FileAt.{FileAt}
use Rattle.repo_serve.specs.Wanted.{AreSizesOf}
use Rattle.repo_serve.proofs.wanted.add_contents.Given as goal

abbrev pub invariant-loop-file : goal.invariant-loop-file
invariant-loop-file l = (before : List FileAt) → AreSizesOf before l.fn.sizes → AreSizesOf (before ++ take l.file-index l.files) l.sizes
