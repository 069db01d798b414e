use Rattle.std.proofs.Common.{[], take}
use Rattle.repo_load.specs.trove-stream.FilesOf.{files_of}
use Rattle.repo_serve.specs.Wanted.{AreSizesOf}
use Rattle.repo_serve.proofs.wanted.add_all.Given as goal

abbrev pub invariant-loop-trove : goal.invariant-loop-trove
invariant-loop-trove l = AreSizesOf [] l.fn.sizes → AreSizesOf (files_of (take l.trove-index l.troves)) l.sizes
