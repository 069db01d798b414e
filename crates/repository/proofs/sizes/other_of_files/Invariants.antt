use Rattle.std.proofs.Common.{take}
use Rattle.repository.specs.BetweenSteps.{FilesFit}
use Rattle.repository.proofs.sizes.other_of_files.Given as goal

abbrev pub invariant-loop-file : goal.invariant-loop-file
invariant-loop-file l = FilesFit l.contents (take l.file-index l.files)
