use Rattle.std.proofs.Common.{arith}
use Rattle.repository.specs.BetweenSteps.{FileFits}
use Rattle.repository.proofs.Fitting.{each_more}
use Rattle.repository.proofs.sizes.other_of_files.Goals as goal

pub loop-file-preserved : goal.loop-file-preserved
loop-file-preserved c =
    each_more (FileFits c.args.contents.now) c.args.files.now c.loop-file.file-index c.file-item.result (omega arith) c.file-item.is c.loop-file.invariant c.in_default.ensures.fits
