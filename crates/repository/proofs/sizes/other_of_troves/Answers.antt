use Rattle.std.proofs.Common.{arith, List, subst}
use Rattle.repo_load.specs.trove-parts.declared.files.FileAt.{FileAt}
use Rattle.repo_load.specs.trove-stream.declared.parts.TroveParts.{TroveParts}
use Rattle.repository.specs.BetweenSteps.{AllFit, FilesFit}
use Rattle.repository.proofs.Fitting.{each_more}
use Rattle.change_rel.proofs.trove-stream.Members.{take_all}
use Rattle.repository.proofs.sizes.other_of_troves.Goals as goal

pub loop-trove-preserved : goal.loop-trove-preserved
loop-trove-preserved c =
    each_more (λ (t : TroveParts). FilesFit c.args.contents.now t.files) c.args.troves.now c.loop-trove.trove-index c.trove-item.result (omega arith) c.trove-item.is c.loop-trove.invariant
    (subst (λ (l : List FileAt). FilesFit c.args.contents.now l) c.files.ensures.value c.in_default.ensures.fits)

pub returns-clause-fits : goal.returns-clause-fits
returns-clause-fits c = subst (AllFit c.args.contents.now) (take_all c.loop-trove.trove-index c.args.troves.now (omega arith)) c.loop-trove.invariant
