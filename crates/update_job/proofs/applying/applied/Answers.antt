use Rattle.std.proofs.Common.{List, ◌+◌, arith, subst, sym, take}
use Rattle.change_set.specs.Contents.{IfRefused}
use Rattle.change_set.specs.trove-stream.declared.parts.TroveParts.{TroveParts}
use Rattle.update_job.specs.Made.{AreMade, IsFirstRefused}
use Rattle.update_job.proofs.Making.{first_refused, made_more}
use Rattle.change_rel.proofs.cny-base.Faults.{passed_on}
use Rattle.update_job.proofs.applying.applied.Goals as goal

pub returns-in_err-allowed_of-clause-refused : goal.returns-in_err-allowed_of-clause-refused
returns-in_err-allowed_of-clause-refused c =
    passed_on (IfRefused (IsFirstRefused c.args.installed.now c.args.parts.now)) _ c.from_residual.result
    (first_refused c.args.installed.now c.args.parts.now c.loop-part.part-index c.part-item.result c.loop-part.troves.items _ (omega arith) c.part-item.is c.loop-part.invariant c.in_err-allowed_of.ensures.refused)
    c.from_residual.ensures.1

pub loop-part-preserved : goal.loop-part-preserved
loop-part-preserved c =
    subst (λ (l : List TroveParts). AreMade c.args.installed.now (take (c.loop-part.part-index + 1) c.args.parts.now) l) (sym c.in_ok-push.ensures.items)
    (made_more c.args.installed.now c.args.parts.now c.loop-part.part-index c.part-item.result c.loop-part.troves.items c.in_ok-allowed_of.field-0 (omega arith) c.part-item.is c.loop-part.invariant c.in_ok-allowed_of.ensures.made)
