use Rattle.std.proofs.Common.{arith, refl, subst}
use Rattle.std.proofs.lemmas.List.{take_all}
use Rattle.change_set.specs.Contents.{IfRefused}
use Rattle.update_job.specs.Allowed.{AreAllowed, IsFirstReserved}
use Rattle.update_job.proofs.Reserved.{allowed_by, allowed_more, first_reserved}
use Rattle.change_rel.proofs.cny-base.Faults.{passed_on}
use Rattle.update_job.proofs.allowed.check_allowed.Goals as goal

pub returns-in_err-check-clause-reserved : goal.returns-in_err-check-clause-reserved
returns-in_err-check-clause-reserved c =
    passed_on (IfRefused (IsFirstReserved c.args.troves.now)) _ c.from_residual.result
    (first_reserved c.args.troves.now c.loop-trove.trove-index c.trove-item.result _ (omega arith) c.trove-item.is c.loop-trove.invariant c.in_err-check.ensures)
    c.from_residual.ensures.1

pub loop-trove-preserved : goal.loop-trove-preserved
loop-trove-preserved c =
    allowed_more c.args.troves.now c.loop-trove.trove-index c.trove-item.result (omega arith) c.trove-item.is c.loop-trove.invariant
    (allowed_by c.trove-item.result _ c.in_ok-check.ensures)

pub returns-clause-allowed : goal.returns-clause-allowed
returns-clause-allowed c = (
  (λ ok. subst AreAllowed (take_all c.loop-trove.trove-index c.args.troves.now (omega arith)) c.loop-trove.invariant),
  (λ allowed. refl),
)
