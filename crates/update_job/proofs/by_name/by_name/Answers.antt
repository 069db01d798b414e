use Rattle.std.proofs.Common.{◌≡◌, List, Result, Err, sym, subst, arith}
use Rattle.std.specs.Result.{IfErr}
use Rattle.std.proofs.lemmas.Result.{err_from_is_err_and}
use Rattle.change_set.specs.cny-base.declared.refusal.Fault.{Fault}
use Rattle.std.proofs.lemmas.List.{take_all}
use Rattle.change_set.specs.trove-stream.declared.parts.TroveParts.{TroveParts}
use Rattle.update_job.specs.Lists.{IsUnupdated}
use Rattle.update_job.specs.ByName.{AreByName}
use Rattle.update_job.proofs.Mapped.{admitted_more, not_admitted, once_of}
use Rattle.update_job.proofs.by_name.by_name.Goals as goal

-- a fault that is handed on
handed : {T : Type 0} (Q : Fault → Type 0) (r : Result T Fault) (met : Fault) → ((e : Fault) × (r ≡ Err e) × (e ≡ met)) → Q met → IfErr r Q
handed Q r met given is = subst (λ x. IfErr x Q) (sym given.1) (subst Q (sym given.2) is)

pub returns-in_err-admit-clause-fault : goal.returns-in_err-admit-clause-fault
returns-in_err-admit-clause-fault c =
    handed (IsUnupdated c.args.list.now) c.from_residual.result c.in_err-admit.field-0.0 (err_from_is_err_and c.from_residual.result c.from_residual.ensures.1)
    (not_admitted c.args.list.now c.loop-trove.trove-index c.trove-item.result c.loop-trove.troves (omega arith) c.trove-item.is c.loop-trove.invariant.all c.in_err-admit.field-0.0 c.in_err-admit.ensures.fault)

pub loop-trove-preserved : goal.loop-trove-preserved
loop-trove-preserved c = record {
  ordered = c.in_ok-admit.ensures.ordered;
  all = admitted_more c.args.list.now c.loop-trove.trove-index c.trove-item.result c.loop-trove.troves (omega arith) c.trove-item.is c.loop-trove.invariant.all c.admit.new.troves c.in_ok-admit.ensures.ok;
}

pub returns-clause-once : goal.returns-clause-once
returns-clause-once c =
    once_of c.args.list.now c.loop-trove.troves
    (subst (λ (l : List TroveParts). AreByName l c.loop-trove.troves) (take_all c.loop-trove.trove-index c.args.list.now (omega arith)) c.loop-trove.invariant.all)
