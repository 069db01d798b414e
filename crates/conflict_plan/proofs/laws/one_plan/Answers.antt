use Rattle.conflict_plan.proofs.OnePlan.{no_refusal_of, one_plan_of, one_refusal_of}
use Rattle.conflict_plan.proofs.laws.one_plan.Goals as goal

pub returns-clause-plan : goal.returns-clause-plan
returns-clause-plan c = one_plan_of

pub returns-clause-refusal : goal.returns-clause-refusal
returns-clause-refusal c = one_refusal_of

pub returns-clause-either : goal.returns-clause-either
returns-clause-either c = no_refusal_of
