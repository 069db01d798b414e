use Rattle.outcome_laws.proofs.Mirrors.{taking_once}
use Rattle.outcome_laws.proofs.outcomes.one_mirror_taking.Goals as goal

pub returns : goal.returns
returns c = taking_once
    (record { led = c.one_result.ensures; refusal = c.commit_step.ensures.one_refusal; apart = c.commit_step.ensures.apart })
    (record { set = c.one_reply.ensures.unique; excluded = c.one_reply.ensures.excluded; place = c.one_reply.ensures.one_place })
