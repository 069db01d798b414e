use Rattle.outcome_laws.proofs.Meanings.{move_once}
use Rattle.outcome_laws.proofs.outcomes.one_moving.Goals as goal

pub returns : goal.returns
returns c = move_once c.distinct_texts.ensures.labels
    (record { made = c.one_move.ensures.made; unrefused = c.one_move.ensures.unrefused; refusal = c.one_move.ensures.refusal })
    (record { led = c.one_result.ensures; refusal = c.commit_step.ensures.one_refusal; apart = c.commit_step.ensures.apart })
