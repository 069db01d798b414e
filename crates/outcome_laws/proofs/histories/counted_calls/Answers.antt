use Rattle.outcome_laws.proofs.Counted.{batch_lines, demo_lines, several_counted, single_counted}
use Rattle.outcome_laws.proofs.histories.counted_calls.Goals as goal

pub returns-clause-single : goal.returns-clause-single
returns-clause-single c l k input s next are words same state is = single_counted l k are words s input next same state is

pub returns-clause-batch : goal.returns-clause-batch
returns-clause-batch c l s bytes lines are dirs gives makes = batch_lines l s dirs bytes lines are gives makes

pub returns-clause-demo : goal.returns-clause-demo
returns-clause-demo c l s packages bytes lines are dirs makes = demo_lines l s dirs packages bytes lines are makes

pub returns-clause-several : goal.returns-clause-several
returns-clause-several c l s t lines count has h = several_counted l s t lines count has h
