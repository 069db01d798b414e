use Rattle.std.proofs.Common.{ap, ◌∙◌}
use Rattle.tree_disk.specs.Looks.{size_seen}
use Rattle.tree_disk.proofs.StepLaws.{tests_value}
use Rattle.cny_pack.proofs.Looking.{halted}
use Rattle.cny_pack.proofs.content.size_now.Goals as goal

pub returns-in-Ok-clause-seen : goal.returns-in-Ok-clause-seen
returns-in-Ok-clause-seen g c tells = c.size.ensures ∙ ap size_seen (tests_value c.in-Ok.ensures.tests tells)

pub returns-in-Ok-clause-same : goal.returns-in-Ok-clause-same
returns-in-Ok-clause-same g c tells = (c.in-Ok.ensures.tests.same tells).same.reads

pub returns-in-Err-clause-same : goal.returns-in-Err-clause-same
returns-in-Err-clause-same g c tells = (c.in-Err.ensures.tests.same tells).same.reads

pub returns-in-Err-clause-stops : goal.returns-in-Err-clause-stops
returns-in-Err-clause-stops g c = halted c.in-Err.stop _ c.by_step.ensures c.in-Err.ensures.stops c.in-Err.ensures.tests
