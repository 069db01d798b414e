use Rattle.cny_pack.proofs.Giving.{read_front}
use Rattle.tree_disk.proofs.StepLaws.{tests_value}
use Rattle.cny_pack.proofs.Looking.{halted}
use Rattle.cny_pack.proofs.content.read_piece.Goals as goal

pub returns-in-Ok-clause-told : goal.returns-in-Ok-clause-told
returns-in-Ok-clause-told g c tells = read_front (g.D.TreeDisk.disk.reads c.args.disk.now) c.args.path.now c.args.at c.in-Ok.count c.args.buf.now c.read_at.new.buf (c.in-Ok.ensures.filled tells)

pub returns-in-Ok-clause-same : goal.returns-in-Ok-clause-same
returns-in-Ok-clause-same g c tells = (c.in-Ok.ensures.tests.same tells).same.reads

pub returns-in-Err-clause-same : goal.returns-in-Err-clause-same
returns-in-Err-clause-same g c tells = (c.in-Err.ensures.tests.same tells).same.reads

pub returns-in-Ok-clause-counted : goal.returns-in-Ok-clause-counted
returns-in-Ok-clause-counted g c tells = tests_value c.in-Ok.ensures.tests tells

pub returns-in-Err-clause-stops : goal.returns-in-Err-clause-stops
returns-in-Err-clause-stops g c = halted c.in-Err.stop _ c.by_step.ensures c.in-Err.ensures.stops c.in-Err.ensures.tests
