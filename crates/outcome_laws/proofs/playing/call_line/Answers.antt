use Rattle.outcome_laws.proofs.CalledLine.{was_made}
use Rattle.outcome_laws.proofs.playing.call_line.Goals as goal

pub returns : goal.returns
returns c = (
  c.run.new.out,
  was_made c.args.line.now c.run.result c.args.root.now c.run.new.root c.args.repo.now c.run.new.repo _ _ _ _ c.run.new.input c.run.new.out c.run.new.err _ c.get.ensures c.new-source.ensures c.requires c.new-out.ensures c.new-err.ensures c.run.ensures.some,
)
