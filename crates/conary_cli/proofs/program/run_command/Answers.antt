use Rattle.root_commands.proofs.cli-call.LineLaws.{line_written}
use Rattle.conary_cli.proofs.RecordEnds.{written_whole}
use Rattle.conary_cli.proofs.program.run_command.Goals as goal

pub returns-clause-line : goal.returns-clause-line
returns-clause-line g c = line_written _ _ _ c.perform-answered.result c.write_answer.result c.perform-answered.ensures.performs.performs c.write_answer.ensures

pub returns-clause-records : goal.returns-clause-records
returns-clause-records g c told = written_whole c.args.command.now (g.T.TreeDisk.disk.reads c.args.root.now) c.args.opened.now.db c.perform-answered.result _ _ c.write_answer.result c.write_answer.ensures.wrote (c.perform-answered.ensures.performs.records told)
