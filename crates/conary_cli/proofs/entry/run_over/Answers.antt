use Rattle.std.proofs.Common.{map}
use Rattle.std.specs.Prelude.{string_bytes}
use Rattle.conary_cli.proofs.ProgramEnds.{something_status}
use Rattle.conary_cli.proofs.entry.run_over.Goals as goal

pub returns : goal.returns
returns g c = something_status g.T.TreeDisk.disk g.P.TreeDisk.disk (map string_bytes c.args.words.now) _ _ _ _ _ c.run.ensures.some
