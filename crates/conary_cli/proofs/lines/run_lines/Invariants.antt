use Rattle.std.proofs.Common.{drop}
use Rattle.root_commands.specs.cli-call.Command.{AreReady, disks}
use Rattle.root_commands.specs.cli-call.Line.{moment}
use Rattle.conary_cli.specs.Lines.{all_shown}
use Rattle.conary_cli.proofs.LinesRun.{GoesOn}
use Rattle.conary_cli.proofs.lines.run_lines.Given as goal

abbrev pub invariant-loop-line : goal.invariant-loop-line
invariant-loop-line g l =
    let root_disk = g.T.TreeDisk.disk in
    let repo_disk = g.P.TreeDisk.disk in
    let sink = g.O.Sink.sink in
    record {
      ready : AreReady root_disk repo_disk (disks l.root l.repo l.opened);
      -- what is still to be run, and all lines
      goes_on : GoesOn root_disk repo_disk (all_shown l.lines) (all_shown (drop l.line-index l.lines)) (moment sink l.fn.root l.fn.repo l.fn.opened l.fn.out) (moment sink l.root l.repo l.opened l.out);
    }
