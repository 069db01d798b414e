use Rattle.std.proofs.Common.{◌-◌}
use Rattle.root_commands.specs.cli-call.Command.{AreReady, disks}
use Rattle.root_commands.specs.cli-call.Line.{moment}
use Rattle.cny_batch.specs.Demo.{demo_lines, lines_from, line_count}
use Rattle.conary_cli.specs.Lines.{last_shown}
use Rattle.conary_cli.proofs.LinesRun.{GoesOn}
use Rattle.conary_cli.proofs.lines.run_demo_lines.Given as goal

abbrev pub invariant-loop-place : goal.invariant-loop-place
invariant-loop-place g l =
    let root_disk = g.T.TreeDisk.disk in
    let repo_disk = g.P.TreeDisk.disk in
    let sink = g.O.Sink.sink in
    record {
      ready : AreReady root_disk repo_disk (disks l.root l.repo l.opened);
      -- what is still to be run, and all lines
      goes_on : GoesOn root_disk repo_disk (last_shown (demo_lines l.packages)) (last_shown (lines_from l.packages l.place (line_count l.packages - l.place))) (moment sink l.fn.root l.fn.repo l.fn.opened l.fn.out) (moment sink l.root l.repo l.opened l.out);
    }
