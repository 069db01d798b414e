use Rattle.cny_manifest.proofs.WordLines.{line_shorter, no_word}
use Rattle.cny_manifest.proofs.body.take_line.Goals as goal

pub returns-in_ok-take_whole-in-Whole-clause-shorter : goal.returns-in_ok-take_whole-in-Whole-clause-shorter
returns-in_ok-take_whole-in-Whole-clause-shorter c = line_shorter c.args.rest.now c.args.line.now c.args.behind.now c.requires.line

pub returns-in_default-clause-err : goal.returns-in_default-clause-err
returns-in_default-clause-err c =
    rw c.fault_at.ensures (no_word c.args.draft.now c.args.rest.now c.args.line.now c.args.behind.now c.requires.line c.requires.goes_on c.in_default.ensures)
