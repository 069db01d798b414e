use Rattle.std.proofs.Common.{sym}
use Rattle.cny_version.specs.Slices.{parts_of}
use Rattle.cny_version.proofs.VersionSteps.{no_label_behind, bad_label}
use Rattle.cny_version.proofs.scan.next_step.Goals as goal

pub returns-in_default-cut : goal.returns-in_default-cut
returns-in_default-cut c b last = no_label_behind c.args.whole b c.args.text.now c.in-Some.between.now c.in-Some.rest.now c.in-Some.ensures.pieces c.in_default-cut.ensures.pieces

pub returns-in-None : goal.returns-in-None
returns-in-None c b last =
    bad_label c.args.whole b c.args.text.now c.in-Some.between.now c.in-Some.rest.now c.in-Some-cut.piece.now c.in-Some-cut.rest.now (parts_of c.args.previous.now)
    c.in-Some.ensures.pieces c.in-Some-cut.ensures.pieces (sym c.in-None.ensures.found) last
