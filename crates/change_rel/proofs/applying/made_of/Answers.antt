use Rattle.std.proofs.Common.{Err, ap, subst}
use Rattle.trove_stream.specs.Trove.{IsTrove}
use Rattle.change_rel.proofs.applying.made_of.Goals as goal

pub returns-in-Ok : goal.returns-in-Ok
returns-in-Ok c = (c.in-Ok.ensures.value, subst IsTrove c.in-Ok.ensures.value c.in-Ok.ensures.ok)

pub returns-in-Err : goal.returns-in-Err
returns-in-Err c = c.in-Err.ensures.bad.0 (ap Err c.in-Err.ensures.fault)
