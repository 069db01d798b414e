use Rattle.root_edits.proofs.Stopping.{disk_passed}
use Rattle.root_edits.proofs.standing.node_at.Goals as goal

pub returns-in_err-look-clause-stops : goal.returns-in_err-look-clause-stops
returns-in_err-look-clause-stops g c = disk_passed _ c.from_residual.result c.from_residual.ensures.1 c.in_err-look.ensures.stops
