use Rattle.trove_spec.proofs.Resolved.{meant_among}
use Rattle.trove_spec.proofs.resolving.meant_troves.Goals as goal

pub returns-clause-among : goal.returns-clause-among
returns-clause-among c troves spec config t is = (meant_among troves spec config t is).among

pub returns-clause-name : goal.returns-clause-name
returns-clause-name c troves spec config t is = (meant_among troves spec config t is).name
