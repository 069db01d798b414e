use Rattle.cny_manifest.proofs.Adding.{manifest_spelled}
use Rattle.cny_manifest.proofs.Leading.{spelling_manifest}
use Rattle.cny_manifest.proofs.laws.spelled.Goals as goal

pub returns-clause-written : goal.returns-clause-written
returns-clause-written c = spelling_manifest

pub returns-clause-read : goal.returns-clause-read
returns-clause-read c = manifest_spelled
