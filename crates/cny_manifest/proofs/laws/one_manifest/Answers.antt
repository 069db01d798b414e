use Rattle.cny_manifest.proofs.OneManifest.{one_made, no_fault, one_fault}
use Rattle.cny_manifest.proofs.laws.one_manifest.Goals as goal

pub returns-clause-made : goal.returns-clause-made
returns-clause-made c = one_made c.distinct_ids.ensures.texts

pub returns-clause-excluded : goal.returns-clause-excluded
returns-clause-excluded c = no_fault c.distinct_ids.ensures.texts

pub returns-clause-fault : goal.returns-clause-fault
returns-clause-fault c = one_fault c.distinct_ids.ensures.texts
