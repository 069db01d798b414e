use Rattle.cny_version.proofs.VersionReaders.{one_version, one_label}
use Rattle.cny_version.proofs.version.distinct_texts.Goals as goal

pub returns-clause-versions : goal.returns-clause-versions
returns-clause-versions c = one_version

pub returns-clause-labels : goal.returns-clause-labels
returns-clause-labels c = one_label
