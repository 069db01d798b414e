use Rattle.repo_mirror.proofs.Absolutes.{absolute_long}
use Rattle.repo_mirror.proofs.missing_laws.sent_length.Goals as goal

pub returns : goal.returns
returns c = absolute_long
