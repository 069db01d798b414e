use Rattle.journal_log.proofs.Naming.{stripped, not_stripped}
use Rattle.journal_log.proofs.named.after.Goals as goal

pub returns-clause-some : goal.returns-clause-some
returns-clause-some c = stripped c.args.front.now c.args.bytes.now c.strip_prefix.result c.strip_prefix.ensures.cases

pub returns-clause-none : goal.returns-clause-none
returns-clause-none c = not_stripped c.args.front.now c.args.bytes.now c.strip_prefix.result c.strip_prefix.ensures.cases
