use Rattle.std.proofs.Common.{rules}
use Rattle.repository.proofs.References.{there_old, there_new}
use Rattle.repository.proofs.refs.is_there.Goals as goal

pub returns-then-old : goal.returns-then-old
returns-then-old c = there_old c.args.id.now c.args.committed.now.troves c.args.added.now.troves c.is_some-old.result c.is_some-new.result (search rules) (search rules) c.if-old.true

pub returns-else-old : goal.returns-else-old
returns-else-old c = there_new c.args.id.now c.args.committed.now.troves c.args.added.now.troves c.is_some-old.result c.is_some-new.result (search rules) (search rules) c.if-old.false
