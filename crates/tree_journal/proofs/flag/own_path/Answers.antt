use Rattle.std.proofs.Common.{ap, Err}
use Rattle.tree_journal.proofs.OwnNames.{own_is_path}
use Rattle.tree_journal.proofs.flag.own_path.Goals as goal

pub unreachable-requires : goal.unreachable-requires
unreachable-requires c =
    let is = own_is_path c.args.base.now c.args.last.now (rw c.text-text.ensures.value at c.text-text.ensures.path) c.requires.part c.requires.short in
    absurd (cc (is, c.in-Err-Bad.ensures.bad.0 (ap Err c.in-Err-Bad.field-0-is)))
