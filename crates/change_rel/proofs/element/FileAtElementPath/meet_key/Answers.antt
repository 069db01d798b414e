use Rattle.std.proofs.Common.{sym, ◌∙◌}
use Rattle.trove_stream.proofs.Equal.{equal_lists}
use Rattle.change_rel.proofs.element.FileAtElementPath.meet_key.Goals as goal

pub returns-clause-equal : goal.returns-clause-equal
returns-clause-equal c is = equal_lists c.args.self.now.path c.args.key.now (sym c.cmp.ensures ∙ is)
