use Rattle.std.proofs.Common.{sym, ◌∙◌}
use Rattle.trove_stream.proofs.Equal.{equal_lists}
use Rattle.trove_stream.proofs.disjoint.PathMeetsFileAt.meet.Goals as goal

pub returns-clause-equal : goal.returns-clause-equal
returns-clause-equal c is = equal_lists c.args.self.now c.args.other.now.path (sym c.cmp.ensures ∙ is)
