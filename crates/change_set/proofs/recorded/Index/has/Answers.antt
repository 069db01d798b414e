use Rattle.std.proofs.Common.{◌∙◌}
use Rattle.change_set.proofs.Indexing.{looked_up}
use Rattle.change_set.proofs.recorded.Index.has.Goals as goal

pub returns : goal.returns
returns c = λ parts is.
    c.contains.ensures ∙ looked_up c.args.self.now.keys c.args.name.now c.args.size ∙ is.same c.args.name.now c.args.size
