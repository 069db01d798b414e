use Rattle.std.proofs.Common.{sym, ◌∙◌}
use Rattle.trove_stream.proofs.Names.{one_list}
use Rattle.dep_closure.proofs.laws.one_changed_list.Goals as goal

pub returns : goal.returns
returns c = λ gone come old new other one two. one_list new other one.rising two.rising (λ name. one.each name ∙ sym (two.each name))
