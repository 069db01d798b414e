use Rattle.std.proofs.Common.{arith, ◌∙◌, sym, ap}
use Rattle.std.proofs.lemmas.Grind.{common_steps}
use Rattle.cny_base.specs.Path.{parent}
use Rattle.cny_base.proofs.LastName.{parent_cut, parent_root}
use Rattle.cny_base.proofs.path_grammar.parent_of.Goals as goal

pub returns-then-at-le1 : goal.returns-then-at-le1
returns-then-at-le1 c =
    let start = c.name_start-at.ensures in
    sym (parent_root _ _ c.if-at-le1.true start.within start.no_slash start.slash) ∙ ap parent c.as_bytes.ensures.value

pub returns-else-at-le1 : goal.returns-else-at-le1
returns-else-at-le1 c =
    let start = c.name_start-at.ensures in
    let cut = parent_cut _ _ c.if-at-le1.false start.within start.no_slash start.slash in
    grind (arith, common_steps, cut, c.range.ensures.value, c.as_bytes.ensures.value)
