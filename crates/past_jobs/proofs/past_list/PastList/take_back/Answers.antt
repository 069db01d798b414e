use Rattle.std.proofs.Common.{sym, subst}
use Rattle.past_jobs.specs.declared.table.Table.{Table}
use Rattle.past_jobs.specs.Table.{IsHeld}
use Rattle.past_jobs.proofs.Empty.{held_empty}
use Rattle.past_jobs.proofs.past_list.PastList.take_back.Goals as goal

pub invariant_of-self : goal.invariant_of-self
invariant_of-self c =
    subst (λ (t : Table). IsHeld c.self.inside.format t.troves t.marks t.len) (sym c.replace-table.ensures.after)
    (held_empty c.self.inside.format c.empty_table-nothing.result.troves c.empty_table-nothing.result.marks c.empty_table-nothing.result.len
    c.empty_table-nothing.ensures.indexed c.empty_table-nothing.ensures.empty)
