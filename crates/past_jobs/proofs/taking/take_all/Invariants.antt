use Rattle.std.proofs.Common.{◌≡◌, None, cond, take}
use Rattle.local_db.specs.tree-disk.Tree.{Name}
use Rattle.past_jobs.specs.Table.{AreMade, IsIndexed, has_delta, ids_at, trove_at, troves_of}
use Rattle.past_jobs.proofs.taking.take_all.Given as goal

abbrev pub invariant-loop-delta : goal.invariant-loop-delta
invariant-loop-delta l = record {
  indexed : IsIndexed l.format l.table.troves l.table.marks l.table.len;
  left : (name : Name) → trove_at l.table.troves name ≡ cond (has_delta (take l.delta-index l.deltas) name) None (trove_at l.fn.table.troves name);
  made : AreMade (troves_of l.fn.table.troves) (take l.delta-index l.deltas) l.taken.made.items;
  after : l.taken.after.items ≡ ids_at (troves_of l.fn.table.troves) (take l.delta-index l.deltas);
}
