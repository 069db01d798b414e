use Rattle.std.proofs.Common.{◌≡◌, None, take}
use Rattle.local_db.specs.tree-disk.Tree.{Name}
use Rattle.local_db.specs.trove-stream.Installed.{trove_of}
use Rattle.past_jobs.specs.Table.{IsIndexed, trove_at}
use Rattle.change_rel.specs.trove-stream.Either.{or_else}
use Rattle.past_jobs.proofs.table.put_troves.Given as goal

abbrev pub invariant-loop-trove : goal.invariant-loop-trove
invariant-loop-trove l = record {
  indexed : IsIndexed l.format l.table.troves l.table.marks l.table.len;
  found : (name : Name) → trove_at l.table.troves name ≡ or_else (trove_of name (take l.trove-index l.troves)) None;
}
