use Rattle.std.proofs.Common.{take}
use Rattle.std.specs.BTreeMap.{IsOrdered}
use Rattle.std.specs.Cmp.Lexicographic.{slice_cmp}
use Rattle.std.specs.Ordering.{nat_cmp}
use Rattle.root_commands.specs.Noting.{HasTurned}
use Rattle.root_commands.proofs.noting.note_all.Given as goal

abbrev pub invariant-loop-id : goal.invariant-loop-id
invariant-loop-id l = record {
  ordered : IsOrdered (slice_cmp nat_cmp) l.changes;
  turned : HasTurned l.came (take l.id-index l.ids) l.fn.changes l.changes;
}
