use Rattle.std.proofs.Common.{◌≡◌, true, drop}
use Rattle.std.specs.BTreeMap.{IsOrdered, get}
use Rattle.std.specs.Cmp.Lexicographic.{slice_cmp}
use Rattle.std.specs.List.{AllByRecursion}
use Rattle.std.specs.Ordering.{nat_cmp}
use Rattle.change_rel.specs.cny-base.Path.{is_path}
use Rattle.local_db.specs.tree-disk.Tree.{Name}
use Rattle.local_db.specs.Record.{Entry}
use Rattle.past_jobs.specs.Jobs.{noted_all}
use Rattle.past_jobs.proofs.found.note_all.Given as goal

abbrev pub invariant-loop-change : goal.invariant-loop-change
invariant-loop-change l = record {
  rest : (p : Name) → noted_all l.number (drop l.change-index l.changes) (get (slice_cmp nat_cmp) l.found) p ≡ noted_all l.number l.changes (get (slice_cmp nat_cmp) l.fn.found) p;
  ordered : IsOrdered (slice_cmp nat_cmp) l.fn.found → IsOrdered (slice_cmp nat_cmp) l.found;
  paths : AllByRecursion (λ (e : Entry). is_path e.path ≡ true) (drop l.change-index l.changes) → AllByRecursion (λ (e : Entry). is_path e.path ≡ true) l.changes;
}
