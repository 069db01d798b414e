use Rattle.std.proofs.Common.{◌≡◌, ◌-◌, cond, length, drop}
use Rattle.local_db.specs.tree-disk.Tree.{Name, same_name}
use Rattle.local_db.specs.Installed.{record_at, first_mark}
use Rattle.past_jobs.specs.Table.{mark_at}
use Rattle.past_jobs.proofs.past_marks.add_files.Given as goal

abbrev pub invariant-loop-behind : goal.invariant-loop-behind
invariant-loop-behind l =
    (p n : Name) → mark_at l.marks p n ≡ cond (same_name l.name n) (first_mark (record_at (drop (length l.files - l.behind) l.files) p) (mark_at l.fn.marks p n)) (mark_at l.fn.marks p n)
