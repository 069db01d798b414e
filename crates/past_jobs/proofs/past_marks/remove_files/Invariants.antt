use Rattle.std.proofs.Common.{◌≡◌, ◌-◌, ◌&&◌, None, cond, is_some, length, drop}
use Rattle.local_db.specs.tree-disk.Tree.{Name, same_name}
use Rattle.local_db.specs.Installed.{record_at}
use Rattle.past_jobs.specs.Table.{mark_at}
use Rattle.past_jobs.proofs.past_marks.remove_files.Given as goal

abbrev pub invariant-loop-behind : goal.invariant-loop-behind
invariant-loop-behind l =
    (p n : Name) → mark_at l.marks p n ≡ cond (same_name l.name n && is_some (record_at (drop (length l.files - l.behind) l.files) p)) None (mark_at l.fn.marks p n)
