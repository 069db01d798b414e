-- Numbers of calls, and which of them fail.
use Rattle.std.specs.Prelude.{ℕ, Bool, true, false, Option, Some, None, Result, Ok, Err, ◌==◌, ◌-◌}
use Rattle.tree_nodes.specs.tree-disk.declared.disk.DiskStop.{DiskStop}
use Rattle.tree_nodes.specs.tree-disk.declared.disk.DiskStop.TheVariants.{Failed}

-- whether the stop has come: no call is left before it
abbrev pub is_stopped : Option ℕ → Bool
is_stopped None = false
is_stopped (Some left) = left == 0

-- how many calls are left before the stop, after one call more
abbrev pub one_less : Option ℕ → Option ℕ
one_less None = None
one_less (Some left) = Some (left - 1)

abbrev pub is_failed : {T : Type 0} → Result T DiskStop → Bool
is_failed (Ok _) = false
is_failed (Err Failed) = true
is_failed (Err _) = false
