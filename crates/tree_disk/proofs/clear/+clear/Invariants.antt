use Rattle.std.proofs.Common.{◌+◌, ◌-◌, ◌*◌, length, take, Ok}
use Rattle.cny_base.specs.Below.{is_below}
use Rattle.tree_disk.specs.Clear.{without_each}
use Rattle.tree_disk.specs.Steps.{Makes}
use Rattle.tree_disk.proofs.clear.+clear.Given as goal

abbrev pub decreases-clear_at : goal.decreases-clear_at
decreases-clear_at g l = 3 * (1025 - length l.path.now) + 2

abbrev pub decreases-clear_dir : goal.decreases-clear_dir
decreases-clear_dir g l = 3 * (1025 - length l.path.now) + 1

abbrev pub decreases-clear_each : goal.decreases-clear_each
decreases-clear_each g l = 3 * (1025 - length l.path.now)

abbrev pub invariant-clear_each-loop-last : goal.invariant-clear_each-loop-last
invariant-clear_each-loop-last g l = Makes g.D.TreeDisk.disk (is_below l.path) (λ tree. without_each tree l.path (take l.last-index l.names)) l.fn.disk l.disk (Ok (tt {0}))
