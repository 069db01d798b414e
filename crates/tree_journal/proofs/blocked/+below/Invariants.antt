use Rattle.std.proofs.Common.{◌+◌, ◌-◌, ◌*◌, length, take, Ok}
use Rattle.tree_journal.specs.Found.{AreClear, Finds}
use Rattle.tree_journal.proofs.blocked.+below.Given as goal

abbrev pub decreases-is_clear_below : goal.decreases-is_clear_below
decreases-is_clear_below g l = 3 * (1025 - length l.path.now) + 2

abbrev pub decreases-is_dir_clear : goal.decreases-is_dir_clear
decreases-is_dir_clear g l = 3 * (1025 - length l.path.now) + 1

abbrev pub decreases-are_names_clear : goal.decreases-are_names_clear
decreases-are_names_clear g l = 3 * (1025 - length l.path.now)

abbrev pub invariant-are_names_clear-loop-last : goal.invariant-are_names_clear-loop-last
invariant-are_names_clear-loop-last g l =
    Finds {X = Unit {0}} g.D.TreeDisk.disk (λ tree x. AreClear l.puts tree l.path (take l.last-index l.names)) l.fn.disk l.disk (Ok tt)
