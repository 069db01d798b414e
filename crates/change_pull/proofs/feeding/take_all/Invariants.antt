use Rattle.std.proofs.Common.{ℕ, ◌-◌, ◌≤◌, ◌++◌, IsTrue, List, Ok, length, take}
use Rattle.journal_log.specs.cny-base.Below.{is_below}
use Rattle.change_pull.specs.Files.{HasRoomFrom}
use Rattle.change_pull.specs.Open.{Advances}
use Rattle.change_pull.specs.Writes.{Keeps}
use Rattle.change_pull.proofs.feeding.take_all.Given as goal

abbrev pub invariant-pieces : goal.invariant-pieces
invariant-pieces g l = let disk = g.D.TreeDisk.disk in record {
  within : l.at ≤ length l.piece;
  keeps : Keeps {X = Unit {0}} disk (is_below l.dir) l.fn.disk l.disk (Ok tt);
  room : IsTrue disk.tells → HasRoomFrom (disk.reads l.disk) l.dir (length l.reading.staged.items);
  advances : (given : List ℕ) → Advances disk l.dir l.fn.disk l.disk l.fn.reading l.reading given (given ++ take l.at l.piece);
}

abbrev pub decreases-pieces : goal.decreases-pieces
decreases-pieces g l = length l.piece - l.at
