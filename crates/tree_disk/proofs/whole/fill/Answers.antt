use Rattle.std.proofs.Common.{ℕ, length-take, arith}
use Rattle.tree_disk.proofs.ReadAll.{shown_on}
use Rattle.tree_disk.proofs.whole.fill.Goals as goal

pub pieces-preserved : goal.pieces-preserved
pieces-preserved g c = record {
  told = λ tells. shown_on g.met.D.TreeDisk.laws _ _ c.args.disk.now _ _ _ _ _ c.in_ok-count.count (c.pieces.invariant.told tells) (c.in_ok-count.ensures.told tells);
  faults = omega (arith, c.pieces.invariant.faults, c.in_ok-count.ensures.later);
  most = omega (arith, c.pieces.invariant.most, c.in_ok-count.ensures.longer, c.in_ok-count.ensures.most, c.room_for-room.ensures, c.len.ensures, c.pieces-test.true, length-take {A = ℕ});
}
