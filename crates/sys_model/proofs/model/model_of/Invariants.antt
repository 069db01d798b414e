use Rattle.std.proofs.Common.{take, map}
use Rattle.trove_spec.proofs.Borrowed.{now_of}
use Rattle.sys_model.proofs.LinesRead.{AreSaid, IsOnly}
use Rattle.sys_model.proofs.model.model_of.Given as goal

abbrev pub invariant-loop-place : goal.invariant-loop-place
invariant-loop-place l = record {
  said : AreSaid (map now_of (take l.place l.pieces)) l.lines.items;
  only : IsOnly (map now_of (take l.place l.pieces)) l.lines.items;
}
