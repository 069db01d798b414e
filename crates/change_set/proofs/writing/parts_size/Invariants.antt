use Rattle.std.proofs.Common.{◌≡◌, length, take}
use Rattle.std.specs.Prelude.{flat_map}
use Rattle.change_set.specs.ChangeSet.{part_bytes}
use Rattle.change_set.proofs.writing.parts_size.Given as goal

abbrev pub invariant-loop-part : goal.invariant-loop-part
invariant-loop-part l = l.size ≡ length (flat_map part_bytes (take l.part-index l.parts))
