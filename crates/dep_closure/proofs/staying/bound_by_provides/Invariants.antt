use Rattle.std.proofs.Common.{take}
use Rattle.std.specs.Option.{option_copied}
use Rattle.dep_closure.specs.Slots.{held_after}
use Rattle.dep_closure.proofs.Bounds.{LostSoFar}
use Rattle.dep_closure.proofs.staying.bound_by_provides.Given as goal

abbrev pub invariant-loop-provide : goal.invariant-loop-provide
invariant-loop-provide l = LostSoFar (held_after l.slots l.edits) l.requirers (option_copied l.fn.bound) (option_copied l.lowest) (take l.provide-index l.provides)
