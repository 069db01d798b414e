use Rattle.std.proofs.Common.{take}
use Rattle.sys_model.specs.Held.{held_in}
use Rattle.sys_model.proofs.HeldByName.{AreNoProviders}
use Rattle.sys_model.proofs.view.is_met_at_any.Given as goal

abbrev pub invariant-loop-place : goal.invariant-loop-place
invariant-loop-place l = AreNoProviders (held_in l.view) l.list (take l.place-index l.places) l.require
