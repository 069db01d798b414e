use Rattle.std.proofs.Common.{take}
use Rattle.sys_model.specs.Providers.{places_in}
use Rattle.sys_model.proofs.Beside.{IsBeside, IsKept}
use Rattle.sys_model.proofs.providers.add_places.Given as goal

abbrev pub invariant-loop-dep : goal.invariant-loop-dep
invariant-loop-dep l = record {
  noted : IsBeside (places_in l.names) (take l.dep-index l.deps) l.place;
  kept : IsKept (places_in l.fn.names) (places_in l.names);
}
