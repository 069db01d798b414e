use Rattle.std.proofs.Common.{◌≡◌, ◌++◌, take, string_bytes}
use Rattle.std.specs.List.{flat_map}
use Rattle.cny_dep.specs.Canonical.{after_space}
use Rattle.cny_dep.proofs.flavor_writing.push_sets.Given as goal

abbrev pub invariant-loop-set : goal.invariant-loop-set
invariant-loop-set l = string_bytes l.out ≡ string_bytes l.initial.out ++ flat_map after_space (take l.set-index l.rest)
