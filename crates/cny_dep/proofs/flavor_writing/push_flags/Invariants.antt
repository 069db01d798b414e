use Rattle.std.proofs.Common.{◌≡◌, ◌++◌, take, string_bytes}
use Rattle.std.specs.List.{flat_map}
use Rattle.cny_dep.specs.Canonical.{after_comma}
use Rattle.cny_dep.proofs.flavor_writing.push_flags.Given as goal

abbrev pub invariant-loop-flag : goal.invariant-loop-flag
invariant-loop-flag l = string_bytes l.out ≡ string_bytes l.initial.out ++ flat_map after_comma (take l.flag-index l.rest)
