use Rattle.std.proofs.Common.{◌≡◌, ◌∷◌, ◌++◌, take, string_bytes}
use Rattle.std.specs.List.{flat_map}
use Rattle.cny_dep.proofs.writing.push_spaced.Given as goal

abbrev pub invariant-loop-flag : goal.invariant-loop-flag
invariant-loop-flag l = string_bytes l.text ≡ string_bytes l.initial.text ++ flat_map (λ flag. 32 ∷ flag) (take l.flag-index l.flags)
