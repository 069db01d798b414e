use Rattle.std.proofs.Common.{◌≡◌, ◌-◌, ◌+◌, ◌++◌}
use Rattle.cny_batch.specs.Manifests.{each_from, refs_of_hundred}
use Rattle.cny_batch.proofs.group.push_refs.Given as goal

-- what is still to be written
abbrev pub invariant-loop-number : goal.invariant-loop-number
invariant-loop-number l = l.out ++ each_from (refs_of_hundred l.packages l.round) l.number (10 - l.number) ≡ l.fn.out ++ each_from (refs_of_hundred l.packages l.round) 1 9
