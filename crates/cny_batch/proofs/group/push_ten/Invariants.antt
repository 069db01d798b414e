use Rattle.std.proofs.Common.{◌≡◌, ◌-◌, ◌+◌, ◌*◌, ◌++◌}
use Rattle.cny_batch.specs.Manifests.{each_from, ref_within}
use Rattle.cny_batch.proofs.group.push_ten.Given as goal

-- what is still to be written
abbrev pub invariant-loop-digit : goal.invariant-loop-digit
invariant-loop-digit l = l.out ++ each_from (λ digit. ref_within l.packages l.round (10 * l.number + digit)) l.digit (10 - l.digit) ≡ l.fn.out ++ (ref_within l.packages l.round l.number ++ each_from (λ digit. ref_within l.packages l.round (10 * l.number + digit)) 0 10)
