use Rattle.std.proofs.Common.{arith, rules}
use Rattle.std.proofs.lemmas.Bool.Decides.{nat_tests}
use Rattle.manifest_troves.proofs.Differing.{difference_at, difference_end}
use Rattle.manifest_troves.proofs.contents.first_difference.Goals as goal

pub returns-then-bytes-at : goal.returns-then-bytes-at
returns-then-bytes-at c =
    difference_at c.args.bytes.now c.args.other.now c.loop-at.at (omega arith) (omega arith) c.loop-at.invariant
    (λ same. let h = c.if-bytes-at.true in first_of (cc, search rules, grind (arith, nat_tests)))

pub returns : goal.returns
returns c =
    difference_end c.args.bytes.now c.args.other.now c.min-len.result (omega arith) (omega arith) (λ k lt. c.loop-at.invariant k (omega (arith, lt)))
    (λ p q. omega (arith, p, q))
