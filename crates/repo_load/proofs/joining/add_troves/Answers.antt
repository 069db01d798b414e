use Rattle.std.proofs.Common.{length, ap, arith}
use Rattle.std.specs.Vec.Iter.{into_iter_items}
use Rattle.repo_load.proofs.Joined.{one_joined, not_joined}
use Rattle.repo_load.proofs.joining.add_troves.Goals as goal

pub returns-then-not-branch-clause-answer : goal.returns-then-not-branch-clause-answer
returns-then-not-branch-clause-answer c =
    not_joined c.args.whole c.args.catalogue.now c.args.troves c.troves.catalogue _ c.in-Some.trove (into_iter_items c.next.new.self) c.troves.invariant.0 c.in-Some.ensures.cases.0
    (rw c.if-not-branch.true at c.in_ok-add_trove.ensures.answer)

pub troves-preserved : goal.troves-preserved
troves-preserved c =
    let answer = rw c.if-not-branch.false at c.in_ok-add_trove.ensures.answer in
    let long = ap length c.in-Some.ensures.cases.0 in (
      one_joined c.args.whole c.args.catalogue.now c.args.troves c.troves.catalogue _ c.in-Some.trove (into_iter_items c.next.new.self) c.add_trove.new.catalogue c.troves.invariant.0 c.in-Some.ensures.cases.0
          answer.0 answer.1 (c.in_ok-add_trove.ensures.added c.if-not-branch.false),
      omega (arith, c.troves.invariant.1, c.in-Some.ensures.cases.1, long),
    )
