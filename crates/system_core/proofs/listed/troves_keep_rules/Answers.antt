use Rattle.std.proofs.Common.{◌≤◌, length, All, subst, arith}
use Rattle.std.proofs.lemmas.List.{take_all}
use Rattle.std.proofs.lemmas.List.Elements.{All-more}
use Rattle.rollback_stack.specs.trove-stream.Trove.{IsTrove}
use Rattle.system_core.proofs.listed.troves_keep_rules.Goals as goal

pub loop-trove-preserved : goal.loop-trove-preserved
loop-trove-preserved c =
    All-more IsTrove c.args.troves.now c.loop-trove.trove-index c.trove-item.result c.loop-trove-test.true c.loop-trove.invariant (subst IsTrove c.trove-item.is c.id-id.ensures.trove)

pub returns : goal.returns
returns c =
    let past : length c.args.troves.now ≤ c.loop-trove.trove-index = omega arith in
    subst (All IsTrove) (take_all c.loop-trove.trove-index c.args.troves.now past) c.loop-trove.invariant
