use Rattle.std.proofs.Common.{Bool, arith, take_all, ap, sym, ◌∙◌}
use Rattle.std.specs.List.{count_by}
use Rattle.cny_base.specs.Compare.{differing}
use Rattle.cny_base.proofs.Comparing.{counted_below, one_more, none_more, length-differing}
use Rattle.cny_base.proofs.compare.count_different.Goals as goal
use Rattle.cny_base.proofs.compare.count_different.Goals.{then-a-at, else-a-at}

pub overflow_add-count : goal.overflow_add-count
overflow_add-count c = record { fits = omega (arith, c.loop-at.invariant, counted_below c.loop-at.at c.args.a.now c.args.b.now c.requires c.loop-at-test.true) }

pub loop-at-preserved : goal.loop-at-preserved
loop-at-preserved c = elim c.if-a-at.branch [
  | then-a-at w ↦ w.count-is ∙ (omega (arith, c.loop-at.invariant, one_more c.args.a.now c.args.b.now c.loop-at.at c.requires c.loop-at-test.true w.if-a-at.true))
  | else-a-at w ↦ w.count-is ∙ (c.loop-at.invariant ∙ sym (none_more c.args.a.now c.args.b.now c.loop-at.at c.requires c.loop-at-test.true w.if-a-at.false))
]

pub returns : goal.returns
returns c = c.loop-at.invariant ∙ ap (count_by (λ (d : Bool). d)) (take_all c.loop-at.at (differing c.args.a.now c.args.b.now) (omega (arith, length-differing c.args.a.now c.args.b.now c.requires)))
