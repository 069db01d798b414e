use Rattle.std.proofs.Common.{sym, ◌∙◌, subst, true≢false, arith, All}
use Rattle.std.proofs.lemmas.List.{take_all}
use Rattle.std.proofs.lemmas.List.Elements.{All-more}
use Rattle.dep_closure.proofs.Meeting.{stands_at}
use Rattle.dep_closure.proofs.providing.first_unmet.Goals as goal

pub returns-then-not-meets-clause-some : goal.returns-then-not-meets-clause-some
returns-then-not-meets-clause-some g c = record {
  number = c.loop-require.require-index;
  there = stands_at c.args.required.now c.loop-require.require-index c.require-item.result (omega arith) c.require-item.is;
  met = c.loop-require.invariant;
  unmet = λ is. absurd (true≢false (sym (c.meets.ensures.1 is) ∙ c.if-not-meets.true));
}

pub loop-require-preserved : goal.loop-require-preserved
loop-require-preserved g c =
    All-more (g.T.Meets.is_met c.args.by.now) c.args.required.now c.loop-require.require-index c.require-item.result (omega arith) c.loop-require.invariant
    (subst (g.T.Meets.is_met c.args.by.now) c.require-item.is (c.meets.ensures.0 c.if-not-meets.false))

pub returns-clause-none : goal.returns-clause-none
returns-clause-none g c = subst (All (g.T.Meets.is_met c.args.by.now)) (take_all c.loop-require.require-index c.args.required.now (omega arith)) c.loop-require.invariant
