use Rattle.std.proofs.Common.{All, sym, ◌∙◌, subst, true≢false, arith}
use Rattle.std.proofs.lemmas.List.{take_all}
use Rattle.std.proofs.lemmas.List.Elements.{All-more}
use Rattle.dep_closure.specs.Slots.{IsMetBy}
use Rattle.dep_closure.proofs.Meeting.{stands_at}
use Rattle.sys_model.specs.Held.{held_in}
use Rattle.sys_model.proofs.view.first_unmet.Goals as goal

pub returns-then-not-is_met-clause-some : goal.returns-then-not-is_met-clause-some
returns-then-not-is_met-clause-some c = record {
  number = c.loop-require.require-index;
  there = stands_at c.args.required.now c.loop-require.require-index c.require-item.result (omega arith) c.require-item.is;
  met = c.loop-require.invariant;
  unmet = λ is. absurd (true≢false (sym (c.is_met.ensures.1 is) ∙ c.if-not-is_met.true));
}

pub loop-require-preserved : goal.loop-require-preserved
loop-require-preserved c =
    All-more (IsMetBy (held_in c.args.view.now)) c.args.required.now c.loop-require.require-index c.require-item.result (omega arith) c.loop-require.invariant
    (subst (IsMetBy (held_in c.args.view.now)) c.require-item.is (c.is_met.ensures.0 c.if-not-is_met.false))

pub returns-clause-none : goal.returns-clause-none
returns-clause-none c = subst (All (IsMetBy (held_in c.args.view.now))) (take_all c.loop-require.require-index c.args.required.now (omega arith)) c.loop-require.invariant
