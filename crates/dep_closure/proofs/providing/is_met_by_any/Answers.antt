use Rattle.std.proofs.Common.{refl, sym, ◌∙◌, subst, true≢false, arith, All}
use Rattle.std.proofs.lemmas.List.{take_all}
use Rattle.std.proofs.lemmas.List.Elements.{All-more, All-contains}
use Rattle.dep_closure.proofs.Meeting.{at_place}
use Rattle.dep_closure.proofs.providing.is_met_by_any.Goals as goal

pub returns-then-meets : goal.returns-then-meets
returns-then-meets g c = (
  λ _. (c.one-item.result, at_place c.args.ones.now c.loop-one.one-index c.one-item.result (omega arith) c.one-item.is, c.meets.ensures.0 c.if-meets.true),
  λ _. refl,
)

pub loop-one-preserved : goal.loop-one-preserved
loop-one-preserved g c =
    let Unmet : g.row.T.Denot → Type 0 = λ x. g.T.Meets.is_met x c.args.require.now → ⊥ in
    All-more Unmet c.args.ones.now c.loop-one.one-index c.one-item.result (omega arith) c.loop-one.invariant
    (subst Unmet c.one-item.is (λ is. absurd (true≢false (sym (c.meets.ensures.1 is) ∙ c.if-meets.false))))

pub returns : goal.returns
returns g c =
    let Unmet : g.row.T.Denot → Type 0 = λ x. g.T.Meets.is_met x c.args.require.now → ⊥ in (
      λ h. absurd (cc),
      λ is. absurd (All-contains Unmet c.args.ones.now is.0 (subst (All Unmet) (take_all c.loop-one.one-index c.args.ones.now (omega arith)) c.loop-one.invariant) is.1 is.2),
    )
