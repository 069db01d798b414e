use Rattle.std.proofs.Common.{refl, sym, ◌∙◌, subst, true≢false, arith, All}
use Rattle.std.proofs.lemmas.List.{take_all}
use Rattle.std.proofs.lemmas.List.Elements.{All-more, All-contains}
use Rattle.cny_dep.specs.Dep.{Dependency}
use Rattle.cny_dep.specs.Satisfies.{Satisfies}
use Rattle.dep_closure.proofs.Meeting.{at_place}
use Rattle.sys_model.proofs.meeting.is_satisfied_by.Goals as goal

pub returns-then-satisfies : goal.returns-then-satisfies
returns-then-satisfies c = (
  λ _. record {
    provide = c.provide-item.result;
    provided = at_place c.args.provides.now c.loop-provide.provide-index c.provide-item.result (omega arith) c.provide-item.is;
    satisfies = c.satisfies.ensures.0 c.if-satisfies.true;
  },
  λ _. refl,
)

pub loop-provide-preserved : goal.loop-provide-preserved
loop-provide-preserved c =
    let Unmet : Dependency → Type 0 = λ p. Satisfies p c.args.require.now → ⊥ in
    All-more Unmet c.args.provides.now c.loop-provide.provide-index c.provide-item.result (omega arith) c.loop-provide.invariant
    (subst Unmet c.provide-item.is (λ is. absurd (true≢false (sym (c.satisfies.ensures.1 is) ∙ c.if-satisfies.false))))

pub returns : goal.returns
returns c =
    let Unmet : Dependency → Type 0 = λ p. Satisfies p c.args.require.now → ⊥ in (
      λ h. absurd (cc),
      λ is. absurd (All-contains Unmet c.args.provides.now is.provide (subst (All Unmet) (take_all c.loop-provide.provide-index c.args.provides.now (omega arith)) c.loop-provide.invariant) is.provided is.satisfies),
    )
