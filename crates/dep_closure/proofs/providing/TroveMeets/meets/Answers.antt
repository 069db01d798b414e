use Rattle.std.proofs.Common.{List, Contains, refl, sym, ◌∙◌, subst, true≢false}
use Rattle.cny_dep.specs.Dep.{Dependency}
use Rattle.cny_dep.specs.Satisfies.{Satisfies}
use Rattle.trove_stream.specs.trove-parts.declared.id.TroveId.{TroveId}
use Rattle.dep_closure.specs.Closed.{own_provide}
use Rattle.dep_closure.proofs.Provided.{by_first, by_later, by_rest}
use Rattle.dep_closure.proofs.providing.TroveMeets.meets.Goals as goal

pub returns-then-is_met_by_name : goal.returns-then-is_met_by_name
returns-then-is_met_by_name c = (
  λ _. by_first (own_provide c.args.self.now.id.name) c.args.self.now.provides c.args.require.now
      (subst (λ (id : TroveId). Satisfies (own_provide id.name) c.args.require.now) c.id.ensures.value (c.is_met_by_name.ensures.0 c.if-is_met_by_name.true)),
  λ _. refl,
)

pub returns : goal.returns
returns c =
    let HasOne : List Dependency → Type 0 = λ ps. (q : Dependency) × Contains ps q × Satisfies q c.args.require.now in
    let other : Satisfies (own_provide c.args.self.now.id.name) c.args.require.now → ⊥ =
    λ is. true≢false (sym (c.is_met_by_name.ensures.1 (subst (λ (id : TroveId). Satisfies (own_provide id.name) c.args.require.now) (sym c.id.ensures.value) is)) ∙ c.if-is_met_by_name.false) in (
      λ h. by_later (own_provide c.args.self.now.id.name) c.args.self.now.provides c.args.require.now
          (subst HasOne c.provides.ensures.value (c.is_met_by_any.ensures.0 h)),
      λ is. c.is_met_by_any.ensures.1 (subst HasOne (sym c.provides.ensures.value)
          (by_rest (own_provide c.args.self.now.id.name) c.args.self.now.provides c.args.require.now other is)),
    )
