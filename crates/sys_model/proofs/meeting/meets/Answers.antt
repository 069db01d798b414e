use Rattle.std.proofs.Common.{List, refl, sym, ◌∙◌, subst, true≢false}
use Rattle.cny_dep.specs.Dep.{Dependency}
use Rattle.cny_dep.specs.Satisfies.{Satisfies}
use Rattle.repo_index.specs.trove-parts.declared.id.TroveId.{TroveId}
use Rattle.dep_closure.specs.Closed.{own_provide, IsSatisfiedBy}
use Rattle.dep_closure.proofs.Provided.{by_first, by_later, by_rest}
use Rattle.sys_model.proofs.meeting.meets.Goals as goal

pub returns-then-is_met_by_name : goal.returns-then-is_met_by_name
returns-then-is_met_by_name c = (
  λ _. by_first (own_provide c.args.trove.now.id.name) c.args.trove.now.provides c.args.require.now
      (subst (λ (id : TroveId). Satisfies (own_provide id.name) c.args.require.now) c.id.ensures.value (c.is_met_by_name.ensures.0 c.if-is_met_by_name.true)),
  λ _. refl,
)

pub returns : goal.returns
returns c =
    let own = own_provide c.args.trove.now.id.name in
    let provides = c.args.trove.now.provides in
    let require = c.args.require.now in
    let other : Satisfies own require → ⊥ =
    λ is. true≢false (sym (c.is_met_by_name.ensures.1 (subst (λ (id : TroveId). Satisfies (own_provide id.name) require) (sym c.id.ensures.value) is)) ∙ c.if-is_met_by_name.false) in (
      λ h. (let one = subst (λ (ps : List Dependency). IsSatisfiedBy ps require) c.provides.ensures.value (c.is_satisfied_by.ensures.0 h) in by_later own provides require (one.provide, one.provided, one.satisfies)),
      λ is. (let one = by_rest own provides require other is in
          c.is_satisfied_by.ensures.1 (subst (λ (ps : List Dependency). IsSatisfiedBy ps require) (sym c.provides.ensures.value) (record { provide = one.0; provided = one.1; satisfies = one.2 }))),
    )
