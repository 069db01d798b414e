use Rattle.std.proofs.Common.{List, ℕ, Contains, subst, arith}
use Rattle.std.proofs.lemmas.List.{take_all}
use Rattle.cny_dep.specs.Dep.{Dependency}
use Rattle.sys_model.specs.Providers.{places_in}
use Rattle.sys_model.proofs.Beside.{IsBeside, beside_more, kept_added, own_added}
use Rattle.sys_model.proofs.providers.add_places.Goals as goal

pub loop-dep-preserved : goal.loop-dep-preserved
loop-dep-preserved c =
    let P = places_in c.loop-dep.names in
    let Q = places_in c.add_place.new.names in
    let dep = c.dep-item.result in
    let place = c.args.place in
    let name = c.name.result.now in
    record {
      noted = beside_more P Q c.args.deps.now c.loop-dep.dep-index dep place (omega arith) c.dep-item.is (kept_added P Q name place c.in_ok-add_place.ensures) c.loop-dep.invariant.noted
          (subst (λ (n : List ℕ). Contains (Q n) place) c.name.ensures (own_added P Q name place c.in_ok-add_place.ensures));
      kept = λ other q h. kept_added P Q name place c.in_ok-add_place.ensures other q (c.loop-dep.invariant.kept other q h);
    }

pub returns-clause-noted : goal.returns-clause-noted
returns-clause-noted c =
    subst (λ (deps : List Dependency). IsBeside (places_in c.loop-dep.names) deps c.args.place) (take_all c.loop-dep.dep-index c.args.deps.now (omega arith)) c.loop-dep.invariant.noted
