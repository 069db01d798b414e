use Rattle.std.proofs.Common.{◌≡◌, List, ℕ, Contains, ap, subst, ◌∙◌}
use Rattle.cny_dep.specs.Dep.{Dependency}
use Rattle.repo_index.specs.trove-parts.declared.id.TroveId.{TroveId}
use Rattle.dep_closure.specs.Closed.{own_provide}
use Rattle.sys_model.specs.Providers.{places_in}
use Rattle.sys_model.proofs.Beside.{IsBeside, beside_first, kept_added, own_added}
use Rattle.sys_model.proofs.providers.add_trove.Goals as goal

pub returns-clause-noted : goal.returns-clause-noted
returns-clause-noted c =
    let P = places_in c.args.names.now in
    let Q = places_in c.add_place.new.names in
    let R = places_in c.add_places.new.names in
    let t = c.args.trove.now in
    let place = c.args.place in
    let own = own_added P Q c.text.result.now place c.in_ok-add_place.ensures in
    let named : c.text.result.now ≡ t.id.name = c.text.ensures.value ∙ ap (λ (id : TroveId). id.name) c.id.ensures.value in
    beside_first R (own_provide t.id.name) t.provides place (c.in_ok-add_places.ensures.kept t.id.name place (subst (λ (n : List ℕ). Contains (Q n) place) named own))
    (subst (λ (deps : List Dependency). IsBeside R deps place) c.provides.ensures.value c.in_ok-add_places.ensures.noted)

pub returns-clause-kept : goal.returns-clause-kept
returns-clause-kept c = λ name other h.
    c.in_ok-add_places.ensures.kept name other (kept_added (places_in c.args.names.now) (places_in c.add_place.new.names) c.text.result.now c.args.place c.in_ok-add_place.ensures name other h)
