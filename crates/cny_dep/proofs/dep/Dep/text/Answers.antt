use Rattle.std.proofs.Common.{sym, ◌∙◌}
use Rattle.cny_dep.specs.Dep.{Dependency}
use Rattle.cny_dep.proofs.DepParts.{one_canonical}
use Rattle.cny_dep.proofs.dep.Dep.text.Goals as goal

pub returns-clause-only : goal.returns-clause-only
returns-clause-only c dep is same =
    let own : Dependency = record { class = c.self.inside.class; name = c.self.inside.name; flags = c.self.inside.flags } in
    sym c.self.view_is ∙ one_canonical own dep c.self.invariant.dependency is (sym c.self.invariant.spelled ∙ sym c.get.ensures ∙ same)
