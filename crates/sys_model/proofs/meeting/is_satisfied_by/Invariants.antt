use Rattle.std.proofs.Common.{take, All}
use Rattle.cny_dep.specs.Dep.{Dependency}
use Rattle.cny_dep.specs.Satisfies.{Satisfies}
use Rattle.sys_model.proofs.meeting.is_satisfied_by.Given as goal

abbrev pub invariant-loop-provide : goal.invariant-loop-provide
invariant-loop-provide l = All (λ (p : Dependency). Satisfies p l.require → ⊥) (take l.provide-index l.provides)
