use Rattle.std.proofs.Common.{List, All, subst, arith}
use Rattle.std.proofs.lemmas.List.{take_all}
use Rattle.cny_dep.specs.Dep.{Dependency}
use Rattle.trove_stream.specs.trove-parts.declared.id.TroveId.{TroveId}
use Rattle.trove_stream.specs.declared.parts.TroveParts.{TroveParts}
use Rattle.dep_closure.specs.Slots.{IsNoted}
use Rattle.dep_closure.proofs.Noted.{all_noted_more}
use Rattle.dep_closure.proofs.index.note_requirers.Goals as goal

pub returns-in_err-note_deps-clause-kept : goal.returns-in_err-note_deps-clause-kept
returns-in_err-note_deps-clause-kept c = λ dep name h. c.note_deps.ensures.kept dep name (c.loop-trove.invariant.kept dep name h)

pub loop-trove-preserved : goal.loop-trove-preserved
loop-trove-preserved c =
    let t : TroveParts = c.trove-item.result in
    all_noted_more (λ (u : TroveParts). u.requires_) c.args.index.now c.loop-trove.index c.note_deps.new.index c.args.list.now c.loop-trove.trove-index t (omega arith) c.trove-item.is c.loop-trove.invariant c.note_deps.ensures.kept
    (subst (λ (id : TroveId). IsNoted c.note_deps.new.index id.name t.requires_) c.id.ensures.value
    (subst (λ (deps : List Dependency). IsNoted c.note_deps.new.index c.id.result.now.name deps) c.requires_.ensures.value c.in_ok-note_deps.ensures.noted))

pub returns-clause-noted : goal.returns-clause-noted
returns-clause-noted c =
    subst (All (λ (t : TroveParts). IsNoted c.loop-trove.index t.id.name t.requires_)) (take_all c.loop-trove.trove-index c.args.list.now (omega arith)) c.loop-trove.invariant.noted
