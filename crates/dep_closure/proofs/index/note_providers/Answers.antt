use Rattle.std.proofs.Common.{ℕ, List, All, IsTrue, subst, arith}
use Rattle.std.proofs.lemmas.List.{take_all}
use Rattle.std.proofs.lemmas.List.Elements.{All-cons}
use Rattle.cny_dep.specs.Dep.{Dependency}
use Rattle.trove_stream.specs.declared.parts.TroveParts.{TroveParts}
use Rattle.trove_stream.specs.trove-parts.declared.id.TroveId.{TroveId}
use Rattle.dep_closure.specs.Closed.{own_provide, provides_of}
use Rattle.dep_closure.specs.Slots.{notes, IsNoted}
use Rattle.dep_closure.proofs.Noted.{all_noted_more}
use Rattle.dep_closure.proofs.index.note_providers.Goals as goal

pub returns-in_err-note-clause-kept : goal.returns-in_err-note-clause-kept
returns-in_err-note-clause-kept c = λ dep name h. c.note.ensures.kept dep name (c.loop-trove.invariant.kept dep name h)

pub returns-in_err-note_deps-clause-kept : goal.returns-in_err-note_deps-clause-kept
returns-in_err-note_deps-clause-kept c = λ dep name h. c.note_deps.ensures.kept dep name (c.note.ensures.kept dep name (c.loop-trove.invariant.kept dep name h))

pub loop-trove-preserved : goal.loop-trove-preserved
loop-trove-preserved c =
    let index = c.note_deps.new.index in
    let t = c.trove-item.result in
    let own : IsTrue (notes index t.id.name t.id.name) =
    subst (λ (id : TroveId). IsTrue (notes index id.name id.name)) c.id.ensures.value
    (subst (λ (dep : List ℕ). IsTrue (notes index dep c.id.result.now.name)) c.text.ensures.value
    (c.note_deps.ensures.kept c.text.result.now c.id.result.now.name c.in_ok-note.ensures.noted)) in
    all_noted_more provides_of c.args.index.now c.loop-trove.index index c.args.list.now c.loop-trove.trove-index t (omega arith) c.trove-item.is c.loop-trove.invariant
    (λ dep name h. c.note_deps.ensures.kept dep name (c.note.ensures.kept dep name h))
    (All-cons (λ (dep : Dependency). IsTrue (notes index dep.name t.id.name)) (own_provide t.id.name) t.provides own
    (subst (λ (id : TroveId). IsNoted index id.name t.provides) c.id.ensures.value
    (subst (λ (deps : List Dependency). IsNoted index c.id.result.now.name deps) c.provides.ensures.value c.in_ok-note_deps.ensures.noted)))

pub returns-clause-noted : goal.returns-clause-noted
returns-clause-noted c =
    subst (All (λ (t : TroveParts). IsNoted c.loop-trove.index t.id.name (provides_of t))) (take_all c.loop-trove.trove-index c.args.list.now (omega arith)) c.loop-trove.invariant.noted
