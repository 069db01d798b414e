use Rattle.std.proofs.Common.{IsTrue, List, ℕ, subst, arith}
use Rattle.std.proofs.lemmas.List.{take_all}
use Rattle.dep_closure.specs.Slots.{notes, IsNoted}
use Rattle.dep_closure.proofs.Noted.{noted_more}
use Rattle.dep_closure.proofs.index.note_deps.Goals as goal

pub returns-in_err-note-clause-kept : goal.returns-in_err-note-clause-kept
returns-in_err-note-clause-kept c = λ dep name h. c.note.ensures.kept dep name (c.loop-dep.invariant.kept dep name h)

pub loop-dep-preserved : goal.loop-dep-preserved
loop-dep-preserved c =
    noted_more c.args.index.now c.loop-dep.index c.note.new.index c.args.name.now c.args.deps.now c.loop-dep.dep-index c.dep-item.result (omega arith) c.dep-item.is c.loop-dep.invariant c.note.ensures.kept
    (subst (λ (d : List ℕ). IsTrue (notes c.note.new.index d c.args.name.now)) c.name.ensures c.in_ok-note.ensures.noted)

pub returns-clause-noted : goal.returns-clause-noted
returns-clause-noted c =
    subst (IsNoted c.loop-dep.index c.args.name.now) (take_all c.loop-dep.dep-index c.args.deps.now (omega arith)) c.loop-dep.invariant.noted
