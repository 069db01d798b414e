use Rattle.std.proofs.Common.{ℕ, ◌+◌, List, get_or, take, refl, sym, ap, subst, ◌∙◌, true≢false, arith}
use Rattle.std.specs.BTreeSet.{BTreeSet}
use Rattle.std.proofs.lemmas.List.{take_all}
use Rattle.repo_index.specs.trove-parts.declared.id.TroveId.{TroveId}
use Rattle.sys_model.specs.Fit.{Fresh}
use Rattle.sys_model.specs.Growing.{HasNoted, HasNotedAll, IsTaken}
use Rattle.sys_model.proofs.NotedNames.{none_noted, noted_more, skipped, two_of}
use Rattle.sys_model.proofs.noting.note_all.Goals.{in-Some+else-is_taken+in_ok-note, in_default}
use Rattle.sys_model.proofs.noting.note_all.Goals as goal

pub loop-place-init : goal.loop-place-init
loop-place-init c = none_noted c.args.catalogue.now.troves c.args.installed.now c.args.fresh.now c.args.doubted.now c.args.replaced.now.items

pub returns-then-is_taken-clause-two : goal.returns-then-is_taken-clause-two
returns-then-is_taken-clause-two c = λ _.
    let places = c.args.places.now in
    let i = c.loop-place.place-index in
    let here : ℕ = get_or places i 0 in
    let now = c.loop-place in
    two_of c.args.catalogue.now.troves c.args.installed.now places i here c.loop-place-test.true refl c.args.fresh.now now.fresh now.fresh c.args.doubted.now now.doubted now.doubted
    c.args.replaced.now.items now.replaced.items now.replaced.items now.invariant c.in-Some.trove.now (sym c.in-Some.ensures)
    (subst (λ (id : TroveId). IsTaken now.fresh id.name here) c.id.ensures.value (c.if-is_taken.ensures.0 refl))

pub loop-place-preserved : goal.loop-place-preserved
loop-place-preserved c =
    let troves = c.args.catalogue.now.troves in
    let installed = c.args.installed.now in
    let places = c.args.places.now in
    let i = c.loop-place.place-index in
    let here : ℕ = get_or places i 0 in
    let now = c.loop-place in
    let first = c.args.fresh.now in
    let doubted_first = c.args.doubted.now in
    let replaced_first = c.args.replaced.now.items in
    elim c.match-trove_at.branch [
      | in-Some+else-is_taken+in_ok-note w ↦ (
          let t = w.in-Some.trove.now in
          let after = w.note.new.fresh in
          let doubted_after = w.note.new.doubted in
          let replaced_after = w.note.new.replaced.items in
          let one : HasNoted installed t.id.name here now.fresh after now.doubted doubted_after now.replaced.items replaced_after =
          subst (λ (id : TroveId). HasNoted installed id.name here now.fresh after now.doubted doubted_after now.replaced.items replaced_after) w.id-in-Some.ensures.value w.in_ok-note.ensures in
          let free : IsTaken now.fresh t.id.name here → ⊥ =
          λ taken. true≢false (sym (w.is_taken.ensures.1 (subst (λ (id : TroveId). IsTaken now.fresh id.name here) (sym w.id.ensures.value) taken)) ∙ w.if-is_taken.false) in
          subst (λ (f : Fresh). HasNotedAll troves installed (take (i + 1) places) first f doubted_first c.match-trove_at.doubted replaced_first c.match-trove_at.replaced.items) (sym w.fresh-is)
          (subst (λ (d : BTreeSet (List ℕ)). HasNotedAll troves installed (take (i + 1) places) first after doubted_first d replaced_first c.match-trove_at.replaced.items) (sym w.doubted-is)
          (subst (λ (r : List (List ℕ)). HasNotedAll troves installed (take (i + 1) places) first after doubted_first doubted_after replaced_first r) (sym (ap (λ v. v.items) w.replaced-is))
          (noted_more troves installed places i here c.loop-place-test.true refl first now.fresh after doubted_first now.doubted doubted_after replaced_first now.replaced.items replaced_after now.invariant t
          (sym w.in-Some.ensures) free one))))
      | in_default w ↦ (
          subst (λ (f : Fresh). HasNotedAll troves installed (take (i + 1) places) first f doubted_first c.match-trove_at.doubted replaced_first c.match-trove_at.replaced.items) (sym w.fresh-is)
          (subst (λ (d : BTreeSet (List ℕ)). HasNotedAll troves installed (take (i + 1) places) first now.fresh doubted_first d replaced_first c.match-trove_at.replaced.items) (sym w.doubted-is)
          (subst (λ (r : List (List ℕ)). HasNotedAll troves installed (take (i + 1) places) first now.fresh doubted_first now.doubted replaced_first r) (sym (ap (λ v. v.items) w.replaced-is))
          (skipped troves installed places i here c.loop-place-test.true refl first now.fresh now.fresh doubted_first now.doubted now.doubted replaced_first now.replaced.items now.replaced.items now.invariant
          (sym w.in_default.ensures)))))
    ]

pub returns-clause-noted : goal.returns-clause-noted
returns-clause-noted c = λ _.
    let now = c.loop-place in
    subst (λ (l : List ℕ). HasNotedAll c.args.catalogue.now.troves c.args.installed.now l c.args.fresh.now now.fresh c.args.doubted.now now.doubted c.args.replaced.now.items now.replaced.items)
    (take_all now.place-index c.args.places.now (omega (arith, c.loop-place-test.false))) now.invariant
