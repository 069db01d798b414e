use Rattle.std.proofs.Common.{◌≡◌, true, false, List, [], ◌∷◌, ◌++◌, take, sym, ap, subst, ◌∙◌, append-nil}
use Rattle.update_job.specs.trove-stream.Installed.{IsRising}
use Rattle.update_job.specs.trove-stream.declared.parts.TroveParts.{TroveParts}
use Rattle.root_edits.specs.Steps.{chosen}
use Rattle.root_edits.proofs.Choosing.{chosen_next, chosen_rises}
use Rattle.root_edits.proofs.reaching.chosen.Goals.{then-contains+in_ok-copy+in_ok-push, else-contains}
use Rattle.change_rel.proofs.trove-stream.Members.{take_all as take_whole}
use Rattle.root_edits.proofs.reaching.chosen.Goals as goal

pub of_rising-requires : goal.of_rising-requires
of_rising-requires c =
    let keys = c.args.places.now in
    let whole : take c.loop-place.place c.troves-trove-items.result.now ≡ c.args.installed.now =
    take_whole c.loop-place.place c.troves-trove-items.result.now c.loop-place-test.false ∙ c.troves-trove-items.ensures.value in
    subst IsRising (sym (c.loop-place.invariant ∙ ap (chosen keys 0) whole)) (chosen_rises keys 0 c.args.installed.now c.troves-trove-items.ensures.rising)

pub loop-place-preserved : goal.loop-place-preserved
loop-place-preserved c =
    let keys = c.args.places.now in
    let items = c.troves-trove-items.result.now in
    let i = c.loop-place.place in
    let t = c.trove-item.result in
    let so_far = chosen keys 0 (take i items) in
    elim c.if-contains.branch [
      | then-contains+in_ok-copy+in_ok-push w ↦
          ap (λ v. v.items) w.troves-is ∙ w.in_ok-push.ensures.items
          ∙ ap (λ (u : TroveParts). c.loop-place.troves.items ++ u ∷ []) w.in_ok-copy.ensures
          ∙ ap (λ (l : List TroveParts). l ++ t ∷ []) c.loop-place.invariant
          ∙ sym (chosen_next keys items i t true c.loop-place-test.true c.trove-item.is (sym c.contains.ensures ∙ w.if-contains.true))
      | else-contains w ↦
          ap (λ v. v.items) w.troves-is ∙ c.loop-place.invariant ∙ sym (append-nil so_far)
          ∙ sym (chosen_next keys items i t false c.loop-place-test.true c.trove-item.is (sym c.contains.ensures ∙ w.if-contains.false))
    ]

pub returns : goal.returns
returns c =
    let keys = c.args.places.now in
    c.of_rising.ensures ∙ c.loop-place.invariant
    ∙ ap (chosen keys 0) (take_whole c.loop-place.place c.troves-trove-items.result.now c.loop-place-test.false ∙ c.troves-trove-items.ensures.value)
