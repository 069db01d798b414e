use Rattle.std.proofs.Common.{◌≡◌, ℕ, ◌+◌, ◌<◌, List, [], ◌∷◌, ◌++◌, length, take, sym, ap, subst, ◌∙◌, arith}
use Rattle.std.proofs.lemmas.List.{take_more}
use Rattle.change_set.specs.trove-parts.declared.id.TroveId.{TroveId}
use Rattle.update_job.specs.Places.{HasAddedPlaces, name_of_id}
use Rattle.update_job.proofs.Adding.{adds_none, adds_nothing, adds_place}
use Rattle.update_job.proofs.reaching.add_named.Goals.{in-Some+in_ok-insert, in_default}
use Rattle.update_job.proofs.reaching.add_named.Goals as goal

pub loop-id-init : goal.loop-id-init
loop-id-init c = adds_none name_of_id c.args.installed.now c.args.barred.now c.args.places.now

pub loop-id-preserved : goal.loop-id-preserved
loop-id-preserved c =
    let list = c.args.installed.now in
    let barred = c.args.barred.now in
    let ids = c.args.ids.now in
    let i = c.loop-id.id-index in
    let id = c.id-item.result in
    let old = c.args.places.now in
    let new = c.loop-id.places in
    let newer = c.match-open_place.places in
    let within : i < length ids = omega arith in
    let one_more : take (i + 1) ids ≡ take i ids ++ id ∷ [] = take_more ids i id within ∙ ap (λ (other : TroveId). take i ids ++ other ∷ []) (sym c.id-item.is) in
    subst (λ (l : List TroveId). HasAddedPlaces name_of_id list barred l old newer) (sym one_more)
    (elim c.match-open_place.branch [
      | in-Some+in_ok-insert w ↦
          adds_place name_of_id list barred (take i ids) id old new newer w.in-Some.place c.loop-id.invariant w.in-Some.ensures.some w.in-Some.ensures.only (w.places-is ∙ w.in_ok-insert.ensures.keys)
      | in_default w ↦
          subst (λ (l : List ℕ). HasAddedPlaces name_of_id list barred (take i ids ++ id ∷ []) old l) (sym w.places-is)
          (adds_nothing name_of_id list barred (take i ids) id old new c.loop-id.invariant w.in_default.ensures.only)
    ])
