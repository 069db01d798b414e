use Rattle.std.proofs.Common.{◌≡◌, ◌+◌, ◌<◌, ℕ, List, length, take, sym, ap, subst, ◌∙◌, arith}
use Rattle.change_set.specs.trove-stream.Installed.{IsPlaceOf}
use Rattle.change_set.specs.trove-parts.declared.id.TroveId.{TroveId}
use Rattle.update_job.specs.Lists.{HasTroveOf}
use Rattle.update_job.specs.Places.{ArePlacesOf}
use Rattle.update_job.proofs.Lists.{roots_same, roots_more, name_before, name_last, name_either}
use Rattle.update_job.proofs.changing.places_of_troves.Goals.{in-Some+in_ok-insert, in_default}
use Rattle.update_job.proofs.changing.places_of_troves.Goals as goal

pub loop-trove-preserved : goal.loop-trove-preserved
loop-trove-preserved c =
    let list = c.args.installed.now in
    let troves = c.args.troves.now in
    let i = c.loop-trove.trove-index in
    let t = c.trove-item.result in
    let is = c.trove-item.is in
    let old = c.loop-trove.places in
    let within : i < length troves = omega arith in
    let own : c.id.result.now.name ≡ t.id.name = ap (λ (id : TroveId). id.name) c.id.ensures.value in
    elim c.match-place_of.branch [
      | in-Some+in_ok-insert w ↦
          roots_more list (HasTroveOf (take i troves)) (HasTroveOf (take (i + 1) troves)) t.id.name old (name_before troves i t within is) (name_either troves i t within is) c.loop-trove.invariant
          (name_last troves i t within is) c.match-place_of.places w.in-Some.place
          (subst (λ (n : List ℕ). IsPlaceOf n list w.in-Some.place) own w.in-Some.ensures.some)
          (λ place at. w.in-Some.ensures.only place (subst (λ (n : List ℕ). IsPlaceOf n list place) (sym own) at))
          (w.places-is ∙ w.in_ok-insert.ensures.keys)
      | in_default w ↦
          subst (ArePlacesOf list (HasTroveOf (take (i + 1) troves))) (sym w.places-is)
          (roots_same list (HasTroveOf (take i troves)) (HasTroveOf (take (i + 1) troves)) t.id.name old (name_before troves i t within is) (name_either troves i t within is) c.loop-trove.invariant
          (λ place at. w.in_default.ensures.only place (subst (λ (n : List ℕ). IsPlaceOf n list place) (sym own) at)))
    ]
