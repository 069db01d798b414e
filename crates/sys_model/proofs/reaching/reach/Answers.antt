use Rattle.std.proofs.Common.{ℕ, ◌-◌, ◌<◌, ◌≤◌, List, length, get_or, take, drop, sym, subst, arith}
use Rattle.std.proofs.lemmas.List.{take_all, take-append-drop, length-drop}
use Rattle.repo_index.specs.trove-parts.declared.id.TroveId.{TroveId}
use Rattle.trove_spec.specs.Reached.{HasAddedPlaces, HasAddedRefs}
use Rattle.sys_model.specs.Growing.{AreGathered}
use Rattle.sys_model.proofs.Gathering.{added_more, gathered_more, gathered_roots, places_fit, refs_more}
use Rattle.sys_model.proofs.reaching.reach.Goals as goal

pub loop-done-init : goal.loop-done-init
loop-done-init c =
    let troves = c.args.catalogue.now.troves in
    let roots = c.args.roots.now in
    let from = c.args.from in
    let old = c.args.places.now in
    let new = c.add_places.new.places in
    let rest = drop from roots in
    let added : HasAddedPlaces troves rest old new =
    subst (λ (l : List TroveId). HasAddedPlaces troves l old new) (take_all (length roots - from) rest (omega (arith, length-drop from roots))) c.in_ok-add_places.ensures in
    record {
      gathered = subst (AreGathered troves roots new) (sym c.len-done.ensures.len)
          (subst (λ (l : List TroveId). AreGathered troves l new (length old)) (take-append-drop from roots) (gathered_roots troves (take from roots) rest old new added c.requires.before));
      more = added_more troves rest old new added;
    }

pub loop-done-smaller : goal.loop-done-smaller
loop-done-smaller c =
    let troves = c.args.catalogue.now.troves in
    let keys = c.loop-done.places in
    let few : length keys ≤ length troves = places_fit troves c.args.roots.now keys c.loop-done.done c.len.ensures.unique c.loop-done.invariant.gathered in
    let within : c.loop-done.done < length keys = omega (arith, c.loop-done-test.true, c.len.ensures.len) in
    let behind : c.loop-done.done < length troves = omega (arith, few, within) in
    omega (arith, behind)

pub loop-done-preserved : goal.loop-done-preserved
loop-done-preserved c =
    let troves = c.args.catalogue.now.troves in
    let roots = c.args.roots.now in
    let old = c.loop-done.places in
    let new = c.add_refs.new.places in
    let done = c.loop-done.done in
    let within : done < length old = omega (arith, c.loop-done-test.true, c.len.ensures.len) in
    let adds : HasAddedRefs troves (get_or old done 0) old new = subst (λ (l : List ℕ). HasAddedRefs troves (get_or l done 0) old new) c.as_slice.ensures.keys c.in_ok-add_refs.ensures in
    record {
      gathered = gathered_more troves roots old new done within c.loop-done.invariant.gathered adds;
      more = refs_more troves roots c.args.places.now old new done within c.loop-done.invariant.gathered adds c.loop-done.invariant.more;
    }
