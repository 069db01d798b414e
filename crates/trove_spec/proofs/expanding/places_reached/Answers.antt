use Rattle.std.proofs.Common.{ℕ, ◌<◌, ◌≤◌, List, length, get_or, subst, arith}
use Rattle.trove_spec.specs.Reached.{HasAddedPlaces, HasAddedRefs}
use Rattle.trove_spec.proofs.Reaching.{gathered_first, gathered_more, gathered_all, places_fit}
use Rattle.trove_spec.proofs.expanding.places_reached.Goals as goal

pub loop-done-init : goal.loop-done-init
loop-done-init c =
    let troves = c.args.catalogue.now.troves in
    let roots = c.args.roots.now in
    let keys = c.add_places.new.places in
    gathered_first troves roots keys (subst (λ (l : List ℕ). HasAddedPlaces troves roots l keys) c.new-places.ensures.empty c.in_ok-add_places.ensures)

pub loop-done-smaller : goal.loop-done-smaller
loop-done-smaller c =
    let troves = c.args.catalogue.now.troves in
    let keys = c.loop-done.places in
    let few : length keys ≤ length troves = places_fit troves c.args.roots.now keys c.len.ensures.unique c.loop-done.invariant.steps in
    let within : c.loop-done.done < length keys = omega (arith, c.loop-done-test.true, c.len.ensures.len) in
    let behind : c.loop-done.done < length troves = omega (arith, few, within) in
    omega (arith, behind)

pub loop-done-preserved : goal.loop-done-preserved
loop-done-preserved c =
    let troves = c.args.catalogue.now.troves in
    let roots = c.args.roots.now in
    let old = c.loop-done.places in
    let new = c.add_refs.new.places in
    let done = c.loop-done.done in
    let within : done < length old = omega (arith, c.loop-done-test.true, c.len.ensures.len) in
    let adds : HasAddedRefs troves (get_or old done 0) old new = subst (λ (l : List ℕ). HasAddedRefs troves (get_or l done 0) old new) c.as_slice.ensures.keys c.in_ok-add_refs.ensures in
    gathered_more troves roots old new done within c.loop-done.invariant adds

pub returns : goal.returns
returns c =
    let keys = c.loop-done.places in
    let ended : length keys ≤ c.loop-done.done = omega (arith, c.loop-done-test.false, c.len.ensures.len) in
    gathered_all c.args.catalogue.now.troves c.args.roots.now keys c.loop-done.done ended c.len.ensures.unique c.loop-done.invariant
