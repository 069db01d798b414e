use Rattle.std.proofs.Common.{ℕ, ◌<◌, ◌≤◌, List, length, get_or, subst, arith}
use Rattle.update_job.specs.Places.{HasAddedRefs}
use Rattle.update_job.proofs.Searching.{gathered_first, gathered_more, gathered_all, places_fit}
use Rattle.update_job.proofs.reaching.places_reached.Goals as goal

pub loop-done-init : goal.loop-done-init
loop-done-init c = gathered_first c.args.installed.now c.args.barred.now c.args.starts.now c.in_ok-places.places c.requires c.in_ok-places.ensures

pub loop-done-smaller : goal.loop-done-smaller
loop-done-smaller c =
    let list = c.args.installed.now in
    let keys = c.loop-done.places in
    let few : length keys ≤ length list = places_fit list keys c.len.ensures.unique c.loop-done.invariant.stand in
    let within : c.loop-done.done < length keys = omega (arith, c.loop-done-test.true, c.len.ensures.len) in
    let behind : c.loop-done.done < length list = omega (arith, few, within) in
    omega (arith, behind)

pub loop-done-preserved : goal.loop-done-preserved
loop-done-preserved c =
    let list = c.args.installed.now in
    let barred = c.args.barred.now in
    let old = c.loop-done.places in
    let new = c.add_refs.new.places in
    let done = c.loop-done.done in
    let within : done < length old = omega (arith, c.loop-done-test.true, c.len.ensures.len) in
    let adds : HasAddedRefs list barred (get_or old done 0) old new = subst (λ (l : List ℕ). HasAddedRefs list barred (get_or l done 0) old new) c.as_slice.ensures.keys c.in_ok-add_refs.ensures in
    gathered_more list barred c.args.starts.now old new done within c.loop-done.invariant adds

pub returns : goal.returns
returns c =
    let keys = c.loop-done.places in
    let ended : length keys ≤ c.loop-done.done = omega (arith, c.loop-done-test.false, c.len.ensures.len) in
    gathered_all c.args.installed.now c.args.barred.now c.args.starts.now keys c.loop-done.done ended c.len.ensures.unique c.loop-done.invariant
