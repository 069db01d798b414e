use Rattle.std.proofs.Common.{ℕ, List, [], Contains, subst}
use Rattle.update_job.specs.Places.{ArePlacesReached}
use Rattle.update_job.proofs.Leaving.{places_left_of}
use Rattle.update_job.proofs.reaching.places_left.Goals as goal

pub places_reached-requires-2 : goal.places_reached-requires-2
places_reached-requires-2 c = λ place among. (c.in_ok-outside.ensures.each place (subst (λ (l : List ℕ). Contains l place) c.as_slice-2.ensures.value among)).0

pub returns : goal.returns
returns c =
    let list = c.args.installed.now in
    let roots = c.args.roots.now in
    let reached = c.in_ok-reached.reached in
    let outside = c.in_ok-outside.outside.items in
    let left = c.in_ok-left.left in
    let first : ArePlacesReached list [] roots reached =
    subst (λ (l : List ℕ). ArePlacesReached list [] l reached) c.as_slice.ensures.keys (subst (λ (l : List ℕ). ArePlacesReached list l c.as_slice.result.now reached) c.new-none.ensures.empty c.in_ok-reached.ensures) in
    let second : ArePlacesReached list roots outside left = subst (λ (l : List ℕ). ArePlacesReached list roots l left) c.as_slice-2.ensures.value c.in_ok-left.ensures in
    places_left_of list roots reached outside left c.requires first c.in_ok-outside.ensures second
