use Rattle.std.proofs.Common.{List, ℕ, Contains, sym, subst}
use Rattle.change_set.specs.trove-stream.declared.parts.TroveParts.{TroveParts}
use Rattle.update_job.specs.Lists.{IsErased}
use Rattle.update_job.specs.ByName.{HasPutAll}
use Rattle.update_job.proofs.Lists.{places_stand, left_stand, erased_named, erased_of}
use Rattle.update_job.proofs.changing.erased.Goals as goal

pub places_left-requires : goal.places_left-requires
places_left-requires c = places_stand c.args.installed.now (Contains c.args.names.now) c.in_ok-roots.roots c.in_ok-roots.ensures.value

pub put_all-requires-clause-places : goal.put_all-requires-clause-places
put_all-requires-clause-places c = left_stand c.args.installed.now c.in_ok-roots.roots c.in_ok-left.left c.as_slice.result.now c.in_ok-left.ensures c.as_slice.ensures.keys

pub in_order-requires-clause-named : goal.in_order-requires-clause-named
in_order-requires-clause-named c =
    let list = c.args.installed.now in
    let left = c.in_ok-left.left in
    let put : HasPutAll list left c.new-troves.result c.put_all.new.troves = subst (λ (l : List ℕ). HasPutAll list l c.new-troves.result c.put_all.new.troves) c.as_slice.ensures.keys c.in_ok-put_all.ensures.put in
    erased_named list c.args.names.now c.in_ok-roots.roots left c.new-troves.result c.put_all.new.troves c.new-troves.ensures.empty c.in_ok-roots.ensures.value c.in_ok-left.ensures put

pub returns-clause-value : goal.returns-clause-value
returns-clause-value c =
    let list = c.args.installed.now in
    let left = c.in_ok-left.left in
    let put : HasPutAll list left c.new-troves.result c.put_all.new.troves = subst (λ (l : List ℕ). HasPutAll list l c.new-troves.result c.put_all.new.troves) c.as_slice.ensures.keys c.in_ok-put_all.ensures.put in
    subst (λ (l : List TroveParts). IsErased list c.args.names.now l) (sym c.in_ok-list.ensures)
    (erased_of list c.args.names.now c.in_ok-roots.roots left c.new-troves.result c.put_all.new.troves c.new-troves.ensures.empty c.in_ok-roots.ensures.value c.in_ok-left.ensures put c.in_ok-put_all.ensures.ordered)
