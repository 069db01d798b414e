use Rattle.std.proofs.Common.{◌∙◌, sym, ap, refl}
use Rattle.std.specs.Option.{option_copied_mut}
use Rattle.tree_nodes.specs.Attempts.{can_leave}
use Rattle.tree_nodes.proofs.StoredTree.{get_at, written_some}
use Rattle.tree_nodes.proofs.Tried.{lifted_some, lifted_moves, lifted_left, lifted_none, lifted_same}
use Rattle.tree_nodes.proofs.attempts.lift_at.Goals as goal

pub returns-in-Some-clause-some : goal.returns-in-Some-clause-some
returns-in-Some-clause-some c =
    let found = sym c.get_mut.ensures.value ∙ ap option_copied_mut c.in-Some.is in
    lifted_some c.lift.result _ c.args.path.now c.in-Some.place.now (get_at _ _ c.args.nodes.now.entries found) c.lift.ensures.some

pub returns-in-Some-clause-moves : goal.returns-in-Some-clause-moves
returns-in-Some-clause-moves c =
    let found = sym c.get_mut.ensures.value ∙ ap option_copied_mut c.in-Some.is in
    lifted_moves c.lift.result _ c.in-Some.place.now (get_at _ _ c.args.nodes.now.entries found) c.lift.ensures.moves

pub returns-in-Some-clause-left : goal.returns-in-Some-clause-left
returns-in-Some-clause-left c =
    let found = sym c.get_mut.ensures.value ∙ ap option_copied_mut c.in-Some.is in
    lifted_left c.lift.result _ _ c.args.path.now c.lift.new.place _ (written_some _ _ _ _ _ _ found (c.get_mut.follows.holds c.lift.new.place).0 refl) c.lift.ensures.left

pub returns-in-Some-clause-none : goal.returns-in-Some-clause-none
returns-in-Some-clause-none c =
    let found = sym c.get_mut.ensures.value ∙ ap option_copied_mut c.in-Some.is in
    lifted_none c.lift.result _ c.in-Some.place.now (get_at _ _ c.args.nodes.now.entries found) c.lift.ensures.none

pub returns-in-Some-clause-same : goal.returns-in-Some-clause-same
returns-in-Some-clause-same c =
    let found = sym c.get_mut.ensures.value ∙ ap option_copied_mut c.in-Some.is in
    lifted_same c.lift.result _ _ c.args.path.now c.in-Some.place.now c.lift.new.place (get_at _ _ c.args.nodes.now.entries found)
    (written_some _ _ _ _ _ _ found (c.get_mut.follows.holds c.lift.new.place).0 refl) c.lift.ensures.same

pub returns-in-None-clause-none : goal.returns-in-None-clause-none
returns-in-None-clause-none c =
    let found = sym c.get_mut.ensures.value ∙ ap option_copied_mut c.in-None.is in
    ap can_leave (get_at _ _ c.args.nodes.now.entries found)
