use Rattle.std.proofs.Common.{sym, subst, All}
use Rattle.std.specs.Option.{option_copied}
use Rattle.std.proofs.lemmas.List.Elements.{All-cons}
use Rattle.trove_stream.specs.trove-parts.declared.id.TroveId.{TroveId}
use Rattle.trove_stream.specs.declared.parts.TroveParts.{TroveParts}
use Rattle.dep_closure.specs.Closed.{own_provide, provides_of}
use Rattle.dep_closure.specs.Slots.{held, held_after, IsNoLoss}
use Rattle.dep_closure.proofs.Bounds.{lowered_more, no_loss_lower}
use Rattle.dep_closure.proofs.Meeting.{other_trove}
use Rattle.dep_closure.proofs.staying.bound_by_lost.Goals as goal

pub returns-clause-lowered : goal.returns-clause-lowered
returns-clause-lowered c =
    lowered_more (held_after c.args.slots.now c.args.edits.now) (option_copied c.args.bound) (option_copied c.bound_by_own-own.result) (option_copied c.bound_by_provides.result)
    c.bound_by_own-own.ensures.lowered c.bound_by_provides.ensures.lowered

pub returns-clause-no_loss : goal.returns-clause-no_loss
returns-clause-no_loss c = λ t there.
    let after = held_after c.args.slots.now c.args.edits.now in
    let requirers = c.args.requirers.now in
    let bound = option_copied c.bound_by_provides.result in
    let trove = c.in-Some.trove.now in
    let own : IsNoLoss after requirers bound (own_provide trove.id.name) =
    no_loss_lower after requirers (option_copied c.bound_by_own-own.result) bound c.bound_by_provides.ensures.lowered (own_provide trove.id.name)
    (subst (λ (id : TroveId). IsNoLoss after requirers (option_copied c.bound_by_own-own.result) (own_provide id.name)) c.id.ensures.value c.bound_by_own-own.ensures.no_loss) in
    subst (λ (u : TroveParts). All (IsNoLoss after requirers bound) (provides_of u)) (other_trove (held c.args.slots.now c.args.name.now) trove t (sym c.in-Some.ensures) there)
    (All-cons (IsNoLoss after requirers bound) (own_provide trove.id.name) trove.provides own
    (subst (All (IsNoLoss after requirers bound)) c.provides.ensures.value c.bound_by_provides.ensures.no_loss))
