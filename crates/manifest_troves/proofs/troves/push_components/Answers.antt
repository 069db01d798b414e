use Rattle.std.proofs.Common.{◌≡◌, ℕ, List, length, sym, ap, ◌∙◌, subst}
use Rattle.std.proofs.lemmas.Map.Iter.{iter_turn}
use Rattle.std.proofs.lemmas.Result.{err_from_is_err_and}
use Rattle.change_set.specs.trove-parts.declared.id.TroveId.{TroveId}
use Rattle.change_set.specs.trove-stream.Trove.{IsTrove}
use Rattle.manifest_troves.specs.Shares.{Shared, trove_of, named_trove}
use Rattle.manifest_troves.proofs.Components.{handed_bad, mapped_at, push_behind, all_behind}
use Rattle.manifest_troves.proofs.troves.push_components.Goals as goal

pub returns-in_err-into_trove-clause-bad : goal.returns-in_err-into_trove-clause-bad
returns-in_err-into_trove-clause-bad c = λ is all.
    let p = err_from_is_err_and c.from_residual-in_err-into_trove.result c.from_residual-in_err-into_trove.ensures.1 in
    let entry : List ℕ × Shared = (c.in-Some.name, c.in-Some.share) in
    let turn =
    iter_turn (λ (e : List ℕ × Shared). e) c.args.shares.entries c.loop-name.yielded c.into_iter-name-iterator.result c.loop-name.name-iterator c.next.new.self c.next.result
    c.into_iter-name-iterator.ensures.into_iter_gives.0 c.loop-name.yielded_by entry c.in-Some.is c.next.ensures.steps in
    c.in_err-into_trove.ensures.bad (handed_bad c.from_residual-in_err-into_trove.result p.0 c.in_err-into_trove.field-0.0 p.1 p.2 is)
    (subst (λ (id : TroveId). IsTrove (trove_of id c.in-Some.share)) (sym c.in_ok-id.ensures)
    (mapped_at IsTrove (named_trove c.args.id.now) c.args.shares.entries (length c.loop-name.yielded) entry turn.1 all))

pub loop-name-preserved : goal.loop-name-preserved
loop-name-preserved c =
    let entry : List ℕ × Shared = (c.in-Some.name, c.in-Some.share) in
    let is : c.in_ok-into_trove.field-0 ≡ named_trove c.args.id.now entry = c.in_ok-into_trove.ensures.ok ∙ ap (λ (id : TroveId). trove_of id c.in-Some.share) c.in_ok-id.ensures in
    record {
      items = c.in_ok-push.ensures.items
          ∙ push_behind (named_trove c.args.id.now) c.args.troves.now.items c.loop-name.yielded entry c.loop-name.troves.items c.in_ok-into_trove.field-0 c.loop-name.invariant.items is;
      are = all_behind IsTrove (named_trove c.args.id.now) c.loop-name.yielded entry c.in_ok-into_trove.field-0 c.loop-name.invariant.are c.in_ok-into_trove.ensures.is is;
    }
