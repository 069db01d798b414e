use Rattle.std.proofs.Common.{◌<◌, List, length, get_or, sym, ap, subst, ◌∙◌}
use Rattle.std.proofs.lemmas.Iterator.Adapters.{YieldsList-from_vec}
use Rattle.std.proofs.lemmas.Iterator.Consumers.{YieldsList-turn}
use Rattle.repo_index.specs.trove-stream.declared.parts.TroveParts.{TroveParts}
use Rattle.repo_shadow.specs.Steps.{CanMove}
use Rattle.repo_shadow.proofs.moving.moved_troves.Goals as goal

pub moved_trove-requires : goal.moved_trove-requires
moved_trove-requires c =
    let trove = c.in-Some.trove in
    let vec = c.into_vec-trove-items.result in
    let k = length c.loop-trove.yielded in
    let gives = c.into_iter-trove-iterator.ensures.into_iter_gives in
    let turn = YieldsList-turn (YieldsList-from_vec {s = c.into_iter-trove-iterator.result} vec.items gives.0 (gives.1 ∙ vec.ok.0)) c.loop-trove.yielded c.loop-trove.trove-iterator c.loop-trove.yielded_by _ c.next.new.self trove c.in-Some.is c.next.ensures.steps in
    let within : k < length c.args.troves = subst (λ (l : List TroveParts). k < length l) c.into_vec-trove-items.ensures turn.0 in
    subst (CanMove c.args.way c.args.label.now) (sym (turn.1 ∙ ap (λ (l : List TroveParts). get_or l k trove) c.into_vec-trove-items.ensures)) (c.requires k trove within)
