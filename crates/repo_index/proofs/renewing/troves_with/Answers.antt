use Rattle.std.proofs.Common.{◌≡◌, ◌<◌, List, length, get_or, is_some, sym, ap, subst, ◌∙◌}
use Rattle.std.proofs.lemmas.Iterator.Adapters.{YieldsList-from_vec}
use Rattle.std.proofs.lemmas.Iterator.Consumers.{YieldsList-turn}
use Rattle.trove_stream.specs.declared.parts.TroveParts.{TroveParts}
use Rattle.trove_stream.specs.Trove.{has_build}
use Rattle.repo_index.proofs.renewing.troves_with.Goals as goal

pub trove_with-requires : goal.trove_with-requires
trove_with-requires c =
    let trove = c.in-Some.trove in
    let vec = c.into_vec-trove-items.result in
    let k = length c.loop-trove.yielded in
    let gives = c.into_iter-trove-iterator.ensures.into_iter_gives in
    let turn = YieldsList-turn (YieldsList-from_vec {s = c.into_iter-trove-iterator.result} vec.items gives.0 (gives.1 ∙ vec.ok.0)) c.loop-trove.yielded c.loop-trove.trove-iterator c.loop-trove.yielded_by _ c.next.new.self trove c.in-Some.is c.next.ensures.steps in
    let within : k < length c.args.troves = subst (λ (l : List TroveParts). k < length l) c.into_vec-trove-items.ensures turn.0 in
    subst (λ (t : TroveParts). is_some c.args.version.now.revision.build ≡ has_build t.id) (sym (turn.1 ∙ ap (λ (l : List TroveParts). get_or l k trove) c.into_vec-trove-items.ensures)) (c.requires k trove within)
