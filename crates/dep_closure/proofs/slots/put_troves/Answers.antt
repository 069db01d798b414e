use Rattle.std.proofs.Common.{List, ap, ◌∙◌, arith}
use Rattle.std.proofs.lemmas.List.{take_all}
use Rattle.trove_stream.specs.trove-parts.declared.id.TroveId.{TroveId}
use Rattle.trove_stream.specs.declared.parts.TroveParts.{TroveParts}
use Rattle.dep_closure.specs.Slots.{slot}
use Rattle.dep_closure.proofs.Putting.{put_all, put_more, put_rising}
use Rattle.dep_closure.proofs.slots.put_troves.Goals as goal

pub loop-trove-preserved : goal.loop-trove-preserved
loop-trove-preserved c =
    put_more c.args.slots.now c.loop-trove.slots c.insert.new.self c.args.list.now c.loop-trove.trove-index c.trove-item.result c.in_ok-copy.copy c.in_ok-name.name (omega arith) c.trove-item.is c.loop-trove.invariant
    (c.in_ok-name.ensures ∙ ap (λ (id : TroveId). id.name) c.id.ensures.value) c.in_ok-copy.ensures c.in_ok-insert.ensures.updates.0 c.in_ok-insert.ensures.ordered

pub returns-clause-troves : goal.returns-clause-troves
returns-clause-troves c = λ name.
    c.loop-trove.invariant.put name
    ∙ ap (λ (l : List TroveParts). put_all l (slot c.args.slots.now name) name) (take_all c.loop-trove.trove-index c.args.list.now (omega arith))
    ∙ put_rising c.args.list.now c.requires.rising (slot c.args.slots.now name) name
