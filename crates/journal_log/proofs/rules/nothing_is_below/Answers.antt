use Rattle.std.proofs.Common.{refl, subst}
use Rattle.std.proofs.lemmas.List.Elements.{All-more}
use Rattle.journal_log.specs.Rules.{MayStand}
use Rattle.journal_log.proofs.Walking.{whole}
use Rattle.journal_log.proofs.rules.nothing_is_below.Goals as goal

pub loop-put-preserved : goal.loop-put-preserved
loop-put-preserved c =
    let P = MayStand c.args.puts.now in
    let here : P c.put-item.result = c.may_stand.ensures.0 c.if-not-may_stand.false in
    All-more P c.args.puts.now c.loop-put.put-index c.put-item.result c.loop-put-test.true c.loop-put.invariant (subst P c.put-item.is here)

pub returns : goal.returns
returns c =
    ((λ h p q p_in q_in below file. whole (MayStand c.args.puts.now) c.args.puts.now c.loop-put.put-index c.loop-put-test.false c.loop-put.invariant q q_in p p_in below file), λ none. refl)
