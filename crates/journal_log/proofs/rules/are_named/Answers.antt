use Rattle.std.proofs.Common.{refl, subst, All}
use Rattle.std.proofs.lemmas.List.{take_all}
use Rattle.std.proofs.lemmas.List.Elements.{All-more}
use Rattle.journal_log.proofs.NamedPuts.{IsNamed}
use Rattle.journal_log.proofs.Walking.{whole}
use Rattle.journal_log.proofs.rules.are_named.Goals as goal

pub loop-put-preserved : goal.loop-put-preserved
loop-put-preserved c =
    let P = IsNamed c.args.base.now in
    let here : P c.put-item.result = record { named = c.can_be_named.ensures.named.0 c.if-not-can_be_named.false; path_is = c.can_be_named.ensures.path } in
    All-more P c.args.puts.now c.loop-put.put-index c.put-item.result c.loop-put-test.true c.loop-put.invariant (subst P c.put-item.is here)

pub returns-clause-named : goal.returns-clause-named
returns-clause-named c =
    let all = subst (All (IsNamed c.args.base.now)) (take_all c.loop-put.put-index c.args.puts.now c.loop-put-test.false) c.loop-put.invariant in
    ((λ h k d lt. (all k d lt).named), λ named. refl)

pub returns-clause-inner : goal.returns-clause-inner
returns-clause-inner c = λ p in_puts.
    let here = whole (IsNamed c.args.base.now) c.args.puts.now c.loop-put.put-index c.loop-put-test.false c.loop-put.invariant p in_puts in
    record { path_is = here.path_is; not_root = here.named.not_root }
