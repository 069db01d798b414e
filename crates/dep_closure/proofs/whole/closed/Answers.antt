use Rattle.std.proofs.Common.{List, All, subst, ap, ◌∙◌, arith}
use Rattle.std.proofs.lemmas.List.{take_all}
use Rattle.std.proofs.lemmas.List.Elements.{All-more}
use Rattle.trove_stream.specs.cny-base.declared.refusal.Refusal.TheVariants.{Unmet}
use Rattle.cny_dep.specs.Dep.{Dependency, dep_text}
use Rattle.trove_stream.specs.trove-parts.declared.id.TroveId.{TroveId}
use Rattle.dep_closure.specs.Closed.{IsMet, HasAllMet, IsFirstOf}
use Rattle.dep_closure.proofs.Meeting.{stands_at}
use Rattle.dep_closure.proofs.whole.closed.Goals as goal

pub returns-in-Some-clause-fault : goal.returns-in-Some-clause-fault
returns-in-Some-clause-fault c = (
  c.trove-item.result,
  c.in-Some.require.now,
  record {
    place = c.loop-trove.trove-index;
    there = stands_at c.args.list.now c.loop-trove.trove-index c.trove-item.result (omega arith) c.trove-item.is;
    met = c.loop-trove.invariant;
    first = subst (λ (required : List Dependency). IsFirstOf c.args.list.now required c.in-Some.require.now) c.requires_.ensures.value c.in-Some.ensures.some;
  },
  c.in_ok-refusal.ensures ∙ ap (λ (id : TroveId). Unmet id.name (dep_text c.in-Some.require.now)) c.id.ensures.value,
)

pub loop-trove-preserved : goal.loop-trove-preserved
loop-trove-preserved c =
    All-more (HasAllMet c.args.list.now) c.args.list.now c.loop-trove.trove-index c.trove-item.result (omega arith) c.loop-trove.invariant
    (subst (HasAllMet c.args.list.now) c.trove-item.is (subst (All (IsMet c.args.list.now)) c.requires_.ensures.value c.in_default.ensures.none))

pub returns-clause-ok : goal.returns-clause-ok
returns-clause-ok c = subst (All (HasAllMet c.args.list.now)) (take_all c.loop-trove.trove-index c.args.list.now (omega arith)) c.loop-trove.invariant
