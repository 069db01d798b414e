use Rattle.std.proofs.Common.{ℕ, List, length, sym, ap, subst, arith}
use Rattle.update_job.proofs.Leaving.{OthersSoFar, others_none, others_more, others_all}
use Rattle.update_job.proofs.reaching.other_places.Goals as goal

pub loop-place-init : goal.loop-place-init
loop-place-init c = subst (λ (l : List ℕ). OthersSoFar c.args.places.now l 0) (sym c.new-others.ensures.items) (others_none c.args.places.now)

pub loop-place-preserved : goal.loop-place-preserved
loop-place-preserved c = others_more c.args.places.now c.loop-place.others.items c.push_other.new.others.items c.loop-place.place c.loop-place.invariant c.in_ok-push_other.ensures

pub returns : goal.returns
returns c = others_all c.args.installed.now c.args.places.now c.loop-place.others.items c.loop-place.place (omega (arith, ap length c.troves-place-end.ensures.value)) c.loop-place.invariant
