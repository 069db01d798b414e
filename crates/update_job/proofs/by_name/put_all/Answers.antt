use Rattle.std.proofs.Common.{ℕ, List, subst, arith}
use Rattle.std.proofs.lemmas.List.{take_all}
use Rattle.update_job.specs.ByName.{HasPutAll}
use Rattle.update_job.proofs.Mapped.{put_none, put_next}
use Rattle.update_job.proofs.by_name.put_all.Goals as goal

pub loop-place-init : goal.loop-place-init
loop-place-init c = record { ordered = c.requires.ordered; all = put_none c.args.installed.now c.args.troves.now }

pub loop-place-preserved : goal.loop-place-preserved
loop-place-preserved c =
    put_next c.args.installed.now c.troves-all.ensures.rising c.args.places.now c.loop-place.place-index c.args.troves.now c.loop-place.troves c.put_at.new.troves (omega arith) c.requires.places c.loop-place.invariant
    c.in_ok-put_at.ensures.put c.in_ok-put_at.ensures.ordered

pub returns-clause-put : goal.returns-clause-put
returns-clause-put c =
    subst (λ (l : List ℕ). HasPutAll c.args.installed.now l c.args.troves.now c.loop-place.troves) (take_all c.loop-place.place-index c.args.places.now (omega arith)) c.loop-place.invariant.all
