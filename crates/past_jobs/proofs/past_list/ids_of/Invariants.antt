use Rattle.std.proofs.Common.{◌≡◌, map, take}
use Rattle.local_db.specs.trove-stream.declared.parts.TroveParts.{TroveParts}
use Rattle.past_jobs.proofs.past_list.ids_of.Given as goal

abbrev pub invariant-loop-trove : goal.invariant-loop-trove
invariant-loop-trove l = l.ids.items ≡ map (λ (t : TroveParts). t.id) (take l.trove-index l.troves)
