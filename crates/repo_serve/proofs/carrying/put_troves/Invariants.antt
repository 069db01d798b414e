use Rattle.std.proofs.Common.{◌≡◌, ◌++◌, take}
use Rattle.std.specs.Prelude.{flat_map}
use Rattle.repo_load.specs.trove-stream.declared.parts.TroveParts.{TroveParts}
use Rattle.repository.specs.change-set.ChangeSet.{part_bytes}
use Rattle.repository.specs.change-set.declared.change.Part.TheVariants.{Whole}
use Rattle.repo_serve.proofs.carrying.put_troves.Given as goal

abbrev pub invariant-loop-trove : goal.invariant-loop-trove
invariant-loop-trove l = l.out ≡ l.fn.out ++ flat_map (λ (trove : TroveParts). part_bytes (Whole trove)) (take l.trove-index l.troves)
