use Rattle.std.proofs.Common.{◌≡◌, take, drop, map, All}
use Rattle.update_job.specs.trove-parts.Id.{IsTroveId}
use Rattle.update_job.specs.trove-stream.declared.parts.TroveParts.{TroveParts}
use Rattle.root_edits.specs.Moved.{local_id, local_label, too_long}
use Rattle.root_edits.proofs.moving.local_ids.Given as goal

abbrev pub invariant-loop-trove : goal.invariant-loop-trove
invariant-loop-trove l = record {
  label_is : l.label ≡ local_label;
  ids_are : l.ids.items ≡ map (λ (t : TroveParts). local_id t.id) (take l.trove-index l.troves);
  valid : All IsTroveId l.ids.items;
  rest : too_long (drop l.trove-index l.troves) ≡ too_long l.troves;
}
