use Rattle.std.proofs.Common.{◌≡◌, take, All}
use Rattle.std.specs.List.{filter_map}
use Rattle.update_job.specs.trove-parts.Id.{IsTroveId}
use Rattle.root_edits.specs.Moved.{local_ref}
use Rattle.root_edits.proofs.moving.pushed_refs.Given as goal

abbrev pub invariant-loop-id : goal.invariant-loop-id
invariant-loop-id l = record {
  refs_are : l.refs.items ≡ filter_map (local_ref l.keeps l.troves) (take l.id-index l.id-items);
  valid : All IsTroveId l.refs.items;
}
