use Rattle.std.proofs.Common.{◌≡◌, All, map, take}
use Rattle.repo_index.specs.trove-parts.Id.{IsTroveId}
use Rattle.repo_shadow.specs.Moved.{moved_id}
use Rattle.repo_shadow.proofs.moving.moved_refs.Given as goal

abbrev pub invariant-loop-id : goal.invariant-loop-id
invariant-loop-id l = record {
  ids_are : l.made.items ≡ map (moved_id l.way l.label) (take l.id-index l.refs);
  valid : All IsTroveId l.made.items;
}
