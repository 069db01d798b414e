use Rattle.std.proofs.Common.{◌≡◌, All, map, take}
use Rattle.trove_stream.specs.trove-parts.Id.{IsTroveId}
use Rattle.repo_index.specs.Next.{id_with}
use Rattle.repo_index.proofs.with_version.ids_with.Given as goal

abbrev pub invariant-loop-id : goal.invariant-loop-id
invariant-loop-id l = record {
  ids_are : l.made.items ≡ map (id_with l.version) (take l.id-index l.ids);
  valid : All IsTroveId l.made.items;
}
