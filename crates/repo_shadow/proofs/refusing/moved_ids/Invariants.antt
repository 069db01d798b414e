use Rattle.std.proofs.Common.{◌≡◌, take, drop}
use Rattle.repo_shadow.specs.Moved.{moved_ids, too_large}
use Rattle.repo_shadow.proofs.refusing.moved_ids.Given as goal

abbrev pub invariant-loop-trove : goal.invariant-loop-trove
invariant-loop-trove l = record {
  ids_are : l.ids.items ≡ moved_ids l.way l.label (take l.trove-index l.troves);
  rest : too_large (moved_ids l.way l.label (drop l.trove-index l.troves)) ≡ too_large (moved_ids l.way l.label l.troves);
}
