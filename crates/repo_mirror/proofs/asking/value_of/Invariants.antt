use Rattle.std.proofs.Common.{◌≡◌, take}
use Rattle.repo_mirror.specs.Requests.{ids_bytes}
use Rattle.repo_mirror.proofs.asking.value_of.Given as goal

abbrev pub invariant-loop-id : goal.invariant-loop-id
invariant-loop-id l = l.bytes ≡ ids_bytes (take l.id-index l.ids)
