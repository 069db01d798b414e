use Rattle.std.proofs.Common.{◌≡◌, ◌++◌, take}
use Rattle.repo_mirror.specs.Requests.{ids_bytes}
use Rattle.repo_serve.proofs.PlacedIds.{ids_at}
use Rattle.repo_serve.proofs.ids.put_ids.Given as goal

abbrev pub invariant-loop-place : goal.invariant-loop-place
invariant-loop-place l = l.out ≡ l.fn.out ++ ids_bytes (ids_at l.catalogue.troves (take l.place-index l.places))
