use Rattle.std.proofs.Common.{◌≡◌, ◌≤◌, length, take}
use Rattle.repo_mirror.specs.Requests.{ids_bytes}
use Rattle.repo_serve.proofs.PlacedIds.{ids_at}
use Rattle.repo_serve.proofs.ids.extent_of.Given as goal

abbrev pub invariant-loop-place : goal.invariant-loop-place
invariant-loop-place l =
    (l.extent.number ≡ length (ids_at l.catalogue.troves (take l.place-index l.places))) × (l.extent.len ≡ length (ids_bytes (ids_at l.catalogue.troves (take l.place-index l.places)))) × (l.extent.number ≤ l.extent.len)
