use Rattle.std.proofs.Common.{◌≡◌, ◌≤◌, Bool, List, length, map}
use Rattle.repo_load.specs.State.{Commit, troves_of}
use Rattle.repo_load.specs.Loading.{kept}
use Rattle.repo_load.proofs.Resolved.{size_of, AreResolvedTo}
use Rattle.repo_load.proofs.resolving.first_unresolved.Given as goal

abbrev pub invariant-commits : goal.invariant-commits
invariant-commits l = (length l.left ≤ length l.counts)
    × ((whole : Bool) (commits : List Commit) → l.catalogue.troves ≡ map (kept whole) (troves_of commits) → l.counts ≡ map size_of commits → AreResolvedTo whole commits l.left l.rest)

abbrev pub decreases-commits : goal.decreases-commits
decreases-commits l = length l.left
