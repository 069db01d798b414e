use Rattle.std.proofs.Common.{◌≡◌, List, length, map, Ok}
use Rattle.repo_load.specs.State.{Commit}
use Rattle.repo_load.specs.Files.{HoldsFirst}
use Rattle.repo_load.specs.Looks.{no_damage, Looks}
use Rattle.repo_load.proofs.Resolved.{size_of}
use Rattle.repo_load.proofs.counting.counts.Given as goal

abbrev pub invariant-loop-before : goal.invariant-loop-before
invariant-loop-before g l =
    Looks {X = Unit {0}} g.D.TreeDisk.disk (λ tree x. (commits : List Commit) → HoldsFirst tree 1 commits → length commits ≡ l.before → l.counts.items ≡ map size_of commits) no_damage
    l.fn.disk l.disk (Ok tt)
    × (length l.counts.items ≡ l.before)
