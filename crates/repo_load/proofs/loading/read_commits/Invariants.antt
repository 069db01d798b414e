use Rattle.std.proofs.Common.{◌-◌, Ok}
use Rattle.repo_index.specs.cny-base.declared.limits.TheConstants.{COMMITS_LIMIT}
use Rattle.repo_load.specs.Damage.{IsBadCommit}
use Rattle.repo_load.specs.Loading.{AreRead}
use Rattle.repo_load.specs.Looks.{Looks}
use Rattle.repo_load.proofs.loading.read_commits.Given as goal

abbrev pub invariant-commits : goal.invariant-commits
invariant-commits g l =
    Looks {X = Unit {0}} g.D.TreeDisk.disk (λ tree x. Unit {0}) IsBadCommit l.fn.disk l.disk (Ok tt)
    × AreRead l.fn.whole g.D.TreeDisk.disk.tells (g.D.TreeDisk.disk.reads l.fn.disk) l.read.catalogue l.read.counts.items

abbrev pub decreases-commits : goal.decreases-commits
decreases-commits g l = COMMITS_LIMIT - l.read.catalogue.commits
