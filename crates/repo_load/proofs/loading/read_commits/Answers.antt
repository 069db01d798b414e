use Rattle.repo_load.proofs.CommitsRead.{none_read}
use Rattle.repo_load.proofs.LooksLaws.{looks_start}
use Rattle.repo_load.proofs.loading.read_commits.Goals as goal

pub commits-init : goal.commits-init
commits-init g c = (looks_start g.met.D.TreeDisk.laws c.args.disk.now (tt {0}) (λ tells. tt), none_read _ _ _ _ _ c.new.ensures c.new-2.ensures.items)
