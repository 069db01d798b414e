use Rattle.std.proofs.Common.{false}
use Rattle.repo_load.proofs.Kept.{holds_some}
use Rattle.repo_load.proofs.LooksLaws.{looks_answer}
use Rattle.repo_load.proofs.loading.tested.Goals as goal

pub returns : goal.returns
returns g c = looks_answer c.in_ok-kept_commits.ensures.tests (λ tells. holds_some false (g.D.TreeDisk.disk.reads c.args.disk.now) c.in_ok-kept_commits.field-0)
