use Rattle.repo_load.proofs.Kept.{holds_whole, kept_whole}
use Rattle.repo_load.proofs.LooksLaws.{looks_answer}
use Rattle.repo_load.proofs.loading.load.Goals as goal

pub returns-clause-loads : goal.returns-clause-loads
returns-clause-loads g c = looks_answer c.in_ok-catalogue.ensures.tests (λ tells. holds_whole (g.D.TreeDisk.disk.reads c.args.disk.now) c.in_ok-catalogue.catalogue)

pub returns-clause-rules : goal.returns-clause-rules
returns-clause-rules g c = kept_whole c.in_ok-catalogue.catalogue c.in_ok-catalogue.ensures.rules
