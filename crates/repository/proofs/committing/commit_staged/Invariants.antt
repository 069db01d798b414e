use Rattle.change_pull.specs.Incoming.{staged_set}
use Rattle.repository.proofs.committing.commit_staged.Given as goal

abbrev pub ghost-commit_contents : goal.ghost-commit_contents
ghost-commit_contents g a = staged_set a.parts.now a.contents.now (g.D.TreeDisk.disk.reads a.disk.now)
