use Rattle.std.proofs.Common.{◌∙◌}
use Rattle.repo_load.proofs.CommitsRead.{missing_ref, troves_are}
use Rattle.repo_load.proofs.LooksLaws.{looks_damage}
use Rattle.repo_load.proofs.loading.kept_commits.Goals as goal

pub returns-in-Some-clause-tests : goal.returns-in-Some-clause-tests
returns-in-Some-clause-tests g c =
    let told = g.D.TreeDisk.disk.tells in
    let tree = g.D.TreeDisk.disk.reads c.args.disk.now in
    let catalogue = c.in_ok-read.read.catalogue in
    let counts = c.in_ok-read.read.counts.items in
    let read = c.in_ok-read.ensures.read in
    looks_damage c.in_ok-read.ensures.looks (λ tells last.
    missing_ref c.args.whole told tree catalogue counts read _ c.in-Some.number tells last
    (rw c.in-Some.is at (c.first_unresolved.ensures c.args.whole read.commits (troves_are c.args.whole told tree catalogue counts read) (c.deref.ensures.value ∙ read.counts_are)))
    c.in_ok-commit_path.ensures)
