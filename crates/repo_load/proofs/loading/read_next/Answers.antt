use Rattle.std.proofs.Common.{◌+◌, arith}
use Rattle.repo_load.proofs.Holding.{one_held}
use Rattle.repo_load.proofs.CommitsRead.{bad_file, bad_held, few_read, one_read}
use Rattle.repo_load.proofs.LooksLaws.{looks_damage, looks_stop}
use Rattle.repo_load.proofs.loading.read_next.Goals as goal

pub returns-in_err-troves-clause-looks : goal.returns-in_err-troves-clause-looks
returns-in_err-troves-clause-looks g c =
    looks_stop c.in_err-troves.ensures.looks c.from_residual.ensures.1
    (λ tells path lacks. bad_file c.args.whole g.D.TreeDisk.disk.tells (g.D.TreeDisk.disk.reads c.args.disk.now) c.args.read.now.catalogue c.args.read.now.counts.items c.requires path
    (c.from-number.result + 1) (omega (arith, c.from-number.ensures, c.commits-before.ensures)) tells lacks)

pub returns-then-not-branch-clause-looks : goal.returns-then-not-branch-clause-looks
returns-then-not-branch-clause-looks g c =
    let tree = g.D.TreeDisk.disk.reads c.args.disk.now in
    let answer = rw c.if-not-branch.true at c.in_ok-join.ensures.answer in
    looks_damage c.in_ok-troves.ensures.looks (λ tells read.
    let held = rw c.in-Some.is at read in
    bad_held c.args.whole g.D.TreeDisk.disk.tells tree c.args.read.now.catalogue c.args.read.now.counts.items c.requires _ (c.from-number.result + 1) c.in-Some.troves (omega (arith, c.from-number.ensures, c.commits-before.ensures)) tells
    c.in_ok-commit_path-2.ensures held (λ others its. one_held c.one_commit.ensures tree (c.from-number.result + 1) others c.in-Some.troves its held)
    (λ few commit. answer commit))

pub returns-clause-read : goal.returns-clause-read
returns-clause-read g c =
    let few = few_read c.args.whole g.D.TreeDisk.disk.tells (g.D.TreeDisk.disk.reads c.args.disk.now) c.args.read.now.catalogue c.args.read.now.counts.items c.requires in
    one_read c.args.whole g.D.TreeDisk.disk.tells (g.D.TreeDisk.disk.reads c.args.disk.now) c.args.read.now.catalogue c.args.read.now.counts.items c.requires c.in-Some.troves
    (c.from-number.result + 1) c.join.new.read.catalogue c.join.new.read.counts.items (omega (arith, c.from-number.ensures, c.commits-before.ensures)) (omega (arith, few, c.if-before.false, c.commits-before.ensures))
    (λ tells. rw c.in-Some.is at (c.in_ok-troves.ensures.looks.ends tells)) (rw c.if-not-branch.false at c.in_ok-join.ensures.answer)
    (c.in_ok-join.ensures.catalogue c.if-not-branch.false) (c.in_ok-join.ensures.counts c.if-not-branch.false)
