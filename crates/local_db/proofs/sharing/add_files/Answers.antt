use Rattle.std.proofs.Common.{◌++◌, take, sym, ◌∙◌}
use Rattle.std.proofs.lemmas.Bool.{false≢true}
use Rattle.local_db.proofs.Apart.{apart_whole, next_added}
use Rattle.local_db.proofs.sharing.add_files.Goals as goal

pub returns-then-not-branch-clause-apart : goal.returns-then-not-branch-clause-apart
returns-then-not-branch-clause-apart c before noted =
    let so_far = c.loop-file.invariant before noted in
    let k = c.loop-file.file-index in
    let files = c.args.files.now in (
      λ is. absurd (false≢true is),
      λ apart. absurd (false≢true (sym c.if-not-branch.true ∙ (c.in_ok-add_file.ensures.apart (before ++ take k files) so_far.0).1 (apart_whole files k c.file-item.result c.loop-file-test.true c.file-item.is before c.requires apart))),
    )

pub loop-file-preserved : goal.loop-file-preserved
loop-file-preserved c before noted =
    let so_far = c.loop-file.invariant before noted in
    let k = c.loop-file.file-index in
    let files = c.args.files.now in
    let front = before ++ take k files in
    next_added files k c.file-item.result c.loop-file-test.true c.file-item.is before c.add_file.new.kinds so_far.1
    ((c.in_ok-add_file.ensures.apart front so_far.0).0 c.if-not-branch.false)
    (c.in_ok-add_file.ensures.noted front so_far.0 c.if-not-branch.false)
