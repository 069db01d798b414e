use Rattle.std.proofs.Common.{List, take, sym, subst, ◌++◌, ◌∙◌}
use Rattle.std.proofs.lemmas.Bool.{false≢true}
use Rattle.trove_stream.specs.trove-parts.declared.files.FileAt.{FileAt}
use Rattle.local_db.specs.Sharing.{AreApart, AreNoted}
use Rattle.local_db.proofs.Apart.{apart_all, next_trove}
use Rattle.trove_stream.specs.FilesOf.{files_of}
use Rattle.local_db.proofs.sharing.share_dirs_alone.Goals as goal

pub returns-then-not-branch : goal.returns-then-not-branch
returns-then-not-branch c =
    let k = c.loop-trove.trove-index in
    let troves = c.args.troves.now in
    let before = files_of (take k troves) in (
      λ is. absurd (false≢true is),
      λ pairs. absurd (false≢true (sym c.if-not-branch.true ∙ (c.in_ok-add_files.ensures.apart before c.loop-trove.invariant.noted).1
          (subst (AreApart before) (sym c.files.ensures.value) (apart_all troves k c.trove-item.result c.loop-trove-test.true c.trove-item.is pairs)))),
    )

pub loop-trove-preserved : goal.loop-trove-preserved
loop-trove-preserved c =
    let k = c.loop-trove.trove-index in
    let troves = c.args.troves.now in
    let before = files_of (take k troves) in
    next_trove troves k c.trove-item.result c.loop-trove-test.true c.trove-item.is c.loop-trove.kinds c.add_files.new.kinds c.loop-trove.invariant
    (subst (AreApart before) c.files.ensures.value ((c.in_ok-add_files.ensures.apart before c.loop-trove.invariant.noted).0 c.if-not-branch.false))
    (subst (λ (l : List FileAt). AreNoted (before ++ l) c.add_files.new.kinds) c.files.ensures.value (c.in_ok-add_files.ensures.noted before c.loop-trove.invariant.noted c.if-not-branch.false))
