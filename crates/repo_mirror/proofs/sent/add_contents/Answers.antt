use Rattle.std.proofs.Common.{List, ◌++◌, [], ◌∷◌, take, refl, sym, ap, ◌∙◌, subst, arith, append_assoc}
use Rattle.change_set.specs.trove-parts.declared.files.FileAt.{FileAt}
use Rattle.repo_mirror.specs.Lengths.{contents_length}
use Rattle.repo_mirror.specs.Sums.{AreNamesOf}
use Rattle.repo_mirror.proofs.Lengthening.{contents-push, take_next, take_whole}
use Rattle.repo_mirror.proofs.sent.add_contents.Goals as goal

pub loop-file-preserved : goal.loop-file-preserved
loop-file-preserved c = λ before are.
    let i = c.loop-file.file-index in
    let files = c.args.files.now in
    let file = c.file-item.result in
    let so_far = c.loop-file.invariant before are in
    let front = take_next files i file (omega arith) c.file-item.is in
    let push = contents-push before (take i files) file in
    let added = c.in_ok-add_content.ensures.length (before ++ take i files) so_far.1 in
    let all = ap (contents_length before) front in (
      omega (arith, so_far.0, push, added, all, c.in_ok-size.ensures),
      subst (λ (l : List FileAt). AreNamesOf l c.add_content.new.names) (append_assoc before (take i files) (file ∷ []) ∙ ap (λ (l : List FileAt). before ++ l) (sym front))
          (c.in_ok-add_content.ensures.names (before ++ take i files) file so_far.1 refl),
    )

pub returns-clause-names : goal.returns-clause-names
returns-clause-names c = λ before are.
    subst (λ (l : List FileAt). AreNamesOf (before ++ l) c.loop-file.names) (take_whole c.args.files.now c.loop-file.file-index (omega arith)) (c.loop-file.invariant before are).1
