use Rattle.std.proofs.Common.{ℕ, List, [], ◌∷◌, ◌++◌, Option, take, refl, subst, arith}
use Rattle.std.specs.Prelude.{MatchOption}
use Rattle.repo_load.specs.trove-parts.declared.files.FileAt.{FileAt}
use Rattle.repo_mirror.proofs.Lengthening.{take_whole}
use Rattle.repo_serve.specs.Wanted.{AreSizesOf, HasTwoSizes}
use Rattle.repo_serve.proofs.Wanting.{file_more, two_of_file}
use Rattle.repo_serve.proofs.wanted.add_contents.Goals as goal

pub returns-in-Some : goal.returns-in-Some
returns-in-Some c = λ before are.
    let i = c.loop-file.file-index in
    let files = c.args.files.now in
    let file = c.file-item.result in
    let so_far = before ++ take i files in
    two_of_file before files i file (omega arith) c.file-item.is c.in-Some.name
    (subst (λ (o : Option (List ℕ)). MatchOption o (AreSizesOf (so_far ++ file ∷ []) c.add_content.new.sizes) (HasTwoSizes (so_far ++ file ∷ []))) c.in-Some.is (c.in_ok-name.ensures so_far file (c.loop-file.invariant before are) refl))

pub loop-file-preserved : goal.loop-file-preserved
loop-file-preserved c = λ before are.
    let i = c.loop-file.file-index in
    let files = c.args.files.now in
    let file = c.file-item.result in
    let so_far = before ++ take i files in
    file_more before files i file (omega arith) c.file-item.is c.add_content.new.sizes
    (subst (λ (o : Option (List ℕ)). MatchOption o (AreSizesOf (so_far ++ file ∷ []) c.add_content.new.sizes) (HasTwoSizes (so_far ++ file ∷ []))) c.in_default.is (c.in_ok-name.ensures so_far file (c.loop-file.invariant before are) refl))

pub returns : goal.returns
returns c = λ before are.
    subst (λ (l : List FileAt). AreSizesOf (before ++ l) c.loop-file.sizes) (take_whole c.args.files.now c.loop-file.file-index (omega arith)) (c.loop-file.invariant before are)
