use Rattle.std.proofs.Common.{ℕ, List, ◌++◌, Option, take, subst, arith}
use Rattle.std.specs.Prelude.{MatchOption}
use Rattle.repo_load.specs.trove-parts.declared.files.FileAt.{FileAt}
use Rattle.repo_load.specs.trove-stream.declared.parts.TroveParts.{TroveParts}
use Rattle.repo_load.specs.trove-stream.FilesOf.{files_of}
use Rattle.repo_mirror.proofs.Lengthening.{take_whole}
use Rattle.repo_serve.specs.Wanted.{AreSizesOf, HasTwoSizes}
use Rattle.repo_serve.proofs.Wanting.{trove_more, two_of_trove}
use Rattle.repo_serve.proofs.wanted.add_all.Goals as goal

pub returns-in-Some : goal.returns-in-Some
returns-in-Some c = λ none.
    let i = c.loop-trove.trove-index in
    let t = c.trove-item.result in
    let so_far = files_of (take i c.args.troves.now) in
    let told = subst (λ (l : List FileAt). MatchOption c.in_ok-name.field-0 (AreSizesOf (so_far ++ l) c.add_contents.new.sizes) (HasTwoSizes (so_far ++ l))) c.files.ensures.value (c.in_ok-name.ensures so_far (c.loop-trove.invariant none)) in
    two_of_trove c.args.troves.now i t (omega arith) c.trove-item.is c.in-Some.name
    (subst (λ (o : Option (List ℕ)). MatchOption o (AreSizesOf (so_far ++ t.files) c.add_contents.new.sizes) (HasTwoSizes (so_far ++ t.files))) c.in-Some.is told)

pub loop-trove-preserved : goal.loop-trove-preserved
loop-trove-preserved c = λ none.
    let i = c.loop-trove.trove-index in
    let t = c.trove-item.result in
    let so_far = files_of (take i c.args.troves.now) in
    let told = subst (λ (l : List FileAt). MatchOption c.in_ok-name.field-0 (AreSizesOf (so_far ++ l) c.add_contents.new.sizes) (HasTwoSizes (so_far ++ l))) c.files.ensures.value (c.in_ok-name.ensures so_far (c.loop-trove.invariant none)) in
    trove_more c.args.troves.now i t (omega arith) c.trove-item.is c.add_contents.new.sizes
    (subst (λ (o : Option (List ℕ)). MatchOption o (AreSizesOf (so_far ++ t.files) c.add_contents.new.sizes) (HasTwoSizes (so_far ++ t.files))) c.in_default.is told)

pub returns : goal.returns
returns c = λ none.
    subst (λ (l : List TroveParts). AreSizesOf (files_of l) c.loop-trove.sizes) (take_whole c.args.troves.now c.loop-trove.trove-index (omega arith)) (c.loop-trove.invariant none)
