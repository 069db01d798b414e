use Rattle.std.proofs.Common.{◌≡◌, List, Contains, length, get_or, refl, sym, ap, ◌∙◌, subst, arith}
use Rattle.std.proofs.lemmas.Bool.{false≢true}
use Rattle.std.proofs.lemmas.List.Elements.{All-more}
use Rattle.local_db.specs.trove-parts.declared.files.FileAt.{FileAt}
use Rattle.past_jobs.specs.Table.{troves_of}
use Rattle.past_jobs.proofs.Joining.{Stands, joins, stands_where}
use Rattle.past_jobs.proofs.table.may_join.Goals as goal

pub returns-then-not-may_stand : goal.returns-then-not-may_stand
returns-then-not-may_stand c = (
  λ h. absurd (false≢true h),
  λ shares.
      let file_in : Contains c.args.trove.now.files c.file-item.result = subst (λ (l : List FileAt). Contains l c.file-item.result) c.files-file-items.ensures.value (c.loop-file.file-index, c.loop-file-test.true, sym c.file-item.is) in
      sym c.if-not-may_stand.true ∙ c.may_stand.ensures ∙ stands_where (troves_of c.args.table.now.troves) c.args.trove.now c.file-item.result shares file_in,
)

pub loop-file-preserved : goal.loop-file-preserved
loop-file-preserved c =
    let own : Stands (troves_of c.args.table.now.troves) c.file-item.result = sym c.may_stand.ensures ∙ c.if-not-may_stand.false in
    let is : c.file-item.result ≡ get_or c.args.trove.now.files c.loop-file.file-index c.file-item.result = c.file-item.is ∙ ap (λ (l : List FileAt). get_or l c.loop-file.file-index c.file-item.result) c.files-file-items.ensures.value in
    All-more (Stands (troves_of c.args.table.now.troves)) c.args.trove.now.files c.loop-file.file-index c.file-item.result
    (omega (arith, c.loop-file-test.true, ap length c.files-file-items.ensures.value)) c.loop-file.invariant
    (subst (Stands (troves_of c.args.table.now.troves)) is own)

pub returns : goal.returns
returns c = (
  λ _. joins (troves_of c.args.table.now.troves) c.requires.installed c.args.trove.now c.loop-file.file-index (omega (arith, c.loop-file-test.false, ap length c.files-file-items.ensures.value)) c.loop-file.invariant,
  λ _. refl,
)
