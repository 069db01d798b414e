use Rattle.std.proofs.Common.{◌<◌, length, arith, sym, subst, ◌∙◌}
use Rattle.trove_stream.specs.Trove.{HasRightBuild}
use Rattle.repo_index.specs.Next.{next_troves}
use Rattle.repo_index.specs.Steps.{IsErrOrMemory}
use Rattle.repo_index.proofs.NextLists.{all_builds, first_of, next_is, next_refused, none_next, none_of}
use Rattle.repo_index.proofs.Passing.{handed_on}
use Rattle.repo_index.proofs.renewing.next_troves.Goals as goal

pub returns-in_default-clause-value : goal.returns-in_default-clause-value
returns-in_default-clause-value c =
    none_next c.args.catalogue.now.troves c.args.troves (sym c.get.ensures ∙ none_of c.get.result.now c.in_default.len_below)

pub next_version-requires : goal.next_version-requires
next_version-requires c = subst HasRightBuild (sym c.id.ensures.value) c.id.ensures.trove.rules.build

pub returns-in_err-version-clause-fault : goal.returns-in_err-version-clause-fault
returns-in_err-version-clause-fault c =
    let committed = c.args.catalogue.now.troves in
    let e = c.in_err-version.field-0.0 in
    let some : 0 < length c.get.result.now = omega arith in
    let first = first_of c.get.result.now c.first-item.result some c.first-item.is in
    handed_on (IsErrOrMemory (next_troves committed c.args.troves)) c.from_residual.result e c.from_residual.ensures.1
    (next_refused committed c.id.result.now c.first-item.result first.0 c.args.troves (sym c.get.ensures ∙ first.1) c.id.ensures.value e c.in_err-version.ensures.fault)

pub troves_with-requires : goal.troves_with-requires
troves_with-requires c =
    let committed = c.args.catalogue.now.troves in
    let some : 0 < length c.get.result.now = omega arith in
    let first = first_of c.get.result.now c.first-item.result some c.first-item.is in
    all_builds committed c.id.result.now c.first-item.result first.0 c.args.troves (sym c.get.ensures ∙ first.1) c.id.ensures.value c.requires c.in_ok-version.version c.in_ok-version.ensures.value

pub returns-clause-value : goal.returns-clause-value
returns-clause-value c =
    let committed = c.args.catalogue.now.troves in
    let some : 0 < length c.get.result.now = omega arith in
    let first = first_of c.get.result.now c.first-item.result some c.first-item.is in
    next_is committed c.id.result.now c.first-item.result first.0 c.args.troves (sym c.get.ensures ∙ first.1) c.id.ensures.value c.in_ok-version.version c.in_ok-troves_with.field-0 c.in_ok-version.ensures.none c.in_ok-version.ensures.value c.in_ok-troves_with.ensures
