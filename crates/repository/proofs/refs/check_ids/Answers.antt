use Rattle.std.proofs.Common.{◌++◌, Some, sym, ap, ◌∙◌, arith}
use Rattle.repo_load.specs.cny-base.declared.refusal.Fault.TheVariants.{Memory}
use Rattle.repo_load.specs.cny-base.declared.refusal.Refusal.{Refusal}
use Rattle.repository.specs.Tests.{missing_ref}
use Rattle.repository.proofs.Lists.{verdict_stop}
use Rattle.repository.proofs.References.{ids_end, ids_on, ids_stop}
use Rattle.repository.proofs.refs.check_ids.Goals as goal

pub returns-then-not-is_there : goal.returns-then-not-is_there
returns-then-not-is_there c =
    let all = c.args.committed.now.troves ++ c.args.added.now.troves in
    let id = c.id-item.result in
    sym c.loop-id.invariant ∙ ids_stop all c.args.ids.now c.loop-id.id-index id (omega arith) c.id-item.is (sym c.is_there.ensures ∙ c.if-not-is_there.true) ∙ ap (λ (refused : Refusal). Some refused) (sym c.in_ok-refusal.ensures)

pub returns-in_err-refusal : goal.returns-in_err-refusal
returns-in_err-refusal c =
    let test = missing_ref (c.args.committed.now.troves ++ c.args.added.now.troves) c.args.ids.now in
    verdict_stop test test Memory c.from_residual.result tt c.from_residual.ensures.1 (λ refusal is. is)

pub loop-id-preserved : goal.loop-id-preserved
loop-id-preserved c =
    let all = c.args.committed.now.troves ++ c.args.added.now.troves in
    ids_on all c.args.ids.now c.loop-id.id-index c.id-item.result (omega arith) c.id-item.is (sym c.is_there.ensures ∙ c.if-not-is_there.false) ∙ c.loop-id.invariant

pub returns : goal.returns
returns c =
    let all = c.args.committed.now.troves ++ c.args.added.now.troves in
    sym c.loop-id.invariant ∙ ids_end all c.args.ids.now c.loop-id.id-index (omega arith)
