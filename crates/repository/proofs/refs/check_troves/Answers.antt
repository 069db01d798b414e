use Rattle.std.proofs.Common.{◌+◌, ◌++◌, drop, ap, sym, ◌∙◌, arith}
use Rattle.repository.specs.Tests.{missing_ref, refs_of}
use Rattle.repository.proofs.Lists.{then_first, then_second, verdict_stop}
use Rattle.repository.proofs.References.{refs_end, refs_on}
use Rattle.repository.proofs.refs.check_troves.Goals as goal

pub returns-in_err-check_ids : goal.returns-in_err-check_ids
returns-in_err-check_ids c =
    let all = c.args.committed.now.troves ++ c.args.added.now.troves in
    let t = c.trove-item.result in
    verdict_stop (missing_ref all c.refs.result.now) (missing_ref all (refs_of c.args.troves.now)) _ c.from_residual.result c.in_err-check_ids.ensures c.from_residual.ensures.1
    (λ refusal is. sym c.loop-trove.invariant ∙ refs_on all c.args.troves.now c.loop-trove.trove-index t (omega arith) c.trove-item.is
    ∙ then_first (missing_ref all t.refs) (missing_ref all (refs_of (drop (c.loop-trove.trove-index + 1) c.args.troves.now))) refusal (ap (missing_ref all) (sym c.refs.ensures.value) ∙ is))

pub loop-trove-preserved : goal.loop-trove-preserved
loop-trove-preserved c =
    let all = c.args.committed.now.troves ++ c.args.added.now.troves in
    let t = c.trove-item.result in
    sym (refs_on all c.args.troves.now c.loop-trove.trove-index t (omega arith) c.trove-item.is
    ∙ then_second (missing_ref all t.refs) (missing_ref all (refs_of (drop (c.loop-trove.trove-index + 1) c.args.troves.now))) (ap (missing_ref all) (sym c.refs.ensures.value) ∙ c.in_ok-check_ids.ensures))
    ∙ c.loop-trove.invariant

pub returns : goal.returns
returns c =
    let all = c.args.committed.now.troves ++ c.args.added.now.troves in
    sym c.loop-trove.invariant ∙ refs_end all c.args.troves.now c.loop-trove.trove-index (omega arith)
