use Rattle.std.proofs.Common.{◌+◌, drop, ap, refl, sym, ◌∙◌, arith}
use Rattle.repository.specs.Tests.{missing_content}
use Rattle.repository.proofs.Lists.{then_first, then_second, verdict_stop}
use Rattle.repository.proofs.Sources.{sources_end, sources_on}
use Rattle.change_rel.specs.trove-stream.FilesOf.{files_of}
use Rattle.repository.proofs.contents.check_contents.Goals as goal

pub loop-trove-init : goal.loop-trove-init
loop-trove-init g c listed tree rises stand = refl

pub returns-in_err-check_files : goal.returns-in_err-check_files
returns-in_err-check_files g c listed tree rises stand =
    let old = c.args.committed.now.troves in
    let t = c.trove-item.result in
    verdict_stop (missing_content old listed c.files.result.now) (missing_content old listed (files_of c.args.troves.now)) _ c.from_residual.result (c.in_err-check_files.ensures listed tree rises stand) c.from_residual.ensures.1
    (λ refusal is. sym (c.loop-trove.invariant listed tree rises stand) ∙ sources_on old listed c.args.troves.now c.loop-trove.trove-index t (omega arith) c.trove-item.is
    ∙ then_first (missing_content old listed t.files) (missing_content old listed (files_of (drop (c.loop-trove.trove-index + 1) c.args.troves.now))) refusal (ap (missing_content old listed) (sym c.files.ensures.value) ∙ is))

pub loop-trove-preserved : goal.loop-trove-preserved
loop-trove-preserved g c listed tree rises stand =
    let old = c.args.committed.now.troves in
    let t = c.trove-item.result in
    sym (sources_on old listed c.args.troves.now c.loop-trove.trove-index t (omega arith) c.trove-item.is
    ∙ then_second (missing_content old listed t.files) (missing_content old listed (files_of (drop (c.loop-trove.trove-index + 1) c.args.troves.now))) (ap (missing_content old listed) (sym c.files.ensures.value) ∙ c.in_ok-check_files.ensures listed tree rises stand))
    ∙ c.loop-trove.invariant listed tree rises stand

pub returns : goal.returns
returns g c listed tree rises stand = sym (c.loop-trove.invariant listed tree rises stand) ∙ sources_end c.args.committed.now.troves listed c.args.troves.now c.loop-trove.trove-index (omega arith)
