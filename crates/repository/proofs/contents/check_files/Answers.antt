use Rattle.std.proofs.Common.{◌+◌, drop, refl, sym, ◌∙◌, arith}
use Rattle.repository.specs.Tests.{lacks_content, missing_content}
use Rattle.repository.proofs.Lists.{then_first, then_second, verdict_stop}
use Rattle.repository.proofs.Sources.{source_end, source_on}
use Rattle.repository.proofs.contents.check_files.Goals as goal

pub loop-file-init : goal.loop-file-init
loop-file-init g c listed tree rises stand = refl

pub returns-in_err-check_file : goal.returns-in_err-check_file
returns-in_err-check_file g c listed tree rises stand =
    let old = c.args.committed.now.troves in
    let file = c.file-item.result in
    verdict_stop (lacks_content old listed file.rec) (missing_content old listed c.args.files.now) _ c.from_residual.result (c.in_err-check_file.ensures listed tree rises stand) c.from_residual.ensures.1
    (λ refusal is. sym (c.loop-file.invariant listed tree rises stand) ∙ source_on old listed c.args.files.now c.loop-file.file-index file (omega arith) c.file-item.is
    ∙ then_first (lacks_content old listed file.rec) (missing_content old listed (drop (c.loop-file.file-index + 1) c.args.files.now)) refusal is)

pub loop-file-preserved : goal.loop-file-preserved
loop-file-preserved g c listed tree rises stand =
    let old = c.args.committed.now.troves in
    let file = c.file-item.result in
    sym (source_on old listed c.args.files.now c.loop-file.file-index file (omega arith) c.file-item.is
    ∙ then_second (lacks_content old listed file.rec) (missing_content old listed (drop (c.loop-file.file-index + 1) c.args.files.now)) (c.in_ok-check_file.ensures listed tree rises stand))
    ∙ c.loop-file.invariant listed tree rises stand

pub returns : goal.returns
returns g c listed tree rises stand = sym (c.loop-file.invariant listed tree rises stand) ∙ source_end c.args.committed.now.troves listed c.args.files.now c.loop-file.file-index (omega arith)
