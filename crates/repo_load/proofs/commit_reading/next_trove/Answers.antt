use Rattle.std.proofs.Common.{[], Err, ap, refl, sym, ◌∙◌, arith}
use Rattle.std.proofs.lemmas.List.{append-nil}
use Rattle.std.proofs.lemmas.Result.{err_from_is_err_and}
use Rattle.repo_index.specs.cny-base.declared.text.TextFault.TheVariants.{Bad}
use Rattle.repo_index.specs.trove-stream.Stream.{trove_bytes}
use Rattle.repo_load.specs.Files.{end_bytes}
use Rattle.repo_load.proofs.TrovesRead.{no_trove_here}
use Rattle.repo_index.proofs.cny-dep.Faults.{handed_on}
use Rattle.repo_load.proofs.commit_reading.next_trove.Goals as goal

pub returns-in_default-clause-no_trove : goal.returns-in_default-clause-no_trove
returns-in_default-clause-no_trove c bad trove rest is fits same = c.in_default.ensures.only 0x40 (trove_bytes trove) rest refl fits same

pub returns-in_default-clause-no_end : goal.returns-in_default-clause-no_end
returns-in_default-clause-no_end c bad e = c.in_default.ensures.only 0x4F [] [] refl (omega arith) (e ∙ sym (append-nil end_bytes))

pub returns-in_err-trove-clause-no_trove : goal.returns-in_err-trove-clause-no_trove
returns-in_err-trove-clause-no_trove c h =
    let met = handed_on c.from_residual.result c.in_err-trove.field-0.0 Bad (err_from_is_err_and c.from_residual.result c.from_residual.ensures.1) h in
    let item = c.in-Ok.item in
    no_trove_here c.args.bytes.now c.args.at item.tag item.from item.to c.in-Ok.ensures.found (λ t is e. c.in_err-trove.ensures.bad (ap Err met) t is e)
