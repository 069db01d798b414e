use Rattle.std.proofs.Common.{inl, inr, refl}
use Rattle.cny_version.specs.cny-base.Flow.{source_state}
use Rattle.cny_version.proofs.cny-base.Passing.{err_is}
use Rattle.root_commands.specs.cli-call.cny-laws.Failures.{failure_of_fault}
use Rattle.conary_cli.specs.RunsSeveral.{ReadsBatch}
use Rattle.conary_cli.proofs.BatchEnds.{fault_makes_none}
use Rattle.conary_cli.proofs.several.read_lines.Goals as goal

pub returns-in_err-bytes : goal.returns-in_err-bytes
returns-in_err-bytes g c =
    let old = source_state g.I.Source.source c.args.input.now in
    let new = source_state g.I.Source.source c.read_given.new.input in
    err_is (ReadsBatch old new) c.from_residual.result c.in_err-bytes.field-0.0 c.from_residual.ensures.1 (inl c.in_err-bytes.ensures)

pub returns-in_err-read_batch : goal.returns-in_err-read_batch
returns-in_err-read_batch g c =
    let old = source_state g.I.Source.source c.args.input.now in
    let new = source_state g.I.Source.source c.read_given.new.input in
    err_is (ReadsBatch old new) c.from_residual-in_err-read_batch.result (failure_of_fault c.in_err-read_batch.field-0.0) c.from_residual-in_err-read_batch.ensures.1
    (inr (c.in_ok-bytes.bytes, c.in_ok-bytes.ensures, fault_makes_none c.in_ok-bytes.bytes c.in_err-read_batch.field-0.0 (rw c.get.ensures at c.in_err-read_batch.ensures.refused)))

pub returns : goal.returns
returns g c = record { bytes = c.in_ok-bytes.bytes; reads = c.in_ok-bytes.ensures; are = (c.in_ok-read_batch.field-0, rw c.get.ensures at c.in_ok-read_batch.ensures.value, refl) }
