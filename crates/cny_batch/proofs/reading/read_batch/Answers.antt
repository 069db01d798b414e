use Rattle.std.proofs.Common.{length}
use Rattle.cny_batch.proofs.OneBatch.{is_batch, same_lines, no_fault, no_batch, first_fault, same_fault}
use Rattle.cny_batch.proofs.reading.read_batch.Goals as goal

pub returns-in-Ok-clause-value : goal.returns-in-Ok-clause-value
returns-in-Ok-clause-value c = is_batch c.args.bytes.now c.in-Ok.lines c.in-Ok.ensures

pub returns-in-Ok-clause-only : goal.returns-in-Ok-clause-only
returns-in-Ok-clause-only c = λ lines is. same_lines c.args.bytes.now c.in-Ok.lines lines c.in-Ok.ensures is

pub returns-in-Ok-clause-exact : goal.returns-in-Ok-clause-exact
returns-in-Ok-clause-exact c = λ place is. no_fault c.args.bytes.now c.in-Ok.lines place c.in-Ok.ensures is

pub returns-in-Err-clause-only : goal.returns-in-Err-clause-only
returns-in-Err-clause-only c = λ lines is. rw c.fault_of.ensures (no_batch c.args.bytes.now (length c.args.bytes.now) c.in-Err.error lines c.in-Err.ensures is)

pub returns-in-Err-clause-refused : goal.returns-in-Err-clause-refused
returns-in-Err-clause-refused c = rw c.fault_of.ensures (first_fault c.args.bytes.now c.in-Err.error c.in-Err.ensures)

pub returns-in-Err-clause-exact : goal.returns-in-Err-clause-exact
returns-in-Err-clause-exact c = λ place is. rw c.fault_of.ensures (same_fault c.args.bytes.now c.in-Err.error place c.in-Err.ensures is)
