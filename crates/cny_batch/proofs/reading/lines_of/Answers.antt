use Rattle.std.proofs.Common.{◌∙◌, ap, sym, List, Ok, arith}
use Rattle.std.proofs.lemmas.Result.{err_from_is_err_and}
use Rattle.cny_batch.specs.declared.limits.TheConstants.{LINES_LIMIT}
use Rattle.cny_batch.specs.declared.line.Line.{Line}
use Rattle.cny_batch.proofs.Lines.{none_read, one_read, none_left, next_fails, too_many, some_rest, no_rest}
use Rattle.cny_batch.proofs.reading.lines_of.Goals as goal

pub lines-init : goal.lines-init
lines-init c = rw c.new-lines.ensures.items (none_read c.args.bytes.now)

pub lines-preserved : goal.lines-preserved
lines-preserved c =
    rw c.in_ok-push.ensures.items
    (one_read c.args.bytes.now c.lines.rest.now c.in_ok-line.behind.now c.lines.lines.items c.in_ok-line.line c.lines.invariant (omega (arith, c.lines.lines.ok.0, c.lines.invariant.few))
    (some_rest c.lines.rest.now c.is_empty.result c.is_empty.ensures c.lines-test.true) c.in_ok-line.ensures.read)

pub returns-then-len-eq-LINES_LIMIT : goal.returns-then-len-eq-LINES_LIMIT
returns-then-len-eq-LINES_LIMIT c =
    rw c.fault_at.ensures
    (too_many LINES_LIMIT c.args.bytes.now c.lines.rest.now c.lines.lines.items (omega (arith, c.lines.lines.ok.0))
    (some_rest c.lines.rest.now c.is_empty.result c.is_empty.ensures c.lines-test.true) c.lines.invariant.read)

pub returns-in_err-line : goal.returns-in_err-line
returns-in_err-line c =
    let p = err_from_is_err_and c.from_residual.result c.from_residual.ensures.1 in
    rw (p.1, p.2)
    (next_fails c.args.bytes.now c.lines.rest.now c.lines.lines.items c.in_err-line.field-0.0 c.lines.invariant (omega (arith, c.lines.lines.ok.0, c.lines.invariant.few))
    (some_rest c.lines.rest.now c.is_empty.result c.is_empty.ensures c.lines-test.true) c.in_err-line.ensures.read)

pub returns : goal.returns
returns c =
    none_left c.args.bytes.now c.lines.rest.now c.lines.lines.items c.lines.invariant (no_rest c.lines.rest.now c.is_empty.result c.is_empty.ensures c.lines-test.false)
    ∙ ap (λ (l : List Line). Ok l) (sym c.new.ensures)
