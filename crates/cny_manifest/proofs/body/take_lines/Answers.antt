use Rattle.std.proofs.lemmas.Result.{err_from_is_err_and}
use Rattle.cny_manifest.specs.Grammar.{InBody}
use Rattle.cny_manifest.proofs.Steps.{runs_then, stops_then, stops_no_line}
use Rattle.cny_manifest.proofs.body.take_lines.Goals as goal

pub returns-in_err-line-clause-err : goal.returns-in_err-line-clause-err
returns-in_err-line-clause-err c =
    let p = err_from_is_err_and c.from_residual.result c.from_residual.ensures.1 in
    rw (p.1, p.2) (stops_then _ _ _ _ c.in_err-line.field-0.0 c.lines.invariant (stops_no_line (InBody c.lines.draft) c.lines.rest.now c.in_err-line.field-0.0 tt c.in_err-line.ensures))

pub returns-in_err-rest-clause-err : goal.returns-in_err-rest-clause-err
returns-in_err-rest-clause-err c =
    let p = err_from_is_err_and c.from_residual-in_err-rest.result c.from_residual-in_err-rest.ensures.1 in
    rw (p.1, p.2) (stops_then _ _ _ _ c.in_err-rest.field-0.0 c.lines.invariant c.in_err-rest.ensures.err)

pub lines-preserved : goal.lines-preserved
lines-preserved c = runs_then _ _ _ _ _ _ c.lines.invariant c.in_ok-rest.ensures.ok
