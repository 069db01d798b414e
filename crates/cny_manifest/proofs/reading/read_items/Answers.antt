use Rattle.std.proofs.lemmas.Result.{err_from_is_err_and, IfOk-weaker, IfErr-weaker}
use Rattle.cny_manifest.specs.Body.{Body}
use Rattle.cny_manifest.specs.Grammar.{AtMagic, InBody}
use Rattle.cny_manifest.specs.Reading.{StopsBy, IsEndOf, IsReadOf}
use Rattle.cny_manifest.proofs.Ending.{read_is}
use Rattle.cny_manifest.proofs.Steps.{runs_then, stops_then}
use Rattle.cny_manifest.proofs.reading.read_items.Goals as goal

pub returns-in_err-rest-clause-err : goal.returns-in_err-rest-clause-err
returns-in_err-rest-clause-err c =
    let p = err_from_is_err_and c.from_residual-in_err-rest.result c.from_residual-in_err-rest.ensures.1 in
    rw (p.1, p.2) (stops_then _ _ _ _ c.in_err-rest.field-0.0 c.in_ok-draft.ensures.ok c.in_err-rest.ensures.err)

pub returns-clause-ok : goal.returns-clause-ok
returns-clause-ok c =
    let b : Body = c.take_lines.new.draft in
    let run = runs_then _ _ _ _ _ _ c.in_ok-draft.ensures.ok c.in_ok-rest.ensures.ok in
    IfOk-weaker c.end.result (λ made. IsEndOf b c.in_ok-rest.rest.now made.0 made.1.items) (λ made. IsReadOf c.args.bytes.now made.0 made.1.items)
    (λ made is. read_is c.args.bytes.now c.in_ok-rest.rest.now b made.0 made.1.items run is) c.end.ensures.ok

pub returns-clause-err : goal.returns-clause-err
returns-clause-err c =
    let b : Body = c.take_lines.new.draft in
    let run = runs_then _ _ _ _ _ _ c.in_ok-draft.ensures.ok c.in_ok-rest.ensures.ok in
    IfErr-weaker c.end.result (StopsBy (InBody b) c.in_ok-rest.rest.now) (StopsBy AtMagic c.args.bytes.now)
    (λ e stop. stops_then AtMagic c.args.bytes.now (InBody b) c.in_ok-rest.rest.now e run stop) c.end.ensures.err
