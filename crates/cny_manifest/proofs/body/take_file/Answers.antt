use Rattle.std.proofs.lemmas.Result.{err_from_is_err_and, IfOk-weaker, IfErr-weaker}
use Rattle.cny_manifest.specs.Body.{Body}
use Rattle.cny_manifest.specs.Grammar.{InBody, InContent}
use Rattle.cny_manifest.specs.Reading.{Runs, StopsBy}
use Rattle.cny_manifest.proofs.Steps.{runs_then, stops_then}
use Rattle.cny_manifest.proofs.WordLines.{file_runs, file_stops, behind_shorter}
use Rattle.cny_manifest.proofs.body.take_file.Goals as goal

pub returns-in_err-file-clause-err : goal.returns-in_err-file-clause-err
returns-in_err-file-clause-err c =
    let p = err_from_is_err_and c.from_residual.result c.from_residual.ensures.1 in
    rw (p.1, p.2) (file_stops c.args.draft.now c.args.rest.now c.args.line.now c.args.fields.now c.args.behind.now c.in_err-file.field-0.0 c.requires c.in_err-file.ensures.err)

pub returns-clause-ok : goal.returns-clause-ok
returns-clause-ok c =
    let b : Body = c.args.draft.now in
    let file = c.in_ok-file.file in
    let first = file_runs b c.args.rest.now c.args.line.now c.args.fields.now c.args.behind.now file c.requires c.in_ok-file.ensures.ok in
    IfOk-weaker c.take_content.result (λ after. Runs (InContent b file) c.args.behind.now (InBody c.take_content.new.draft) after.now)
    (λ after. Runs (InBody b) c.args.rest.now (InBody c.take_content.new.draft) after.now)
    (λ after run. runs_then (InBody b) c.args.rest.now (InContent b file) c.args.behind.now (InBody c.take_content.new.draft) after.now first run)
    c.take_content.ensures.ok

pub returns-clause-shorter : goal.returns-clause-shorter
returns-clause-shorter c = behind_shorter c.args.rest.now c.args.line.now c.args.behind.now c.requires.line_is c.take_content.result c.take_content.ensures.shorter

pub returns-clause-err : goal.returns-clause-err
returns-clause-err c =
    let b : Body = c.args.draft.now in
    let file = c.in_ok-file.file in
    let first = file_runs b c.args.rest.now c.args.line.now c.args.fields.now c.args.behind.now file c.requires c.in_ok-file.ensures.ok in
    IfErr-weaker c.take_content.result (StopsBy (InContent b file) c.args.behind.now) (StopsBy (InBody b) c.args.rest.now)
    (λ e stop. stops_then (InBody b) c.args.rest.now (InContent b file) c.args.behind.now e first stop) c.take_content.ensures.err
