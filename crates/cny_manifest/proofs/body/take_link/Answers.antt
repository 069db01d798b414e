use Rattle.std.proofs.lemmas.Result.{IfOk-weaker, IfErr-weaker}
use Rattle.cny_manifest.specs.Body.{Body}
use Rattle.cny_manifest.specs.Grammar.{InBody, InTarget}
use Rattle.cny_manifest.specs.Reading.{Runs, StopsBy}
use Rattle.cny_manifest.proofs.Steps.{runs_then, stops_then}
use Rattle.cny_manifest.proofs.WordLines.{behind_shorter}
use Rattle.cny_manifest.proofs.body.take_link.Goals as goal

pub returns-clause-ok : goal.returns-clause-ok
returns-clause-ok c =
    let b : Body = c.args.draft.now in
    let path = c.in_ok-path.path in
    IfOk-weaker c.take_target.result (λ after. Runs (InTarget b path) c.args.behind.now (InBody c.take_target.new.draft) after.now)
    (λ after. Runs (InBody b) c.args.rest.now (InBody c.take_target.new.draft) after.now)
    (λ after run. runs_then (InBody b) c.args.rest.now (InTarget b path) c.args.behind.now (InBody c.take_target.new.draft) after.now c.in_ok-path.ensures.ok run)
    c.take_target.ensures.ok

pub returns-clause-shorter : goal.returns-clause-shorter
returns-clause-shorter c = behind_shorter c.args.rest.now c.args.line.now c.args.behind.now c.requires.line_is c.take_target.result c.take_target.ensures.shorter

pub returns-clause-err : goal.returns-clause-err
returns-clause-err c =
    let b : Body = c.args.draft.now in
    let path = c.in_ok-path.path in
    IfErr-weaker c.take_target.result (StopsBy (InTarget b path) c.args.behind.now) (StopsBy (InBody b) c.args.rest.now)
    (λ e stop. stops_then (InBody b) c.args.rest.now (InTarget b path) c.args.behind.now e c.in_ok-path.ensures.ok stop) c.take_target.ensures.err
