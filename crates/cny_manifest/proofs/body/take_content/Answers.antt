use Rattle.std.proofs.Common.{sym, subst}
use Rattle.std.proofs.lemmas.Result.{err_from_is_err_and}
use Rattle.cny_manifest.specs.Body.{Body}
use Rattle.cny_manifest.specs.Grammar.{InBody, InContent}
use Rattle.cny_manifest.specs.Reading.{Runs}
use Rattle.cny_manifest.proofs.Steps.{runs_content, stops_content}
use Rattle.cny_manifest.proofs.WordLines.{content_shorter}
use Rattle.cny_manifest.proofs.body.take_content.Goals as goal

pub returns-in_err-content-clause-err : goal.returns-in_err-content-clause-err
returns-in_err-content-clause-err c =
    let p = err_from_is_err_and c.from_residual.result c.from_residual.ensures.1 in
    rw (p.1, p.2) (stops_content c.args.draft.now c.args.line c.args.rest.now c.in_err-content.field-0.0 c.in_err-content.ensures)

pub returns-clause-ok : goal.returns-clause-ok
returns-clause-ok c =
    let b : Body = c.args.draft.now in
    subst (λ (d : Body). Runs (InContent b c.args.line) c.args.rest.now (InBody d) c.in_ok-content.after.now) (sym c.in_ok-push_file.ensures)
    (runs_content b c.args.line c.args.rest.now c.in_ok-content.content.now c.in_ok-content.after.now c.in_ok-content.ensures)

pub returns-clause-shorter : goal.returns-clause-shorter
returns-clause-shorter c = content_shorter c.args.line.size c.args.rest.now c.in_ok-content.content.now c.in_ok-content.after.now c.in_ok-content.ensures
