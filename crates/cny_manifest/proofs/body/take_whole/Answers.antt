use Rattle.std.proofs.lemmas.Result.{err_from_is_err_and}
use Rattle.cny_manifest.specs.Grammar.{InBody}
use Rattle.cny_manifest.proofs.WordLines.{whole_runs, whole_stops}
use Rattle.cny_manifest.proofs.body.take_whole.Goals as goal

pub returns-in_err-line_taken-clause-err : goal.returns-in_err-line_taken-clause-err
returns-in_err-line_taken-clause-err c =
    let p = err_from_is_err_and c.from_residual.result c.from_residual.ensures.1 in
    rw (p.1, p.2) (whole_stops c.args.draft.now c.args.word c.args.rest.now c.args.line.now c.args.fields.now c.args.behind.now (InBody c.take_whole-taken.new.self) c.take_whole-taken.result
    c.in_err-line_taken.field-0.0 c.requires c.take_whole-taken.ensures c.in_err-line_taken.ensures.err)

pub returns-clause-ok : goal.returns-clause-ok
returns-clause-ok c =
    whole_runs c.args.draft.now c.args.word c.args.rest.now c.args.line.now c.args.fields.now c.args.behind.now (InBody c.take_whole-taken.new.self) c.take_whole-taken.result
    c.requires c.take_whole-taken.ensures c.in_ok-line_taken.ensures.ok
