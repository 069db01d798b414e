use Rattle.std.proofs.lemmas.Result.{err_from_is_err_and, IfOk-weaker, IfErr-weaker}
use Rattle.cny_manifest.specs.Grammar.{AtMagic, AtName, AtVersion, InBody}
use Rattle.cny_manifest.specs.Reading.{Runs, StopsBy}
use Rattle.cny_manifest.proofs.Steps.{runs_then, stops_then}
use Rattle.cny_manifest.proofs.reading.take_head.Goals as goal

pub returns-in_err-name-clause-err : goal.returns-in_err-name-clause-err
returns-in_err-name-clause-err c =
    let p = err_from_is_err_and c.from_residual-in_err-name.result c.from_residual-in_err-name.ensures.1 in
    let owners = c.in_ok-owners.owners in
    rw (p.1, p.2) (stops_then AtMagic c.args.bytes.now (AtName owners) c.in_ok-owners.rest.now c.in_err-name.field-0.0 c.in_ok-owners.ensures.ok (c.in_err-name.ensures.err owners))

pub returns-clause-ok : goal.returns-clause-ok
returns-clause-ok c =
    let owners = c.in_ok-owners.owners in
    let name = c.in_ok-name.name in
    IfOk-weaker c.take_version.result (λ read. Runs (AtVersion owners name) c.in_ok-name.rest.now (InBody read.0) read.1.now) (λ read. Runs AtMagic c.args.bytes.now (InBody read.0) read.1.now)
    (λ read run. runs_then AtMagic c.args.bytes.now (AtVersion owners name) c.in_ok-name.rest.now (InBody read.0) read.1.now
    (runs_then AtMagic c.args.bytes.now (AtName owners) c.in_ok-owners.rest.now (AtVersion owners name) c.in_ok-name.rest.now c.in_ok-owners.ensures.ok (c.in_ok-name.ensures.ok owners)) run)
    c.take_version.ensures.ok

pub returns-clause-err : goal.returns-clause-err
returns-clause-err c =
    let owners = c.in_ok-owners.owners in
    let name = c.in_ok-name.name in
    IfErr-weaker c.take_version.result (StopsBy (AtVersion owners name) c.in_ok-name.rest.now) (StopsBy AtMagic c.args.bytes.now)
    (λ e stop. stops_then AtMagic c.args.bytes.now (AtVersion owners name) c.in_ok-name.rest.now e
    (runs_then AtMagic c.args.bytes.now (AtName owners) c.in_ok-owners.rest.now (AtVersion owners name) c.in_ok-name.rest.now c.in_ok-owners.ensures.ok (c.in_ok-name.ensures.ok owners)) stop)
    c.take_version.ensures.err
