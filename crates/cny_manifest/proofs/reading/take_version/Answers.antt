use Rattle.std.proofs.Common.{ℕ, List, true, refl, sym, subst}
use Rattle.std.proofs.lemmas.Result.{err_from_is_err_and}
use Rattle.cny_version.specs.Version.{WholeVersion}
use Rattle.cny_manifest.specs.Body.{Body, body_of}
use Rattle.cny_manifest.specs.Grammar.{AtVersion, InBody, IsVersionLine}
use Rattle.cny_manifest.specs.Reading.{Runs}
use Rattle.cny_manifest.proofs.Steps.{line_taken, line_none, runs_line, stops_line, stops_no_line}
use Rattle.cny_manifest.proofs.reading.take_version.Goals as goal

pub returns-in_err-line-clause-err : goal.returns-in_err-line-clause-err
returns-in_err-line-clause-err c =
    let p = err_from_is_err_and c.from_residual.result c.from_residual.ensures.1 in
    rw (p.1, p.2) (stops_no_line (AtVersion c.args.owners c.args.name) c.args.bytes.now c.in_err-line.field-0.0 tt c.in_err-line.ensures)

pub returns-in-Ok-clause-ok : goal.returns-in-Ok-clause-ok
returns-in-Ok-clause-ok c =
    let line : List ℕ = c.in_ok-line.line.now in
    subst (λ (d : Body). Runs (AtVersion c.args.owners c.args.name) c.args.bytes.now (InBody d) c.in_ok-line.behind.now) (sym c.in_ok-new-in-Ok.ensures)
    (runs_line (AtVersion c.args.owners c.args.name) c.args.bytes.now line c.in_ok-line.behind.now (InBody (body_of c.args.owners c.args.name c.in-Ok.version)) tt c.in_ok-line.ensures
    (line_taken (IsVersionLine line) (λ v. true) (λ v. InBody (body_of c.args.owners c.args.name v)) c.in-Ok.version c.in-Ok.ensures refl))

pub returns-in-Err-Bad-clause-err : goal.returns-in-Err-Bad-clause-err
returns-in-Err-Bad-clause-err c =
    let line : List ℕ = c.in_ok-line.line.now in
    let none : (v : WholeVersion) → IsVersionLine line v → ⊥ = rw c.in-Err-Bad.field-0-is at c.in-Err-Bad.ensures in
    rw c.fault_at.ensures
    (stops_line (AtVersion c.args.owners c.args.name) c.args.bytes.now line c.in_ok-line.behind.now _ tt c.in_ok-line.ensures
    (line_none (IsVersionLine line) (λ v. true) (λ v. InBody (body_of c.args.owners c.args.name v)) none) refl)
