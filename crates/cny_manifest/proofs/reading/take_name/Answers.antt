use Rattle.std.proofs.Common.{◌≡◌, ℕ, List, Some, None, true, refl}
use Rattle.std.proofs.lemmas.Result.{err_from_is_err_and}
use Rattle.cny_manifest.specs.Grammar.{AtName, AtVersion, name_of}
use Rattle.cny_manifest.proofs.Steps.{only_found, none_found, line_taken, line_none, runs_line, stops_line, stops_no_line}
use Rattle.cny_manifest.proofs.reading.take_name.Goals as goal

pub returns-in_err-line-clause-err : goal.returns-in_err-line-clause-err
returns-in_err-line-clause-err c = λ owners.
    let p = err_from_is_err_and c.from_residual.result c.from_residual.ensures.1 in
    rw (p.1, p.2) (stops_no_line (AtName owners) c.args.bytes.now c.in_err-line.field-0.0 tt c.in_err-line.ensures)

pub returns-in-Ok-clause-ok : goal.returns-in-Ok-clause-ok
returns-in-Ok-clause-ok c = λ owners.
    let line : List ℕ = c.in_ok-line.line.now in
    runs_line (AtName owners) c.args.bytes.now line c.in_ok-line.behind.now (AtVersion owners c.in-Ok.name) tt c.in_ok-line.ensures
    (line_taken (λ (n : List ℕ). name_of line ≡ Some n) (λ n. true) (AtVersion owners) c.in-Ok.name (only_found (name_of line) c.in-Ok.name c.in-Ok.ensures) refl)

pub returns-in-Err-Bad-clause-err : goal.returns-in-Err-Bad-clause-err
returns-in-Err-Bad-clause-err c = λ owners.
    let line : List ℕ = c.in_ok-line.line.now in
    let none : name_of line ≡ None = rw c.in-Err-Bad.field-0-is at c.in-Err-Bad.ensures in
    rw c.fault_at.ensures
    (stops_line (AtName owners) c.args.bytes.now line c.in_ok-line.behind.now _ tt c.in_ok-line.ensures
    (line_none (λ (n : List ℕ). name_of line ≡ Some n) (λ n. true) (AtVersion owners) (none_found (name_of line) none)) refl)
