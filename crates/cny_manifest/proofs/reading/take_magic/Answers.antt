use Rattle.std.proofs.Common.{◌≡◌, ℕ, Bool, List, Some, None, true, refl, sym}
use Rattle.std.proofs.lemmas.Result.{err_from_is_err_and}
use Rattle.cny_manifest.specs.Grammar.{AtMagic, AtName, magic_of}
use Rattle.cny_manifest.proofs.Steps.{only_found, none_found, line_taken, line_none, runs_line, stops_line, stops_no_line}
use Rattle.cny_manifest.proofs.reading.take_magic.Goals as goal

pub returns-in_err-line-clause-err : goal.returns-in_err-line-clause-err
returns-in_err-line-clause-err c =
    let p = err_from_is_err_and c.from_residual.result c.from_residual.ensures.1 in
    rw (p.1, p.2) (stops_no_line AtMagic c.args.bytes.now c.in_err-line.field-0.0 tt c.in_err-line.ensures)

pub returns-in-Some-clause-ok : goal.returns-in-Some-clause-ok
returns-in-Some-clause-ok c =
    let line : List ℕ = c.in_ok-line.line.now in
    runs_line AtMagic c.args.bytes.now line c.in_ok-line.behind.now (AtName c.in-Some.owners) tt c.in_ok-line.ensures
    (line_taken (λ (b : Bool). magic_of line ≡ Some b) (λ b. true) AtName c.in-Some.owners (only_found (magic_of line) c.in-Some.owners (sym c.in-Some.ensures)) refl)

pub returns-in-None-clause-err : goal.returns-in-None-clause-err
returns-in-None-clause-err c =
    let line : List ℕ = c.in_ok-line.line.now in
    let none : magic_of line ≡ None = sym c.in-None.ensures in
    rw c.fault_at.ensures
    (stops_line AtMagic c.args.bytes.now line c.in_ok-line.behind.now _ tt c.in_ok-line.ensures
    (line_none (λ (b : Bool). magic_of line ≡ Some b) (λ b. true) AtName (none_found (magic_of line) none)) refl)
