use Rattle.std.proofs.Common.{◌≡◌, ℕ, List, Some, None, true, refl, sym, subst}
use Rattle.std.proofs.lemmas.Result.{err_from_is_err_and}
use Rattle.cny_manifest.specs.Body.{Body, with_link}
use Rattle.cny_manifest.specs.Entries.{target_of}
use Rattle.cny_manifest.specs.Grammar.{InBody, InTarget}
use Rattle.cny_manifest.specs.Reading.{Runs}
use Rattle.cny_manifest.proofs.Steps.{only_found, none_found, line_taken, line_none, runs_line, stops_line, stops_no_line}
use Rattle.cny_manifest.proofs.WordLines.{line_shorter}
use Rattle.cny_manifest.proofs.body.take_target.Goals as goal

pub returns-in_err-line-clause-err : goal.returns-in_err-line-clause-err
returns-in_err-line-clause-err c =
    let p = err_from_is_err_and c.from_residual.result c.from_residual.ensures.1 in
    rw (p.1, p.2) (stops_no_line (InTarget c.args.draft.now c.args.path) c.args.rest.now c.in_err-line.field-0.0 tt c.in_err-line.ensures)

pub returns-in-Ok-clause-ok : goal.returns-in-Ok-clause-ok
returns-in-Ok-clause-ok c =
    let b : Body = c.args.draft.now in
    let line : List ℕ = c.in_ok-line.line.now in
    let found : target_of line ≡ Some c.in-Ok.target = c.in-Ok.ensures in
    subst (λ (d : Body). Runs (InTarget b c.args.path) c.args.rest.now (InBody d) c.in_ok-line.after.now) (sym c.in_ok-push_link-in-Ok.ensures)
    (runs_line (InTarget b c.args.path) c.args.rest.now line c.in_ok-line.after.now (InBody (with_link b c.args.path c.in-Ok.target)) tt c.in_ok-line.ensures
    (line_taken (λ (t : List ℕ). target_of line ≡ Some t) (λ t. true) (λ t. InBody (with_link b c.args.path t)) c.in-Ok.target (only_found (target_of line) c.in-Ok.target found) refl))

pub returns-in-Ok-clause-shorter : goal.returns-in-Ok-clause-shorter
returns-in-Ok-clause-shorter c = line_shorter c.args.rest.now c.in_ok-line.line.now c.in_ok-line.after.now c.in_ok-line.ensures

pub returns-in-Err-Bad-clause-err : goal.returns-in-Err-Bad-clause-err
returns-in-Err-Bad-clause-err c =
    let b : Body = c.args.draft.now in
    let line : List ℕ = c.in_ok-line.line.now in
    let none : target_of line ≡ None = rw c.in-Err-Bad.field-0-is at c.in-Err-Bad.ensures in
    rw c.fault_at.ensures
    (stops_line (InTarget b c.args.path) c.args.rest.now line c.in_ok-line.after.now _ tt c.in_ok-line.ensures
    (line_none (λ (t : List ℕ). target_of line ≡ Some t) (λ t. true) (λ t. InBody (with_link b c.args.path t)) (none_found (target_of line) none)) refl)
