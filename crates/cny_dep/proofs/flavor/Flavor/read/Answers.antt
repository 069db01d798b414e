use Rattle.std.proofs.Common.{◌≡◌, ◌∙◌, sym, ap}
use Rattle.std.proofs.lemmas.Option.{same_Some}
use Rattle.std.proofs.lemmas.Result.{err_from_is_err_and}
use Rattle.cny_dep.specs.Canonical.{is_flavor}
use Rattle.cny_dep.specs.FlavorReading.{parts_at}
use Rattle.cny_dep.proofs.Plain.{relaxed_read, read_relaxed, failing_reader}
use Rattle.cny_dep.proofs.flavor.Flavor.read.Goals as goal

pub returns-in_err-parts-clause-only : goal.returns-in_err-parts-clause-only
returns-in_err-parts-clause-only c parts relaxed =
    let p = err_from_is_err_and c.from_residual.result c.from_residual.ensures.1 in
    failing_reader c.in_err-parts.field-0.0 c.args.text.now parts c.from_residual.result (rw c.as_bytes.ensures.value at c.in_err-parts.ensures) (rw (p.1, p.2)) relaxed

pub returns-then-not-is_flavor-clause-only : goal.returns-then-not-is_flavor-clause-only
returns-then-not-is_flavor-clause-only c parts relaxed =
    let same : c.in_ok-parts.parts ≡ parts =
    same_Some c.in_ok-parts.parts parts (sym c.in_ok-parts.ensures ∙ ap parts_at c.as_bytes.ensures.value ∙ relaxed_read c.args.text.now parts relaxed) in
    let good = ap is_flavor same ∙ relaxed.flavor in
    cc (good, c.is_flavor.ensures)

pub returns-clause-found : goal.returns-clause-found
returns-clause-found c =
    read_relaxed c.args.text.now c.in_ok-parts.parts (rw c.as_bytes.ensures.value at c.in_ok-parts.ensures) (cc (c.is_flavor.ensures, c.if-not-is_flavor.false))

pub returns-clause-only : goal.returns-clause-only
returns-clause-only c parts relaxed =
    same_Some c.in_ok-parts.parts parts (sym c.in_ok-parts.ensures ∙ ap parts_at c.as_bytes.ensures.value ∙ relaxed_read c.args.text.now parts relaxed)
