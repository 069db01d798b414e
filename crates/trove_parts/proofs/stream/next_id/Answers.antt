use Rattle.std.proofs.Common.{◌≡◌, Err, ap, ◌∙◌}
use Rattle.std.proofs.lemmas.Result.{err_from_is_err_and}
use Rattle.cny_version.specs.cny-base.declared.text.TextFault.TheVariants.{Bad}
use Rattle.cny_dep.specs.Canonical.{flavor_text}
use Rattle.cny_version.specs.Version.{version_text}
use Rattle.trove_parts.proofs.IdFields.{fields_fit, texts_there, rest_there, id_there}
use Rattle.cny_dep.proofs.Faults.{handed_on}
use Rattle.trove_parts.proofs.stream.next_id.Goals as goal

pub returns-in_default-clause-bad : goal.returns-in_default-clause-bad
returns-in_default-clause-bad c _ id rest is spelled =
    let fits = fields_fit id is in
    c.in_default.ensures.none id.name (version_text id.version) (flavor_text id.flavor) rest fits.name fits.version fits.flavor spelled

pub returns-in_err-id-clause-bad : goal.returns-in_err-id-clause-bad
returns-in_err-id-clause-bad c h id rest is spelled =
    let met : c.in_err-id.field-0.0 ≡ Bad = handed_on c.from_residual.result c.in_err-id.field-0.0 Bad (err_from_is_err_and c.from_residual.result c.from_residual.ensures.1) h in
    c.in_err-id.ensures.bad (ap Err met) id (texts_there c.args.bytes.now c.args.at c.in-Some.spans id rest c.in-Some.ensures.some is spelled)

pub returns-clause-only : goal.returns-clause-only
returns-clause-only c id rest is spelled = (
  c.in_ok-id.ensures.only id (texts_there c.args.bytes.now c.args.at c.in-Some.spans id rest c.in-Some.ensures.some is spelled),
  rest_there c.args.bytes.now c.args.at c.in-Some.spans id rest c.in-Some.ensures.some is spelled,
)

pub returns-clause-found : goal.returns-clause-found
returns-clause-found c = id_there c.args.bytes.now c.args.at c.in-Some.spans c.in_ok-id.id c.in-Some.ensures.some c.in_ok-id.ensures.value

pub returns-in_err-id-clause-early : goal.returns-in_err-id-clause-early
returns-in_err-id-clause-early c none =
    let strs = c.in-Some.ensures.some in
    let bad = c.in_err-id.ensures.early (λ name version. none _ _ _ _ name version strs.flavor_fits strs.spelled) in
    let told = err_from_is_err_and c.from_residual.result c.from_residual.ensures.1 in
    let met : c.in_err-id.field-0.0 ≡ Bad = cc bad in
    told.1 ∙ ap Err (told.2 ∙ met)
