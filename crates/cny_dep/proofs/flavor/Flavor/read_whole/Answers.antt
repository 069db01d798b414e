use Rattle.std.proofs.Common.{◌≡◌, ◌∙◌, sym, ap}
use Rattle.std.proofs.lemmas.Result.{err_from_is_err_and}
use Rattle.cny_dep.specs.Canonical.{flavor_text}
use Rattle.cny_dep.proofs.Plain.{canonical_relaxed, same_bytes, other_bytes}
use Rattle.cny_dep.proofs.flavor.Flavor.read_whole.Goals as goal

pub returns-in_err-flavor-clause-only : goal.returns-in_err-flavor-clause-only
returns-in_err-flavor-clause-only c parts canonical =
    let p = err_from_is_err_and c.from_residual.result c.from_residual.ensures.1 in
    rw (p.1, p.2) (c.in_err-flavor.ensures.only parts (canonical_relaxed c.args.text.now parts canonical))

pub returns-then-ne-clause-only : goal.returns-then-ne-clause-only
returns-then-ne-clause-only c parts canonical =
    let same : c.in_ok-flavor.flavor ≡ parts = c.in_ok-flavor.ensures.only parts (canonical_relaxed c.args.text.now parts canonical) in
    other_bytes c.text.result.now c.args.text.now c.if-ne.ensures (c.text.ensures.value ∙ ap flavor_text same ∙ sym canonical.text_is)

pub returns-clause-found : goal.returns-clause-found
returns-clause-found c =
    record { text_is = sym (same_bytes c.text.result.now c.args.text.now c.if-ne.ensures) ∙ c.text.ensures.value; flavor = c.text.ensures.flavor }

pub returns-clause-only : goal.returns-clause-only
returns-clause-only c parts canonical = c.in_ok-flavor.ensures.only parts (canonical_relaxed c.args.text.now parts canonical)
