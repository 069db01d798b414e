use Rattle.std.proofs.Common.{ℕ, ◌==◌, List, length, ap, sym, ◌∙◌}
use Rattle.cny_dep.specs.Canonical.{flavor_text}
use Rattle.std.proofs.lemmas.Result.{err_from_is_err_and}
use Rattle.cny_manifest.proofs.Values.{flavor_not_read, flavor_empty, flavor_read, empty_none, empty_some}
use Rattle.cny_manifest.proofs.head.flavor_field.Goals as goal

pub returns-in_err-flavor : goal.returns-in_err-flavor
returns-in_err-flavor c =
    let p = err_from_is_err_and c.from_residual.result c.from_residual.ensures.1 in
    rw (p.1, p.2) (flavor_not_read c.args.text.now c.in-Some.text.now c.in_err-flavor.field-0.0 c.in-Some.ensures.some c.in_err-flavor.ensures.only)

pub returns-then-is_empty : goal.returns-then-is_empty
returns-then-is_empty c =
    flavor_empty c.args.text.now c.in-Some.text.now c.in_ok-flavor.flavor c.in-Some.ensures.some c.in_ok-flavor.ensures.only (empty_none (flavor_text c.in_ok-flavor.flavor) (ap (λ (l : List ℕ). length l == 0) (sym c.text.ensures.value) ∙ sym c.is_empty.ensures ∙ c.if-is_empty.true))

pub returns : goal.returns
returns c =
    flavor_read c.args.text.now c.in-Some.text.now c.in_ok-flavor.flavor c.in-Some.ensures.some c.in-Some.ensures.utf8 c.in_ok-flavor.ensures.found c.in_ok-flavor.ensures.only (empty_some (flavor_text c.in_ok-flavor.flavor) (ap (λ (l : List ℕ). length l == 0) (sym c.text.ensures.value) ∙ sym c.is_empty.ensures ∙ c.if-is_empty.false))
