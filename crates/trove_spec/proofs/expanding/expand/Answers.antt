use Rattle.std.proofs.Common.{◌≡◌, List, map, Bor, None, sym, ap, subst, ◌∙◌}
use Rattle.repo_index.specs.trove-stream.declared.parts.TroveParts.{TroveParts}
use Rattle.trove_spec.specs.Expansion.{IsClosedIn, first_of_same_name}
use Rattle.trove_spec.proofs.InOrder.{now_of, rising_names}
use Rattle.repo_index.specs.trove-stream.NameOrder.{HasRisingNames}
use Rattle.trove_spec.proofs.expanding.expand.Goals as goal

pub returns-clause-names : goal.returns-clause-names
returns-clause-names c =
    let found = map now_of c.in_ok-troves.troves.items in
    let made : c.in_ok-copies.field-0 ≡ found = c.in_ok-copies.ensures ∙ ap (map now_of) c.as_slice-2.ensures.value in
    let none : first_of_same_name found ≡ None = sym (c.in_default.ensures ∙ ap (λ (l : List (Bor TroveParts)). first_of_same_name (map now_of l)) c.as_slice.ensures.value) in
    subst HasRisingNames (sym made) (rising_names found c.in_ok-troves.ensures.value.rising none)

pub returns-clause-closed : goal.returns-clause-closed
returns-clause-closed c =
    let made : c.in_ok-copies.field-0 ≡ map now_of c.in_ok-troves.troves.items = c.in_ok-copies.ensures ∙ ap (map now_of) c.as_slice-2.ensures.value in
    subst (IsClosedIn c.args.catalogue.now.troves) (sym made) c.in_ok-troves.ensures.closed
