use Rattle.std.proofs.Common.{sym, ap, ◌∙◌}
use Rattle.std.specs.Ordering.{is_eq}
use Rattle.std.proofs.lemmas.Map.Text.{is_eq-slice_cmp}
use Rattle.std.proofs.lemmas.Slice.Eq.{bytes_eq-Decides}
use Rattle.cny_dep.proofs.dep.Dep.order.Goals as goal

pub returns-clause-equal : goal.returns-clause-equal
returns-clause-equal c is =
    c.text.ensures.only c.args.other.now c.text-2.ensures.dependency
    ((bytes_eq-Decides c.text.result.now c.text-2.result.now).0 (sym (is_eq-slice_cmp c.text.result.now c.text-2.result.now) ∙ ap is_eq (sym c.cmp.ensures ∙ is)) ∙ c.text-2.ensures.value)
