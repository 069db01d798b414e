-- Laws of orders.
use Rattle.std.specs.Prelude.{◌≡◌}
use Rattle.std.specs.Cmp.{IsTotalOrder}
use Rattle.std.specs.Cmp.Lexicographic.{nat_list_cmp_total}
use Rattle.std.specs.Ordering.{ordering_reverse}
use Rattle.std.specs.declared.cmp.Ordering.{Ordering}
use Rattle.std.specs.declared.cmp.Ordering.TheVariants.{Less, Equal, Greater}
use Rattle.std.proofs.Common.{ap, ◌∙◌, subst}
use Rattle.std.proofs.lemmas.Cmp.{tied_itself, on_total}
use Rattle.cny_dep.specs.Dep.{dep_text}
use Rattle.cny_dep.specs.Order.{dep_cmp}

-- what is below z, while x is below it, isn't above z
pub above : {K : Type 0} {R : K → K → Ordering} (o : IsTotalOrder R) (x y z : K) → R x z ≡ Greater → R x y ≡ Less → R y z ≡ Greater
above o x y z greater less =
    o.antisymm y z ∙ ap ordering_reverse (o.trans z x y (o.antisymm z x ∙ ap ordering_reverse greater) less)

-- a value is equal to itself
pub same_tied : {K : Type 0} (R : K → K → Ordering) (o : IsTotalOrder R) (x y : K) → x ≡ y → R x y ≡ Equal
same_tied {K} R o x y same = let P : K → Type 0 = λ z. R x z ≡ Equal in subst P same (tied_itself o x)

-- the order of dependencies by their texts
pub dep_total : IsTotalOrder dep_cmp
dep_total = on_total dep_text nat_list_cmp_total
