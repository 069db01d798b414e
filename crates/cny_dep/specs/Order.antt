-- The order of dependencies is that of their texts.
use Rattle.std.specs.Prelude.{◌≡◌, Bool, Some}
use Rattle.std.specs.Cmp.{IsPartialOrder}
use Rattle.std.specs.Cmp.Lexicographic.{slice_cmp, texts_po, texts_ties}
use Rattle.std.specs.Ordering.{nat_cmp, eq_by_cmp}
use Rattle.std.specs.Str.{bytes_eq}
use Rattle.std.specs.declared.cmp.Ordering.{Ordering}
use Rattle.cny_dep.specs.Dep.{Dependency, dep_text}

abbrev pub dep_cmp : Dependency → Dependency → Ordering
dep_cmp x y = slice_cmp nat_cmp (dep_text x) (dep_text y)

abbrev pub dep_eq : Dependency → Dependency → Bool
dep_eq x y = bytes_eq (dep_text x) (dep_text y)

pub dep_po : IsPartialOrder dep_eq (λ x y. Some (dep_cmp x y))
dep_po =
    record {
      antisymm = λ x y. texts_po.antisymm (dep_text x) (dep_text y);
      trans = λ x y z. texts_po.trans (dep_text x) (dep_text y) (dep_text z);
      matches_eq = λ x y. texts_po.matches_eq (dep_text x) (dep_text y);
      congr = λ x y z. texts_po.congr (dep_text x) (dep_text y) (dep_text z);
    }

pub dep_ties : (x y : Dependency) → dep_eq x y ≡ eq_by_cmp dep_cmp x y
dep_ties x y = texts_ties (dep_text x) (dep_text y)
