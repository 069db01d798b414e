-- Lists of dependencies.
use Rattle.std.specs.Prelude.{ℕ, List}
use Rattle.cny_dep.specs.Dep.{Dependency, IsDependency, dep_text}
use Rattle.cny_dep.specs.Order.{dep_cmp}
use Rattle.trove_parts.specs.Items.{items_bytes, IsRisingList}

-- their texts strictly rise by their bytes
abbrev pub AreDeps : List Dependency → Type 0
AreDeps deps = IsRisingList IsDependency dep_cmp deps

abbrev pub deps_bytes : ℕ → List Dependency → List ℕ
deps_bytes tag deps = items_bytes dep_text tag deps
