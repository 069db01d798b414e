use Rattle.std.proofs.Common.{◌≡◌, ◌++◌, false, List}
use Rattle.std.specs.Prelude.{All}
use Rattle.tree_disk.specs.Tree.{Name}
use Rattle.tree_disk.specs.declared.disk.Look.{Look}
use Rattle.cny_pack.specs.Plan.{sights_of, IsFit}
use Rattle.cny_pack.proofs.plan.plan.Given as goal

abbrev pub invariant-loop-path : goal.invariant-loop-path
invariant-loop-path l = (done : List (Name × Look)) × (done ++ l.path-iterator ≡ l.fn.seen.entries) × (l.sights.items ≡ sights_of done) × (l.skip ≡ false → All IsFit done)
