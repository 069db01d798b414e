use Rattle.std.proofs.Common.{◌≡◌, List, ℕ, take}
use Rattle.std.specs.BTreeMap.{get}
use Rattle.std.specs.Cmp.Lexicographic.{slice_cmp}
use Rattle.std.specs.Ordering.{nat_cmp}
use Rattle.conflict_plan.specs.Claims.{claims}
use Rattle.conflict_plan.specs.Records.{noted_all}
use Rattle.conflict_plan.proofs.records.add_troves.Given as goal

abbrev pub invariant-loop-trove : goal.invariant-loop-trove
invariant-loop-trove l = (path : List ℕ) → get (slice_cmp nat_cmp) l.records path ≡ noted_all l.side (claims (take l.trove-index l.list) path) (get (slice_cmp nat_cmp) l.fn.records path)
