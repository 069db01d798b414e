use Rattle.std.proofs.Common.{◌≡◌, List, ℕ, take}
use Rattle.std.specs.BTreeMap.{get}
use Rattle.std.specs.Cmp.Lexicographic.{slice_cmp}
use Rattle.std.specs.Ordering.{nat_cmp}
use Rattle.conflict_plan.specs.Claims.{claims_in}
use Rattle.conflict_plan.specs.Records.{noted_all}
use Rattle.conflict_plan.proofs.records.add_files.Given as goal

abbrev pub invariant-loop-file : goal.invariant-loop-file
invariant-loop-file l = (path : List ℕ) → get (slice_cmp nat_cmp) l.records path ≡ noted_all l.side (claims_in l.name (take l.file-index l.files) path) (get (slice_cmp nat_cmp) l.fn.records path)
