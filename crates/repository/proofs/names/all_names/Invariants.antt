use Rattle.std.proofs.Common.{ℕ, List, take, Contains}
use Rattle.std.specs.Prelude.{◌↔◌}
use Rattle.repository.specs.Between.{SendsContent}
use Rattle.repository.proofs.names.all_names.Given as goal

abbrev pub invariant-loop-trove : goal.invariant-loop-trove
invariant-loop-trove l = (name : List ℕ) → Contains l.names.items name ↔ SendsContent l.old (take l.trove-index l.fresh) name
