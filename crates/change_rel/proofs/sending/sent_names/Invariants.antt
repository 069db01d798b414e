use Rattle.std.proofs.Common.{ℕ, List, take, Contains}
use Rattle.std.specs.Prelude.{◌↔◌}
use Rattle.change_rel.specs.Sending.{SendsName}
use Rattle.change_rel.proofs.sending.sent_names.Given as goal

abbrev pub invariant-loop-file : goal.invariant-loop-file
invariant-loop-file l = (name : List ℕ) → Contains l.names.items name ↔ SendsName l.old (take l.file-index l.fresh) name
