use Rattle.std.proofs.Common.{drop}
use Rattle.std.specs.Prelude.{Result}
use Rattle.repo_index.specs.cny-base.declared.refusal.Refusal.{Refusal}
use Rattle.repo_index.specs.trove-stream.declared.parts.TroveParts.{TroveParts}
use Rattle.std.specs.Prelude.{List}
use Rattle.sys_model.specs.Wanted.{MakesAll, Wants}
use Rattle.sys_model.proofs.wanted_list.wanted.Given as goal

-- what the lines that are left make of the list is what all of them want
abbrev pub invariant-loop-line : goal.invariant-loop-line
invariant-loop-line l = (result : Result (List TroveParts) Refusal) → MakesAll l.catalogue.troves l.config (drop l.line-index l.model.lines) l.list result
    → Wants l.catalogue.troves l.config l.model.lines result
