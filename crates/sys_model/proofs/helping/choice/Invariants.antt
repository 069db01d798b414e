use Rattle.std.proofs.Common.{take, All}
use Rattle.cny_version.specs.Label.{LabelParts}
use Rattle.sys_model.specs.Candidate.{IsForNone}
use Rattle.sys_model.specs.Fit.{IsWished}
use Rattle.sys_model.proofs.helping.choice.Given as goal

abbrev pub invariant-loop-label : goal.invariant-loop-label
invariant-loop-label l = All (λ (label : LabelParts). IsForNone (IsWished l.wish label) l.catalogue.troves) (take l.label-index l.labels)
