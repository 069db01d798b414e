use Rattle.std.proofs.Common.{ap, ◌∙◌, Bor}
use Rattle.cny_version.specs.Label.{LabelParts}
use Rattle.cny_version.proofs.KeptBranches.{last_found}
use Rattle.cny_version.proofs.part.last_after.Goals as goal

pub returns : goal.returns
returns c = ap (λ (b : Bor LabelParts). b.now) c.unwrap_or.ensures ∙ last_found c.args.first c.args.shadows.now c.last.result c.last.ensures.value
