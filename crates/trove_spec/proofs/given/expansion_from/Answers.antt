use Rattle.std.proofs.Common.{List, sym, subst, ◌∙◌}
use Rattle.repo_index.specs.trove-stream.Installed.{IsRising}
use Rattle.repo_index.specs.trove-stream.declared.parts.TroveParts.{TroveParts}
use Rattle.repo_index.proofs.trove-stream.Lists.{none_rise}
use Rattle.trove_spec.proofs.given.expansion_from.Goals as goal

pub returns-in-None-clause-rises : goal.returns-in-None-clause-rises
returns-in-None-clause-rises c = subst (λ (l : List TroveParts). IsRising l) (sym (c.new-in-None.ensures ∙ c.new.ensures.items)) none_rise
