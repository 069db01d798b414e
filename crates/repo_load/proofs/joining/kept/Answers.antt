use Rattle.std.proofs.Common.{◌∙◌}
use Rattle.repo_load.proofs.Kept.{kept_parts}
use Rattle.repo_load.proofs.joining.kept.Goals as goal

pub from_parts-requires : goal.from_parts-requires
from_parts-requires c =
    kept_parts c.into_parts-id.result c.into_parts-id.ensures.trove c.new-2.result c.new-4.result c.new-6.result
    (c.new-2.ensures ∙ c.new.ensures.items) (c.new-4.ensures ∙ c.new-3.ensures.items) (c.new-6.ensures ∙ c.new-5.ensures.items)
