use Rattle.trove_parts.proofs.IdFields.{id_short}
use Rattle.trove_parts.proofs.id.short_ids.Goals as goal

pub returns : goal.returns
returns c = id_short
