use Rattle.cny_laws.proofs.EditedSystems.{edited_rests}
use Rattle.cny_laws.proofs.edits.edited_root.Goals as goal

pub returns : goal.returns
returns g c old new s e is edits rests = edited_rests old new s e is edits rests
