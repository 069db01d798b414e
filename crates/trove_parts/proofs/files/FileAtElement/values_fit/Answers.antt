use Rattle.trove_parts.proofs.Lengths.{file_short}
use Rattle.trove_parts.proofs.Sizes.{small}
use Rattle.trove_parts.proofs.files.FileAtElement.values_fit.Goals as goal

pub returns : goal.returns
returns c encoding x valid = small _ (file_short encoding x valid)
