use Rattle.cny_dep.proofs.Plain.{same_from_text}
use Rattle.cny_dep.proofs.flavor.one_text.Goals as goal

pub returns : goal.returns
returns c = same_from_text
