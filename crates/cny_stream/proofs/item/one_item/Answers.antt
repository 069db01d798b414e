use Rattle.cny_stream.proofs.ItemLaws.{same_item, no_prefix}
use Rattle.cny_stream.proofs.item.one_item.Goals as goal

pub returns-clause-unique : goal.returns-clause-unique
returns-clause-unique c = same_item

pub returns-clause-no_prefix : goal.returns-clause-no_prefix
returns-clause-no_prefix c = no_prefix
