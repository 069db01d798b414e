use Rattle.change_set.proofs.ContentValue.{after_last}
use Rattle.change_set.proofs.contents.comes_after.Goals as goal

pub returns : goal.returns
returns c = after_last c.args.contents.now c.in-Some.last.now c.args.name.now c.lt.result c.in-Some.ensures.value c.lt.ensures
