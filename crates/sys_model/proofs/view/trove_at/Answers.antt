use Rattle.repo_index.proofs.trove-stream.Places.{item_at}
use Rattle.sys_model.proofs.view.trove_at.Goals as goal

pub returns : goal.returns
returns c = item_at c.args.list.now c.args.place c.get.result c.get.ensures.lookup
