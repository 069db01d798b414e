use Rattle.trove_stream.proofs.Places.{item_at}
use Rattle.repo_index.proofs.search.trove_at.Goals as goal

pub returns : goal.returns
returns c = item_at c.args.troves.now c.args.place c.get.result c.get.ensures.lookup
