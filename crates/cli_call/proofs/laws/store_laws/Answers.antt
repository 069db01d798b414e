use Rattle.cli_call.proofs.Counting.{repository_laws}
use Rattle.cli_call.proofs.laws.store_laws.Goals as goal

pub returns : goal.returns
returns c = repository_laws (record {
  catalogue = c.stored_state.ensures.catalogue;
  commits = c.stored_state.ensures.commits;
  contents = c.stored_state.ensures.contents;
  stored = c.counted_names.ensures.stored;
  own = c.counted_names.ensures.own;
})
