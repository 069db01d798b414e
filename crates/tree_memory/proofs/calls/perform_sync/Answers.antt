use Rattle.tree_memory.proofs.Done.{synced}
use Rattle.tree_memory.proofs.calls.perform_sync.Goals as goal

pub returns-clause-told : goal.returns-clause-told
returns-clause-told c _ = synced (record { first = c.in_ok-settle.ensures.first; changes = c.in_ok-settle.ensures.ok })
