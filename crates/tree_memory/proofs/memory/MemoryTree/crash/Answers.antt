use Rattle.std.specs.FinMap.{from_entries}
use Rattle.std.proofs.Common.{refl}
use Rattle.tree_memory.specs.State.{settled}
use Rattle.tree_memory.proofs.Replay.{agrees_replay}
use Rattle.tree_memory.proofs.memory.MemoryTree.crash.Goals as goal

pub returns-in_err-nodes-clause-agrees : goal.returns-in_err-nodes-clause-agrees
returns-in_err-nodes-clause-agrees c = agrees_replay c.args.self.now.changes.items (settled (from_entries c.args.self.now.first)) (λ p none. refl)

pub returns-in_err-first-clause-agrees : goal.returns-in_err-first-clause-agrees
returns-in_err-first-clause-agrees c = agrees_replay c.args.self.now.changes.items (settled (from_entries c.args.self.now.first)) (λ p none. refl)

pub returns-clause-agrees : goal.returns-clause-agrees
returns-clause-agrees c = agrees_replay c.args.self.now.changes.items (settled (from_entries c.args.self.now.first)) (λ p none. refl)
