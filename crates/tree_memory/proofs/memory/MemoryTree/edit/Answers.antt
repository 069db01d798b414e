use Rattle.tree_memory.proofs.Moves.{edited}
use Rattle.tree_memory.proofs.memory.MemoryTree.edit.Goals as goal

pub returns-clause-ok : goal.returns-clause-ok
returns-clause-ok c =
    let done = c.in_ok-record.ensures in
    edited c.in_ok-path.path c.args.path.now c.args.node (record { first = done.first; changes = done.ok }) done.turns c.in_ok-path.ensures
