use Rattle.tree_memory.proofs.Done.{half_keeps}
use Rattle.tree_memory.proofs.change.Change.failed.Goals as goal

pub returns-in_ok-bytes-in-Append-clause-keeps : goal.returns-in_ok-bytes-in-Append-clause-keeps
returns-in_ok-bytes-in-Append-clause-keeps c =
    let bytes = c.get-bytes.result.now in
    half_keeps c.args.nodes.now c.in-Append.path bytes c.in_ok-bytes-in-Append.bytes c.in_ok-bytes-in-Append.ensures c.requires.tree
    (c.can_append-allowed.ensures.keeps c.if-not-allowed.false bytes c.byte_ranges.ensures)
