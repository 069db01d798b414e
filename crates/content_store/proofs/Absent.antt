-- Where nothing stands there are no bytes.
use Rattle.content_store.specs.Store.{file_bytes}
use Rattle.std.proofs.Common.{None, Option, Some, refl, ◌≡◌}
use Rattle.tree_disk.specs.cny-base.declared.node.Node.{Node}

pub no_bytes : (o : Option Node) → o ≡ None → file_bytes o ≡ None
no_bytes None is = refl
no_bytes (Some n) is = absurd (cc is)
