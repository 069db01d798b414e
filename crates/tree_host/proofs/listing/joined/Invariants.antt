use Rattle.tree_disk.specs.Disk.{NamesOf}
use Rattle.tree_host.proofs.listing.joined.Given as goal

abbrev pub invariant-loop-name : goal.invariant-loop-name
invariant-loop-name l = NamesOf l.dir l.texts.items
