use Rattle.cny_pack.specs.tree-disk.Disk.{NamesOf}
use Rattle.conary_manifest.proofs.host_dir.joined.Given as goal

abbrev pub invariant-loop-name : goal.invariant-loop-name
invariant-loop-name l = NamesOf l.dir l.texts.items
