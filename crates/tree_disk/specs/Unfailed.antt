-- What readers see of a run in which no call failed.
use Rattle.std.specs.Prelude.{◌≡◌, ◌⊎◌}
use Rattle.cny_base.specs.Count.{Rose}
use Rattle.tree_disk.specs.Tree.{Tree}
use Rattle.tree_disk.specs.Disk.{DiskModel, Shows}

-- Where no call failed, each tree that was read meanwhile has P.
abbrev pub UnlessFailed : {D : Type 0} → DiskModel D → D → D → (Tree → Type 0) → Type 0
UnlessFailed disk old new P = (Rose (disk.faults old) (disk.faults new) → ⊥) → Shows disk old new P

-- the one tree or the other
abbrev pub IsEither : Tree → Tree → Tree → Type 0
IsEither before after t = (t ≡ before) ⊎ (t ≡ after)
