-- Runs of calls that gather what a job writes, and how they end.
use Rattle.std.specs.Prelude.{Bool, IsTrue, Result}
use Rattle.local_db.specs.cny-base.declared.refusal.Refusal.{Refusal}
use Rattle.local_db.specs.cny-base.declared.stop.Stop.{Stop}
use Rattle.local_db.specs.cny-base.declared.stop.Stop.TheVariants.{Refused, Memory, Failed, Damaged, FarFailed, FarDamaged}
use Rattle.local_db.specs.tree-disk.Tree.{Name, Tree}
use Rattle.local_db.specs.tree-disk.Disk.{DiskModel}
use Rattle.content_store.specs.Contents.{ContentsModel}
use Rattle.content_store.specs.Searches.{LacksSome, Searches}

-- A run that only reads the disk and searches the contents: what it makes of the tree and why it refuses, where the disk tells that;
-- and where it stops at a damaged file behind the contents, some name has no answer.
abbrev pub Gathers : {D C X : Type 0} → DiskModel D → ContentsModel C → (Tree → X → Type 0) → (Tree → Refusal → Type 0) → (old new : D) → (far far' : C) → Result X Stop → Type 0
Gathers disk contents P Q old new far far' result =
    Searches disk contents (λ answers. P) (λ told tree why. IsTrue told → Q tree why) (λ told answers tree. LacksSome answers) old new far far' result

-- ---- runs that read files of the root

-- Why nothing is read: the disk failed, no memory was left, or the file of a path is damaged of which this holds, where the disk
-- tells its tree.
abbrev pub IsReadStop : (told : Bool) → (Name → Type 0) → (rose : Type 0) → Stop → Type 0
IsReadStop told damaged rose Failed = rose
IsReadStop told damaged rose Memory = Unit {0}
IsReadStop told damaged rose (Damaged path) = IsTrue told → damaged path
IsReadStop told damaged rose (Refused why) = ⊥
IsReadStop told damaged rose FarFailed = ⊥
IsReadStop told damaged rose (FarDamaged path) = ⊥
