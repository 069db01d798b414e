-- Runs of calls that only read a disk and search contents, and how they end.
use Rattle.std.specs.Prelude.{ℕ, ◌≤◌, Bool, IsTrue, List, Result, Ok, Err}
use Rattle.tree_disk.specs.cny-base.Count.{Rose}
use Rattle.tree_disk.specs.cny-base.declared.refusal.Refusal.{Refusal}
use Rattle.tree_disk.specs.cny-base.declared.stop.Stop.{Stop}
use Rattle.tree_disk.specs.cny-base.declared.stop.Stop.TheVariants.{Refused, Memory, Failed, Damaged, FarFailed, FarDamaged}
use Rattle.tree_disk.specs.Tree.{Name, Tree}
use Rattle.tree_disk.specs.Disk.{DiskModel, HasRead}
use Rattle.content_store.specs.Contents.{Answers, ContentsModel, KeepsContents, LacksAnswer}

-- How a run ends: where the disk tells its tree, with a value of which P holds; with a refusal of which Q holds; at a damaged file
-- behind the contents, of which R holds; else with a fault of the disk or of the contents, or want of memory.
abbrev pub SearchEnds : {X : Type 0} → Bool → (X → Type 0) → (Refusal → Type 0) → (Name → Type 0) → (rose far_rose : Type 0) → Result X Stop → Type 0
SearchEnds told P Q R rose far_rose (Ok x) = IsTrue told → P x
SearchEnds told P Q R rose far_rose (Err (Refused refusal)) = Q refusal
SearchEnds told P Q R rose far_rose (Err Failed) = rose
SearchEnds told P Q R rose far_rose (Err Memory) = Unit {0}
SearchEnds told P Q R rose far_rose (Err (Damaged path)) = ⊥
SearchEnds told P Q R rose far_rose (Err FarFailed) = far_rose
SearchEnds told P Q R rose far_rose (Err (FarDamaged path)) = R path

-- where the contents tell what is damaged, what stands at a path behind them fails a cross-check, and this holds of what they answer
pub record IsFarDamage {C : Type 0} (contents : ContentsModel C) (R : Answers → Type 0) (far : C) (path : Name) : Type 0 where
  pub damaged : IsTrue contents.tells → contents.is_damaged far path
  pub lacking : IsTrue contents.tells → R (contents.answers far)

-- some name has no answer
abbrev pub LacksSome : Answers → Type 0
LacksSome answers = (name : List ℕ) × LacksAnswer answers name

-- A run that only reads the disk and searches the contents: what it finds by what the contents answer and the tree, why it refuses,
-- and which content lacks an answer where it stops for damage behind the contents. The last two also say what they say where the disk
-- doesn't tell its tree.
pub record Searches {D C X : Type 0} (disk : DiskModel D) (contents : ContentsModel C) (P : Answers → Tree → X → Type 0) (Q : Bool → Tree → Refusal → Type 0)
    (R : Bool → Answers → Tree → Type 0) (old new : D) (far far' : C) (result : Result X Stop) : Type 0 where
  pub later : disk.faults old ≤ disk.faults new
  pub same : IsTrue disk.tells → HasRead disk old new (Unit {0})
  pub keeps : KeepsContents contents far far'
  pub ends : SearchEnds disk.tells (P (contents.answers far) (disk.reads old)) (Q disk.tells (disk.reads old))
      (IsFarDamage contents (λ answers. R disk.tells answers (disk.reads old)) far)
      (Rose (disk.faults old) (disk.faults new)) (Rose (contents.faults far) (contents.faults far')) result

-- it isn't refused
abbrev pub no_refusal : Bool → Tree → Refusal → Type 0
no_refusal told tree refusal = ⊥

-- How a run that searches contents may stop, on every disk, also on one that tells nothing: by a refusal of which Q holds, by a fault of
-- the disk or of the contents, at a damaged file behind these, or for want of memory.
abbrev pub IsSearchStopBy : (Refusal → Type 0) → Stop → Type 0
IsSearchStopBy Q (Refused why) = Q why
IsSearchStopBy Q Memory = Unit {0}
IsSearchStopBy Q Failed = Unit {0}
IsSearchStopBy Q (Damaged path) = ⊥
IsSearchStopBy Q FarFailed = Unit {0}
IsSearchStopBy Q (FarDamaged path) = Unit {0}

-- the same of one that isn't refused
abbrev pub IsSearchStop : Stop → Type 0
IsSearchStop = IsSearchStopBy (λ why. ⊥)
