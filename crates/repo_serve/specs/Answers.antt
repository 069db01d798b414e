-- Runs of calls that only read a disk, may be refused, and how they end.
use Rattle.std.specs.Prelude.{ℕ, ◌≤◌, Bool, IsTrue, Result, Ok, Err}
use Rattle.repo_load.specs.cny-base.Count.{Rose}
use Rattle.repo_load.specs.cny-base.declared.refusal.Refusal.{Refusal}
use Rattle.repo_load.specs.cny-base.declared.stop.Stop.{Stop}
use Rattle.repo_load.specs.cny-base.declared.stop.Stop.TheVariants as stop
use Rattle.repo_load.specs.tree-disk.Tree.{Name, Tree}
use Rattle.repo_load.specs.tree-disk.Disk.{DiskModel, HasRead}

-- How a run ends: where the disk tells its tree, with a value of which P holds, with a refusal of which R holds, or at a damaged
-- file of which Q holds; else with a fault or want of memory.
abbrev pub AnswerEnds : {X : Type 0} → Bool → (X → Type 0) → (Refusal → Type 0) → (Name → Type 0) → Result X Stop → ℕ → ℕ → Type 0
AnswerEnds told P R Q (Ok x) before now = IsTrue told → P x
AnswerEnds told P R Q (Err (stop.Refused refusal)) before now = IsTrue told → R refusal
AnswerEnds told P R Q (Err (stop.Damaged path)) before now = IsTrue told → Q path
AnswerEnds told P R Q (Err stop.Failed) before now = Rose before now
AnswerEnds told P R Q (Err stop.Memory) before now = Unit {0}
AnswerEnds told P R Q (Err stop.FarFailed) before now = ⊥
AnswerEnds told P R Q (Err (stop.FarDamaged path)) before now = ⊥

-- A run that only reads, what it answers of the tree, why it is refused, and which file it calls damaged.
pub record Answers {D X : Type 0} (disk : DiskModel D) (P : Tree → X → Type 0) (R : Tree → Refusal → Type 0) (Q : Tree → Name → Type 0) (old new : D) (result : Result X Stop) : Type 0 where
  pub later : disk.faults old ≤ disk.faults new
  pub same : IsTrue disk.tells → HasRead disk old new (Unit {0})
  pub ends : AnswerEnds disk.tells (P (disk.reads old)) (R (disk.reads old)) (Q (disk.reads old)) result (disk.faults old) (disk.faults new)
