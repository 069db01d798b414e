-- What runs of calls make ready before a write set is applied.
use Rattle.std.specs.Prelude.{ℕ, ◌≤◌, Bool, IsTrue, Result, Ok, Err}
use Rattle.journal_log.specs.cny-base.Count.{Rose}
use Rattle.journal_log.specs.cny-base.declared.refusal.Refusal.{Refusal}
use Rattle.journal_log.specs.cny-base.declared.stop.Stop.{Stop}
use Rattle.journal_log.specs.cny-base.declared.stop.Stop.TheVariants.{Refused, Memory, Failed, Damaged, FarFailed, FarDamaged}
use Rattle.journal_log.specs.tree-disk.Tree.{Name, Tree}
use Rattle.journal_log.specs.tree-disk.Disk.{DiskModel}
use Rattle.journal_log.specs.tree-disk.Confined.{Confined}

-- Why it stopped: a fault, or want of memory; or so refused.
abbrev pub StopsBefore : (Refusal → Type 0) → ℕ → ℕ → Stop → Type 0
StopsBefore refused before now Failed = Rose before now
StopsBefore refused before now Memory = Unit {0}
StopsBefore refused before now (Refused refusal) = refused refusal
StopsBefore refused before now (Damaged path) = ⊥
StopsBefore refused before now FarFailed = ⊥
StopsBefore refused before now (FarDamaged path) = ⊥

-- with a tree of which P holds, or so
abbrev pub EndsWith : Bool → (Refusal → Type 0) → Type 0 → Result Unit Stop → ℕ → ℕ → Type 0
EndsWith told refused P (Ok x) before now = IsTrue told → P
EndsWith told refused P (Err stop) before now = StopsBefore refused before now stop

-- A run of calls that leaves a tree of which P holds, or is so refused. However it ends, at every moment, it changes some of
-- these names alone.
pub record Prepares {D : Type 0} (disk : DiskModel D) (refused : Refusal → Type 0) (names : Name → Type 0) (P : Tree → Type 0) (old new : D) (result : Result Unit Stop) : Type 0 where
  pub later : disk.faults old ≤ disk.faults new
  pub ends : EndsWith disk.tells refused (P (disk.reads new)) result (disk.faults old) (disk.faults new)
  pub confined : IsTrue disk.tells → Confined disk names old new
