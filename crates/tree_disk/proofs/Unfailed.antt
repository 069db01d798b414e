-- Runs in which no call failed, one after another.
use Rattle.std.specs.Prelude.{◌≤◌}
use Rattle.tree_disk.specs.Tree.{Name, Tree}
use Rattle.tree_disk.specs.Disk.{DiskModel}
use Rattle.tree_disk.specs.Moments.{shows_start, shows_weaker, shows_then}
use Rattle.tree_disk.proofs.Moments.{rose_later, rose_before}
use Rattle.tree_disk.specs.Confined.{AgreesExcept, Confined}
use Rattle.tree_disk.specs.Unfailed.{UnlessFailed}

module _ {D : Type 0} {disk : DiskModel D} where
  -- nothing has happened yet
  pub unfailed_start : (d : D) (P : Tree → Type 0) → UnlessFailed disk d d P
  unfailed_start d P none = shows_start d P

  -- it may say less
  pub unfailed_weaker : {old new : D} {P Q : Tree → Type 0} → ((t : Tree) → P t → Q t) → UnlessFailed disk old new P → UnlessFailed disk old new Q
  unfailed_weaker weaker run none = shows_weaker weaker (run none)

  -- one run after another
  pub unfailed_then : {old mid new : D} {P : Tree → Type 0} → disk.faults old ≤ disk.faults mid → disk.faults mid ≤ disk.faults new
      → UnlessFailed disk old mid P → UnlessFailed disk mid new P → UnlessFailed disk old new P
  unfailed_then {old = old} {mid = mid} {new = new} early late first then none =
      shows_then (first (λ rose. none (rose_later (disk.faults old) (disk.faults mid) (disk.faults new) rose late)))
      (then (λ rose. none (rose_before (disk.faults old) (disk.faults mid) (disk.faults new) early rose)))

  -- a run that keeps to some names shows all others as they were, whether or not a call failed
  pub unfailed_confined : {names : Name → Type 0} {old new : D} {P : Tree → Type 0} → Confined disk names old new
      → ((t : Tree) → AgreesExcept names t (disk.reads old) → P t) → UnlessFailed disk old new P
  unfailed_confined run so none = shows_weaker so run.visible
