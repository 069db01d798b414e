-- Counts that rose, and the moments of a single step.
use Rattle.std.specs.Prelude.{ℕ, ◌≤◌}
use Rattle.std.proofs.Common.{sym, subst, ⊎_elim, arith}
use Rattle.cny_base.specs.Count.{Rose}
use Rattle.tree_disk.specs.Tree.{Tree}
use Rattle.tree_disk.specs.Disk.{DiskModel, Shows, InOneStep}
use Rattle.tree_disk.specs.Moments.{shows_weaker}

-- ---- the count of faults

pub rose_later : (a b c : ℕ) → Rose a b → b ≤ c → Rose a c
rose_later a b c h le = omega (arith, h, le)

pub rose_before : (a b c : ℕ) → a ≤ b → Rose b c → Rose a c
rose_before a b c le h = omega (arith, h, le)

-- ---- what is read at each moment

module _ {D : Type 0} {disk : DiskModel D} where
  -- what the trees before and after a single step have, each tree has meanwhile
  pub shows_step : {old new : D} {P : Tree → Type 0} → InOneStep disk old new → P (disk.reads old) → P (disk.reads new) → Shows disk old new P
  shows_step {P = P} step before after = shows_weaker (λ t is. ⊎_elim (λ was. subst P (sym was) before) (λ now. subst P (sym now) after) is) step
