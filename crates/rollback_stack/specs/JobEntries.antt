-- The paths that a job changed, as its record has them.
use Rattle.std.specs.Prelude.{◌≡◌}
use Rattle.tree_scan.specs.declared.mark.Mark.TheVariants.{Nothing}
use Rattle.local_db.specs.SystemState.{IsFree}
use Rattle.local_db.specs.Record as state

-- a job may change the path, and something stood there before or after it
pub record IsChange (e : state.Entry) : Type 0 where
  pub free : IsFree e.path
  pub something : (e.was ≡ Nothing) × (e.now ≡ Nothing) → ⊥
