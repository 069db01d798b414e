-- A root on which jobs were taken back: a further command may begin.
use Rattle.std.proofs.Common.{◌≡◌, false, ℕ, List, ◌∷◌, length, ap}
use Rattle.std.specs.FinMap.{get}
use Rattle.rollback_stack.specs.cny-base.Reserved.{is_reserved}
use Rattle.rollback_stack.specs.journal-log.declared.put.Put.{Put}
use Rattle.rollback_stack.specs.tree-disk.Disk.{DiskModel, HasRead, IsDisk}
use Rattle.rollback_stack.specs.tree-disk.Tree.{Name, Tree}
use Rattle.local_db.specs.declared.db.Db.{Db}
use Rattle.local_db.specs.declared.format.Format.TheVariants.{Two}
use Rattle.local_db.specs.Stores.{IsDatabase}
use Rattle.local_db.proofs.cny-base.Lists.{contains_first}
use Rattle.rollback_stack.specs.Inverse.{no_records}
use Rattle.rollback_stack.specs.declared.undo.Back.{Back}
use Rattle.system_core.specs.FixedDirs.{fixed_dirs}
use Rattle.system_core.specs.Inserting.{put_of_db}
use Rattle.system_core.specs.Rollback.{MayRollBack}
use Rattle.system_core.specs.RootWriting.{IsPut}
use Rattle.system_core.specs.Several.{IsStepTo}
use Rattle.system_core.proofs.PuttingAll.{free, in_private}
use Rattle.system_core.proofs.Resting.{fixed_stay, put_holds}

module _ {D : Type 0} (disk : DiskModel D) (laws : IsDisk disk) (db : Db) (number : ℕ) (old mid new : D) (ready : MayRollBack disk db old) (step : Back) (run : HasRead disk old mid (IsStepTo (disk.reads old) db number step))
    (put : IsPut disk step.puts mid new) where
  abbrev is : IsStepTo (disk.reads old) db number step
  is = run.answer

  abbrev more : List Put
  more = put_of_db step.db ∷ no_records (length is.jobs) db.newest

  same : (q : Name) → is_reserved q ≡ false → get (disk.reads mid) q ≡ get (disk.reads old) q
  same q out = ap (λ (t : Tree). get t q) run.same.reads

  pub rolled_ready : IsDatabase Two step.db.installed step.db.oldest step.db.newest → MayRollBack disk step.db new
  rolled_ready rules = record {
    flag_clear = put.flag_clear;
    synced = put.synced;
    holds = put_holds step.puts is.nodes more is.writes mid new put step.db (contains_first (put_of_db step.db) (no_records (length is.jobs) db.newest)) rules;
  }

  pub rolled_fixed : fixed_dirs (disk.reads new) ≡ fixed_dirs (disk.reads old)
  rolled_fixed = fixed_stay step.puts is.nodes more is.writes mid new put (free (disk.reads old) db number step is (laws.reads_well_formed old) ready.holds)
      (in_private (disk.reads old) db number step is (laws.reads_well_formed old) ready.holds) old same
