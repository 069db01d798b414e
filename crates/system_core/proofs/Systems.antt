-- A root made ready, by the systems to which it recovers.
use Rattle.std.proofs.Common.{◌≡◌, inl, inr, ⊎_elim, IsTrue, List, Option, Some, None, Result, Ok, Err, subst}
use Rattle.std.specs.Prelude.{IfErr, IfOk, OnOk}
use Rattle.std.specs.FinMap.{get}
use Rattle.rollback_stack.specs.cny-base.Reserved.{private_directory, is_reserved}
use Rattle.rollback_stack.specs.cny-base.declared.node.Node.{Node}
use Rattle.rollback_stack.specs.cny-base.declared.stop.Stop.{Stop}
use Rattle.rollback_stack.specs.cny-base.declared.stop.Stop.TheVariants as stop
use Rattle.rollback_stack.specs.journal-log.declared.put.Put.{Put}
use Rattle.rollback_stack.specs.journal-log.Own.{StoresSame}
use Rattle.rollback_stack.specs.journal-log.Targets.{with_targets}
use Rattle.rollback_stack.proofs.tree-disk.ConfinedLaws.{leaves_weaker}
use Rattle.rollback_stack.specs.tree-disk.Disk.{DiskModel}
use Rattle.rollback_stack.specs.tree-disk.Tree.{Name, Tree, AgreesOutside}
use Rattle.rollback_stack.proofs.tree-disk.Unfailed.{unfailed_weaker}
use Rattle.tree_journal.specs.Recovery.{RecoversTo}
use Rattle.tree_journal.specs.Visible.{ShowsNode}
use Rattle.local_db.specs.Loading.{HoldsDb}
use Rattle.local_db.specs.declared.db.Db.{Db}
use Rattle.local_db.specs.Steps.{IsMigration}
use Rattle.local_db.specs.Stores.{HoldsDatabase, RecoversToSystem, StoresIn, StoresSystem}
use Rattle.local_db.specs.SystemState.{SystemState, newest, oldest}
use Rattle.local_db.specs.declared.format.Format.{Format}
use Rattle.local_db.specs.declared.format.Format.TheVariants.{One, Two}
use Rattle.local_db.proofs.Frame.{stores_still}
use Rattle.local_db.proofs.Places.{own_doesnt_count}
use Rattle.system_core.specs.RootWriting.{RestsInFormat}
use Rattle.rollback_stack.specs.Migrated.{IsMigrated}
use Rattle.system_core.specs.Migrating.{IsBrought, IsDamagedStore, RecoversInAFormat, with_migration}
use Rattle.system_core.specs.Ready.{EndsReady, HasReadied, IsReadyStop, MakesReady, Readies, ShowsOnTheWay}
use Rattle.system_core.proofs.Migration.{OneRecord, in_one, in_two, is_migration, none_damaged}
use Rattle.system_core.proofs.Opened.{never_blocked, never_damaged_log}
use Rattle.system_core.proofs.Held.{OneDatabase, one_held}
use Rattle.system_core.specs.Job.{db_of}

abbrev pub KeepsSystem : Type 0
KeepsSystem = (x : Tree) (s : SystemState) (all : List Put) → StoresIn One x s → IsMigration s all → StoresIn Two (with_targets all x) s

-- ---- what a system tells

pub managed_so : (x : Tree) (s : SystemState) → StoresSystem x s → AgreesOutside is_reserved x s.tree
managed_so x s (inl one) = one.managed
managed_so x s (inr two) = two.managed

list_so : (x : Tree) (s : SystemState) → StoresSystem x s → (f : Format) × HoldsDatabase f x s.installed (oldest s.stack) (newest s.stack)
list_so x s (inl one) = (One, one.list)
list_so x s (inr two) = (Two, two.list)

-- a tree holds one database, in whichever format
one_db_held : OneDatabase → (x : Tree) (a b : Db) → HoldsDb x a → HoldsDb x b → a ≡ b
one_db_held one x a b held other =
    let same = one_held one x a.installed b.installed a.oldest a.newest b.oldest b.newest held.holds other.holds in
    let l = same.lists in let o = same.lows in let n = same.highs in
    λ i. record { installed = l i; oldest = o i; newest = n i }

module _ (one_db : OneDatabase) (one_record : OneRecord) (keeps : KeepsSystem) where
  -- a tree that was brought to format 2 stores the same system
  brought_stores : (x y : Tree) (s : SystemState) → StoresSystem x s → IsBrought x y → StoresIn Two y s
  brought_stores x y s stores brought = by brought.found brought.migrated brought.stores
    where
      by : (found : Option (List Put)) → IsMigrated x found → StoresSame private_directory y (with_migration found x) → StoresIn Two y s
      by None new same = stores_still Two x y s (λ q counted. same q (own_doesnt_count s q counted)) (in_two x s new stores)
      by (Some puts) m same =
          let one = in_one x s m.0 stores in
          stores_still Two (with_targets puts x) y s (λ q counted. same q (own_doesnt_count s q counted))
          (keeps x s puts one (is_migration one_db one_record x puts s m.0 m.1 one))

  -- so does each tree that recovers to one of them
  still_recovers : (image x : Tree) (s : SystemState) → StoresSystem x s → RecoversInAFormat x image → RecoversToSystem image s
  still_recovers image x s stores (inl is) = (x, is, stores)
  still_recovers image x s stores (inr is) = (is.0, is.2, inr (brought_stores x is.0 s stores is.1))

  nothing_damaged : (x : Tree) (s : SystemState) (path : Name) → StoresSystem x s → IsDamagedStore x path → ⊥
  nothing_damaged x s path stores (inl file) = none_damaged one_db one_record x s path stores file
  nothing_damaged x s path stores (inr none) = let list = list_so x s stores in none.1 list.0 s.installed (oldest s.stack) (newest s.stack) list.1

  module _ {D : Type 0} (disk : DiskModel D) (tells : IsTrue disk.tells) (old new : D) (s : SystemState) (x : Tree) (to : RecoversTo private_directory (disk.reads old) x) (stores : StoresSystem x s) where
    ends_so : (r : Result Db Stop) → IfOk r (HasReadied disk old new) → IfErr r (IsReadyStop disk old new) → EndsReady s (disk.reads old) r
    ends_so (Ok db) readied stops =
        let list = list_so x s stores in
        one_db_held one_db x db (db_of s) (readied.readied x to).held (record { format = list.0; holds = list.1 })
    ends_so (Err stop.Failed) readied stops = tt
    ends_so (Err stop.Memory) readied stops = tt
    ends_so (Err (stop.Refused why)) readied stops = ⊎_elim (λ fixed. fixed) (λ log. absurd (never_blocked log to)) (stops.1 tells).cause
    ends_so (Err (stop.Damaged path)) readied stops = ⊎_elim
        (λ log. never_damaged_log log.damaged to)
        (λ store. nothing_damaged x s path stores (store.damaged x to))
        (stops tells)
    ends_so (Err stop.FarFailed) readied stops = stops
    ends_so (Err (stop.FarDamaged path)) readied stops = stops

    rests_so : (r : Result Db Stop) → IfOk r (HasReadied disk old new) → OnOk r (RestsInFormat disk Two s new)
    rests_so (Err e) readied = tt
    rests_so (Ok db) readied = record {
      flag_clear = readied.ready.flag_clear;
      synced = readied.ready.synced;
      stores = brought_stores x (disk.reads new) s stores (readied.readied x to).brought;
    }

    shows_so : (t : Tree) → ((y : Tree) → RecoversTo private_directory (disk.reads old) y → ShowsOnTheWay (disk.reads old) y t) → ShowsOnTheWay (disk.reads old) s.tree t
    shows_so t is q out = subst (λ (n : Option Node). ShowsNode (get (disk.reads old) q) n (get t q)) (managed_so x s stores q out) (is x to q out)

  pub makes_so : {D : Type 0} (disk : DiskModel D) (old new : D) (r : Result Db Stop) → Readies disk old new r → IsTrue disk.tells → (s : SystemState) → RecoversToSystem (disk.reads old) s → MakesReady disk s old new r
  makes_so disk old new r readies tells s recovers =
      let x = recovers.0 in
      let to = recovers.1 in
      let stores = recovers.2 in
      record {
        ends = ends_so disk tells old new s x to stores r (readies.readied tells) readies.stops;
        images = leaves_weaker (λ image is. ⊎_elim (λ entry. inl entry) (λ all. inr (still_recovers image x s stores (all x to))) is) (readies.images tells);
        reads = still_recovers (disk.reads new) x s stores (readies.reads tells x to);
        rests = rests_so disk tells old new s x to stores r (readies.readied tells);
        shown = unfailed_weaker (shows_so disk tells old new s x to stores) (readies.shown tells);
      }
