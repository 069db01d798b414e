-- What follows of a disk at rest, and of a disk that recovers to a state.
use Rattle.std.proofs.Common.{◌≡◌, false, Result, refl, sym, ap, ◌∙◌, subst, inl, inr, ⊎_elim, arith}
use Rattle.std.specs.Prelude.{IsTrue}
use Rattle.cny_laws.specs.system-core.cny-base.declared.refusal.Refusal.{Refusal}
use Rattle.cny_laws.specs.system-core.tree-disk.Tree.{Name, Tree}
use Rattle.cny_laws.specs.system-core.tree-disk.Disk.{DiskModel, IsDisk, IsImageOf, HasRead}
use Rattle.cny_laws.specs.system-core.tree-disk.Confined.{IsSynced, LeavesOnly}
use Rattle.cny_laws.proofs.system-core.tree-disk.ConfinedLaws.{leaves_step}
use Rattle.cny_laws.specs.system-core.tree-disk.Moments.{same_images, same_start, time_start}
use Rattle.cny_laws.specs.system-core.journal-log.Own.{gate, StoresSame}
use Rattle.cny_laws.specs.system-core.tree-journal.Recovery.{is_flag, is_committed, RecoversTo, at_rest, by_log, RecoversAsThen}
use Rattle.cny_laws.specs.Opening.{IsOpen, MeetsDamage}
use Rattle.cny_laws.specs.system-core.tree-journal.Recovered.{IsKept}
use Rattle.cny_laws.specs.Store.{Store, IsStore, Recovers, IsEntryOr, HasDamagedFile, HasDamageAtOpening, IsSettled, RestsAt}
use Rattle.cny_laws.proofs.system-core.Opened.{never_damaged_log}

-- nothing was done
pub nothing_done : {D : Type 0} {disk : DiskModel D} → IsDisk disk → (d : D) → HasRead disk d d (Unit {0})
nothing_done {disk = disk} laws d = record { answer = tt; same = same_start disk d; time = time_start laws d }

-- what was at rest is so where it was only read
pub read_settled : {D A : Type 0} {disk : DiskModel D} {base : Name} {old new : D} → HasRead disk old new A → is_committed base (disk.reads old) ≡ false → IsSynced disk old → IsSettled disk base new
read_settled {base = base} read clear synced = record {
  flag_clear = ap (is_committed base) read.same.reads ∙ clear;
  synced = λ p. read.same.unsynced p ∙ synced p;
}

pub none_yet : {D : Type 0} {disk : DiskModel D} → IsDisk disk → (base : Name) (d : D) → LeavesOnly disk d d (RecoversAsThen disk base d)
none_yet laws base d = record {
  later = omega arith;
  each = λ image since. inl (laws.only_now d image since);
  before = λ k image le since. inl since;
  kept = λ k image le since. since;
}

-- ---- a disk that recovers to some tree has no log that can't be put, and none that is damaged

-- what recovers to all that a disk recovers to recovers to each of its states
pub as_state : {D X : Type 0} {store : Store X} (disk : DiskModel D) (d : D) (x : X) → Recovers store (disk.reads d) x → (image : Tree) → RecoversAsThen disk store.base d image → IsEntryOr store disk d x image
as_state disk d x rec image h = ⊎_elim
    (λ is. inl is)
    (λ all. inr (record { tree = rec.tree; recovers = all rec.tree rec.recovers; stored = rec.stored }))
    h

module _ {X : Type 0} {store : Store X} (laws : IsStore store) where
  pub same_stores : (t u : Tree) (x : X) → StoresSame store.base t u → store.IsStored t x → store.IsStored u x
  same_stores t u x same stored = laws.counted t u x stored (λ q counts. sym (same q (laws.own x q counts)))

  -- what is kept still recovers to the state
  pub kept_recovers : (old new : Tree) (x : X) → IsKept store.base old new → Recovers store old x → Recovers store new x
  kept_recovers old new x kept rec = record { tree = rec.tree; recovers = kept.still rec.tree rec.recovers; stored = rec.stored }

  -- what is found when the disk is opened is a damaged file
  found_damaged : (tree : Tree) (path : Name) → HasDamageAtOpening store tree path → HasDamagedFile store tree path
  found_damaged tree path file = record { flag_clear = file.flag_clear; damaged = laws.at_opening tree path file.damaged }

  -- nor a damaged file
  pub never_damaged_file : (tree : Tree) (path : Name) (x : X) → HasDamagedFile store tree path → Recovers store tree x → ⊥
  never_damaged_file tree path x file rec = by rec.recovers
    where
      by : RecoversTo store.base tree rec.tree → ⊥
      by (at_rest clear stores) = laws.whole tree path x file.damaged (same_stores rec.tree tree x (λ p out. sym (stores p out)) rec.stored)
      by (by_log set puts holds stand can stores) = let clear = file.flag_clear in absurd (cc (set, clear))

  pub never_damaged : {D : Type 0} (disk : DiskModel D) (old new : D) (path : Name) (x : X) → IsTrue disk.tells → MeetsDamage store disk old new path → Recovers store (disk.reads old) x → Recovers store (disk.reads new) x → ⊥
  never_damaged disk old new path x told meets before now = ⊎_elim
      (λ log. never_damaged_log log.damaged before.recovers)
      (λ file. never_damaged_file (disk.reads new) path x (found_damaged (disk.reads new) path file) now)
      (meets told)

  -- ---- a disk at rest

  module _ {D : Type 0} {disk : DiskModel D} where
    pub rest_image : (d : D) (x : X) → RestsAt store disk d x → (image : Tree) → IsImageOf disk d image → Recovers store image x
    rest_image d x rests image crash = record {
      tree = image;
      recovers = at_rest
          (ap is_flag (crash.synced (gate store.base) rests.resting.flag_synced) ∙ rests.resting.flag_clear)
          (λ p out. refl);
      stored = laws.counted (disk.reads d) image x rests.stored (λ q counts. crash.synced q (rests.settled q counts));
    }

    pub rest_reads : (d : D) (x : X) → RestsAt store disk d x → Recovers store (disk.reads d) x
    rest_reads d x rests = record { tree = disk.reads d; recovers = at_rest rests.resting.flag_clear (λ p out. refl); stored = rests.stored }

    pub rest_read_on : (old new : D) (x : X) → HasRead disk old new (Unit {0}) → RestsAt store disk old x → RestsAt store disk new x
    rest_read_on old new x read rests = record {
      resting = record {
        flag_clear = ap (is_committed store.base) read.same.reads ∙ rests.resting.flag_clear;
        flag_synced = read.same.unsynced (gate store.base) ∙ rests.resting.flag_synced;
      };
      settled = λ q counts. read.same.unsynced q ∙ rests.settled q counts;
      stored = subst (λ (t : Tree). store.IsStored t x) (sym read.same.reads) rests.stored;
    }

    -- while it is only read, a crash leaves a tree that recovers to its state
    pub rest_lives : IsDisk disk → (old new : D) (x : X) → HasRead disk old new (Unit {0}) → RestsAt store disk old x → LeavesOnly disk old new (λ image. Recovers store image x)
    rest_lives disk_laws old new x read rests = leaves_step disk_laws read.time
        (λ image crash. rest_image old x rests image crash)
        (λ image crash. rest_image old x rests image (same_images read.same image crash))

    pub settled_rests : (d : D) (x : X) → IsSettled disk store.base d → store.IsStored (disk.reads d) x → RestsAt store disk d x
    settled_rests d x settled stored = record {
      resting = record { flag_clear = settled.flag_clear; flag_synced = settled.synced (gate store.base) };
      settled = λ q counts. settled.synced q;
      stored = stored;
    }

    -- a disk that was opened rests at each state to which it recovered
    pub opened_rests : {V : Type 0} {tests : Tree → Result (Unit {0}) Refusal} {IsRead : Tree → V → Type 0} (old new : D) (value : V) (x : X) → IsOpen store disk tests IsRead old new value → Recovers store (disk.reads old) x → RestsAt store disk new x
    opened_rests old new value x is_open rec = settled_rests new x is_open.settled
        (same_stores rec.tree (disk.reads new) x (λ p out. sym (is_open.stores rec.tree rec.recovers p out)) rec.stored)
