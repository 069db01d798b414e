-- From a system that a root stores to the next one, at every moment.
use Rattle.std.proofs.Common.{◌≡◌, inl, inr, ⊎_elim, ℕ, ◌≤◌, false, List, Result, sym, ◌∙◌, ap, subst}
use Rattle.std.specs.Prelude.{OnOk}
use Rattle.std.specs.FinMap.{get}
use Rattle.rollback_stack.specs.cny-base.Reserved.{private_directory, is_reserved}
use Rattle.rollback_stack.specs.cny-base.declared.stop.Stop.{Stop}
use Rattle.rollback_stack.specs.journal-log.declared.put.Put.{Put}
use Rattle.rollback_stack.specs.journal-log.Targets.{is_target}
use Rattle.rollback_stack.specs.tree-disk.Disk.{DiskModel, HasRead, IsDisk}
use Rattle.rollback_stack.specs.tree-disk.Confined.{LeavesOnly}
use Rattle.rollback_stack.proofs.tree-disk.ConfinedLaws.{confined_read, leaves_then, leaves_weaker}
use Rattle.rollback_stack.proofs.tree-disk.Laws.{same_tree}
use Rattle.rollback_stack.specs.tree-disk.Moments.{shows_weaker}
use Rattle.rollback_stack.specs.tree-disk.Tree.{Name, Tree}
use Rattle.rollback_stack.specs.tree-disk.Unfailed.{UnlessFailed}
use Rattle.rollback_stack.proofs.tree-disk.Unfailed.{unfailed_then}
use Rattle.tree_journal.specs.Recovery.{is_committed}
use Rattle.local_db.specs.declared.db.Db.{Db}
use Rattle.local_db.specs.Stores.{RecoversToSystem, StoresIn}
use Rattle.local_db.specs.SystemState.{SystemState, is_listed}
use Rattle.local_db.specs.declared.format.Format.TheVariants.{Two}
use Rattle.local_db.proofs.Together.{at_rest_stores}
use Rattle.system_core.specs.RootWriting.{TakesRoot, RestsInFormat, ShowsEither}
use Rattle.system_core.specs.Rollback.{MayRollBack, MovesSystem}

recovers : (x : Tree) (s : SystemState) → is_committed private_directory x ≡ false → StoresIn Two x s → RecoversToSystem x s
recovers x s clear stores = (at_rest_stores x s clear).1 (inr stores)

module _ {D : Type 0} (disk : DiskModel D) (laws : IsDisk disk) (s : SystemState) (db_old : Db) (old : D) (ready : MayRollBack disk db_old old) (stores : StoresIn Two (disk.reads old) s) where
  now : RecoversToSystem (disk.reads old) s
  now = recovers (disk.reads old) s ready.flag_clear stores

  module _ {A : Type 0} {mid : D} (run : HasRead disk old mid A) where
    -- a crash leaves a tree that recovers to the system
    read_images : LeavesOnly disk old mid (λ image. RecoversToSystem image s)
    read_images = leaves_weaker
        (λ image differs. subst (λ (y : Tree). RecoversToSystem y s) (sym (same_tree image (disk.reads old)
        (λ q. differs.agrees q (λ h. ⊎_elim (λ un. absurd (cc (un, ready.synced q))) (λ (never : ⊥). never) h)))) now)
        (confined_read laws (λ (q : Name). ⊥) run).images

    read_shows : (t : SystemState) → UnlessFailed disk old mid (ShowsEither s t)
    read_shows t none = shows_weaker (λ u is q out. inl (ap (λ (v : Tree). get v q) is ∙ stores.managed q out)) run.same.visible

    module _ (t : SystemState) (paths : List Name) where
      -- nothing was written
      pub still : (r : Result ℕ Stop) → OnOk r (RestsInFormat disk Two t mid) → MovesSystem disk s t paths old mid r
      still r rests = record {
        images = leaves_weaker (λ image h. inl h) read_images;
        reads = inl (subst (λ (y : Tree). RecoversToSystem y s) (sym run.same.reads) now);
        rests = rests;
        shown = read_shows t;
        others = λ q out other. ap (λ (v : Tree). get v q) run.same.reads;
      }

      -- the write set was put, or was to be put
      pub moved : (puts : List Put) (new : D) (w : Result (Unit {0}) Stop) → TakesRoot disk Two s t puts mid new w → disk.faults old ≤ disk.faults mid → disk.faults mid ≤ disk.faults new
          → ((q : Name) → is_reserved q ≡ false → is_listed paths q ≡ false → is_target puts q ≡ false)
          → (r : Result ℕ Stop) → OnOk r (RestsInFormat disk Two t new) → MovesSystem disk s t paths old new r
      moved puts new w goes early late outside r rests = record {
        images = leaves_then (leaves_weaker (λ image h. inl h) read_images) goes.images;
        reads = goes.reads;
        rests = rests;
        shown = unfailed_then early late (read_shows t) goes.shown;
        others = λ q out other. goes.others q out (outside q out other) ∙ ap (λ (v : Tree). get v q) run.same.reads;
      }
