-- A run that reads a root and then takes it from one system to another.
use Rattle.std.proofs.Common.{◌≡◌, inl, inr, ⊎_elim, ◌≤◌, false, List, Result, sym, ◌∙◌, ap, subst}
use Rattle.std.specs.FinMap.{get}
use Rattle.rollback_stack.specs.cny-base.Reserved.{private_directory}
use Rattle.rollback_stack.specs.cny-base.declared.stop.Stop.{Stop}
use Rattle.rollback_stack.specs.tree-disk.Tree.{Name, Tree}
use Rattle.rollback_stack.specs.tree-disk.Disk.{DiskModel, HasRead, IsDisk}
use Rattle.rollback_stack.specs.tree-disk.Confined.{Among, IsSynced, LeavesOnly}
use Rattle.rollback_stack.proofs.tree-disk.ConfinedLaws.{confined_read, confined_then, leaves_then, leaves_weaker}
use Rattle.rollback_stack.proofs.tree-disk.Laws.{same_tree}
use Rattle.rollback_stack.specs.tree-disk.Moments.{shows_weaker}
use Rattle.rollback_stack.specs.tree-disk.Unfailed.{UnlessFailed}
use Rattle.rollback_stack.proofs.tree-disk.Unfailed.{unfailed_then}
use Rattle.tree_journal.specs.Recovery.{is_committed}
use Rattle.rollback_stack.specs.journal-log.declared.put.Put.{Put}
use Rattle.local_db.specs.declared.format.Format.{Format}
use Rattle.local_db.specs.declared.format.Format.TheVariants.{Two}
use Rattle.local_db.specs.SystemState.{SystemState}
use Rattle.local_db.specs.Stores.{RecoversToSystem, StoresIn}
use Rattle.local_db.proofs.Together.{at_rest_stores}
use Rattle.system_core.specs.RootWriting.{TakesRoot, ShowsEither, is_private_or_target}

module _ {D : Type 0} {disk : DiskModel D} where
  module _ (laws : IsDisk disk) (s : SystemState) {old : D} (clear : is_committed private_directory (disk.reads old) ≡ false) (synced : IsSynced disk old) (stores : StoresIn Two (disk.reads old) s) where
    now : RecoversToSystem (disk.reads old) s
    now = (at_rest_stores (disk.reads old) s clear).1 (inr stores)

    module _ {A : Type 0} {mid : D} (read : HasRead disk old mid A) where
      -- a crash leaves a tree that recovers to the system
      read_images : LeavesOnly disk old mid (λ image. RecoversToSystem image s)
      read_images = leaves_weaker
          (λ image differs. subst (λ (y : Tree). RecoversToSystem y s) (sym (same_tree image (disk.reads old)
          (λ q. differs.agrees q (λ h. ⊎_elim (λ un. absurd (cc (un, synced q))) (λ (never : ⊥). never) h)))) now)
          (confined_read laws (λ (q : Name). ⊥) read).images

      read_shows : (t : SystemState) → UnlessFailed disk old mid (ShowsEither s t)
      read_shows t none = shows_weaker (λ u is q out. inl (ap (λ (v : Tree). get v q) is ∙ stores.managed q out)) read.same.visible

      -- reading in front changes nothing of it
      pub goes_behind : (g : Format) (t : SystemState) (puts : List Put) {new : D} {r : Result (Unit {0}) Stop} → disk.faults old ≤ disk.faults mid → disk.faults mid ≤ disk.faults new
          → TakesRoot disk g s t puts mid new r → TakesRoot disk g s t puts old new r
      goes_behind g t puts early late goes = record {
        images = leaves_then (leaves_weaker (λ image h. inl h) read_images) goes.images;
        rests = goes.rests;
        reads = goes.reads;
        shown = unfailed_then early late (read_shows t) goes.shown;
        others = λ q out other. goes.others q out other ∙ ap (λ (v : Tree). get v q) read.same.reads;
        confined = confined_then (confined_read laws (Among (is_private_or_target puts)) read) goes.confined;
      }
