-- A root at rest that is brought to format 2.
use Rattle.std.proofs.Common.{◌≡◌, inl, inr, ⊎_elim, ◌≤◌, true, false, IsTrue, List, Option, Some, None, Result, Ok, Err, All, refl, sym, ◌∙◌, ap, subst}
use Rattle.std.specs.Prelude.{OnOk, IfErr, IsErrOf}
use Rattle.std.specs.FinMap.{get}
use Rattle.rollback_stack.specs.cny-base.Count.{Rose}
use Rattle.rollback_stack.specs.cny-base.Reserved.{private_directory, is_reserved}
use Rattle.rollback_stack.specs.cny-base.declared.node.Node.{Node}
use Rattle.rollback_stack.specs.cny-base.declared.node.Node.TheVariants as node
use Rattle.rollback_stack.specs.cny-base.declared.stop.Stop.{Stop}
use Rattle.rollback_stack.specs.cny-base.declared.stop.Stop.TheVariants as stop
use Rattle.rollback_stack.specs.journal-log.declared.put.Put.{Put}
use Rattle.rollback_stack.specs.journal-log.Own.{StoresSame, gate, is_own}
use Rattle.rollback_stack.specs.journal-log.Targets.{is_target, node_of, with_targets}
use Rattle.rollback_stack.specs.tree-disk.Disk.{DiskModel, Elapses, HasRead, IsDisk, IsImageOf, Unchanged}
use Rattle.rollback_stack.proofs.tree-disk.ClearLaws.{or_cases}
use Rattle.rollback_stack.specs.tree-disk.Confined.{LeavesOnly}
use Rattle.rollback_stack.proofs.tree-disk.ConfinedLaws.{leaves_step, leaves_then, leaves_weaker}
use Rattle.rollback_stack.specs.tree-disk.Moments.{same_images}
use Rattle.rollback_stack.proofs.tree-disk.Moments.{rose_before}
use Rattle.rollback_stack.specs.tree-disk.Steps.{IsDiskStop}
use Rattle.rollback_stack.specs.tree-disk.Tree.{Tree, AgreesOutside, may_stand}
use Rattle.rollback_stack.specs.tree-disk.Unfailed.{UnlessFailed}
use Rattle.rollback_stack.proofs.tree-disk.Unfailed.{unfailed_then, unfailed_weaker}
use Rattle.tree_journal.specs.Recovery.{RecoversTo, at_rest, is_committed, is_flag}
use Rattle.tree_journal.specs.Visible.{IsVisible, ShowsNode, differ_in_kind}
use Rattle.local_db.specs.Names.{database}
use Rattle.rollback_stack.specs.JobReading.{IsReadStop}
use Rattle.rollback_stack.proofs.Later.{read_as, read_stop_then}
use Rattle.system_core.specs.RootWriting.{CanWrite, IsPut, PutsOnRoot}
use Rattle.rollback_stack.specs.Migrated.{AreMigration, IsDamagedFile, is_up_to_date}
use Rattle.system_core.specs.Migrating.{HasMigrated, IsBrought, IsMigratingStop, Migrates, RecoversInAFormat}
use Rattle.system_core.specs.Opening.{IsSettledRoot}
use Rattle.system_core.proofs.Migration.{can_write, not_outer}
use Rattle.system_core.proofs.Opened.{read_shown}
use Rattle.system_core.proofs.Sameness.{not_own, same_recovers}
use Rattle.tree_journal.proofs.WriteSets.{with_targets_outside}

-- ---- a root at rest

module _ {D : Type 0} {disk : DiskModel D} where
  -- a crash leaves just what it reads
  pub rest_image : (d : D) → IsSettledRoot disk d → (image : Tree) → IsImageOf disk d image → RecoversTo private_directory image (disk.reads d)
  rest_image d rests image crash = at_rest (ap is_flag (crash.synced (gate private_directory) (rests.synced (gate private_directory))) ∙ rests.flag_clear) (λ q out. crash.synced q (rests.synced q))

  pub rest_reads : (d : D) → IsSettledRoot disk d → RecoversTo private_directory (disk.reads d) (disk.reads d)
  rest_reads d rests = at_rest rests.flag_clear (λ q out. refl)

  pub rest_read : {A : Type 0} (old new : D) → HasRead disk old new A → IsSettledRoot disk old → IsSettledRoot disk new
  rest_read old new read rests = record {
    flag_clear = ap (is_committed private_directory) read.same.reads ∙ rests.flag_clear;
    synced = λ q. read.same.unsynced q ∙ rests.synced q;
  }

  module _ (laws : IsDisk disk) where
    -- while it is only read
    pub rest_leaves : {A : Type 0} (P : Tree → Type 0) (old new : D) → HasRead disk old new A → IsSettledRoot disk old → ((image : Tree) → RecoversTo private_directory image (disk.reads old) → P image) → LeavesOnly disk old new P
    rest_leaves P old new read rests so = leaves_step laws read.time
        (λ image is. so image (rest_image old rests image is))
        (λ image is. so image (rest_image old rests image (same_images read.same image is)))

    pub rest_shows : {A : Type 0} (x : Tree) (old new : D) → HasRead disk old new A → AgreesOutside is_reserved (disk.reads old) x → UnlessFailed disk old new (λ t. AgreesOutside is_reserved t x)
    rest_shows x old new read outer = unfailed_weaker (λ t is q out. ap (λ (u : Tree). get u q) is ∙ outer q out) (read_shown laws read)

-- ---- it was only read

pub read_only : {D : Type 0} {disk : DiskModel D} {old new : D} → Unchanged disk old new → Elapses disk old new → HasRead disk old new (Unit {0})
read_only same time = record { answer = tt; same = same; time = time }

-- one node, seen between itself and itself
one_kind : (n : Option Node) → differ_in_kind n n ≡ false
one_kind None = refl
one_kind (Some (node.Dir mode)) = refl
one_kind (Some (node.File mode bytes)) = refl
one_kind (Some (node.Link target)) = refl

shown_itself : (n shown : Option Node) → ShowsNode n n shown → shown ≡ n
shown_itself n shown (inl is) = is
shown_itself n shown (inr (inl is)) = is
shown_itself n shown (inr (inr is)) = let one = one_kind n in let other = is.1 in absurd (cc (one, other))

-- why there are no writes
pub migrated_stops : {D : Type 0} (disk : DiskModel D) (old mid : D) (e : Stop) → IsReadStop disk.tells (IsDamagedFile (disk.reads old)) (Rose (disk.faults old) (disk.faults mid)) e → (IsTrue disk.tells → HasRead disk old mid (Unit {0})) → IsMigratingStop disk old mid e
migrated_stops disk old mid e is read =
    let rose = Rose (disk.faults old) (disk.faults mid) in
    read_stop_then disk.tells (IsDamagedFile (disk.reads old)) (λ path. HasRead disk old mid (IsDamagedFile (disk.reads old) path)) rose rose e (λ tells path damaged. read_as (read tells) damaged) (λ r. r) is

module _ {D : Type 0} {disk : DiskModel D} (laws : IsDisk disk) (old mid : D) (rests : IsSettledRoot disk old) where
  module _ (read : HasRead disk old mid (Unit {0})) where
    pub migrates_read : (result : Result (Unit {0}) Stop) → OnOk result (HasMigrated disk old mid) → Migrates disk old mid result
    migrates_read result migrated = record {
      images = rest_leaves laws (RecoversInAFormat (disk.reads old)) old mid read rests (λ image is. inl is);
      reads = inl (subst (λ (t : Tree). RecoversTo private_directory t (disk.reads old)) (sym read.same.reads) (rest_reads old rests));
      shown = rest_shows laws (disk.reads old) old mid read (λ q out. refl);
      outer = λ q out. ap (λ (u : Tree). get u q) read.same.reads;
      migrated = migrated;
      clear = λ new. read;
    }

    -- it was up to date
    pub was_new : is_up_to_date (get (disk.reads old) database) ≡ true → HasMigrated disk old mid
    was_new new = record {
      rests = rest_read old mid read rests;
      brought = record { found = None; migrated = new; stores = λ q out. ap (λ (u : Tree). get u q) read.same.reads };
    }

    -- ---- its writes were put

    module _ (puts : List Put) (date : is_up_to_date (get (disk.reads old) database) ≡ false) (m : AreMigration (disk.reads old) puts)
        (nodes : All (λ (p : Put). IsTrue (may_stand (node_of p.want))) puts) where
      pub may_write : CanWrite disk puts mid
      may_write = can_write (disk.reads old) puts date m (laws.reads_well_formed old) nodes disk old mid rests read.same.reads read.same.unsynced refl

      abbrev goal : Tree
      goal = with_targets puts (disk.reads old)

      goal_is : with_targets puts (disk.reads mid) ≡ goal
      goal_is = ap (with_targets puts) read.same.reads

      brought_to : (y : Tree) → StoresSame private_directory y goal → IsBrought (disk.reads old) y
      brought_to y stores = record { found = Some puts; migrated = (date, m); stores = stores }

      module _ (new : D) (writes : PutsOnRoot disk puts mid new) where
        done : (image : Tree) → RecoversTo private_directory image (with_targets puts (disk.reads mid)) → RecoversInAFormat (disk.reads old) image
        done image to = inr (goal, brought_to goal (λ q out. refl), subst (RecoversTo private_directory image) goal_is to)

        before : (image : Tree) → RecoversTo private_directory image (disk.reads mid) → RecoversInAFormat (disk.reads old) image
        before image to = inl (subst (RecoversTo private_directory image) read.same.reads to)

        shows : (t : Tree) → IsVisible private_directory (disk.reads mid) (with_targets puts (disk.reads mid)) t → AgreesOutside is_reserved t (disk.reads old)
        shows t is q out =
            let here : get (disk.reads mid) q ≡ get (disk.reads old) q = ap (λ (u : Tree). get u q) read.same.reads in
            let there : get (with_targets puts (disk.reads mid)) q ≡ get (disk.reads old) q =
            ap (λ (u : Tree). get u q) goal_is ∙ with_targets_outside puts (disk.reads old) q (not_outer (disk.reads old) puts date m q out) in
            shown_itself (get (disk.reads old) q) (get t q)
            (subst (λ (n : Option Node). ShowsNode (get (disk.reads old) q) n (get t q)) there
            (subst (λ (n : Option Node). ShowsNode n (get (with_targets puts (disk.reads mid)) q) (get t q)) here (is q (not_own q out))))

        -- neither the journal's own names nor those that are written are outside the private directory
        outer_stays : AgreesOutside is_reserved (disk.reads new) (disk.reads old)
        outer_stays q out =
            let own = not_own q out in
            let target = not_outer (disk.reads old) puts date m q out in
            writes.confined.reads q (λ among. ⊎_elim (λ is. cc (is, own)) (λ is. cc (is, target)) (or_cases (is_own private_directory q) (is_target puts q) among))
            ∙ ap (λ (u : Tree). get u q) read.same.reads

        pub was_written : IsPut disk puts mid new → HasMigrated disk old new
        was_written put = record {
          rests = record { flag_clear = put.flag_clear; synced = put.synced };
          brought = brought_to (disk.reads new) (λ q out. put.stores q out ∙ ap (λ (u : Tree). get u q) goal_is);
        }

        pub migrates_written : disk.faults old ≤ disk.faults mid → disk.faults mid ≤ disk.faults new → (result : Result (Unit {0}) Stop) → OnOk result (HasMigrated disk old new) → Migrates disk old new result
        migrates_written early late result migrated = record {
          images = leaves_then
              (rest_leaves laws (RecoversInAFormat (disk.reads old)) old mid read rests (λ image is. inl is))
              (leaves_weaker
              (λ image is. ⊎_elim
              (λ entry. before image (same_recovers image entry.0 (disk.reads mid) (λ q out. entry.1.synced q ((rest_read old mid read rests).synced q)) entry.2))
              (done image) is)
              writes.images);
          reads = ⊎_elim (before (disk.reads new)) (done (disk.reads new)) writes.reads;
          shown = unfailed_then early late (rest_shows laws (disk.reads old) old mid read (λ q out. refl)) (unfailed_weaker shows writes.shown);
          outer = outer_stays;
          migrated = migrated;
          clear = λ up. absurd (cc (up, date));
        }

-- why they weren't put
written_stops : {D : Type 0} (disk : DiskModel D) (old mid new : D) → disk.faults old ≤ disk.faults mid → (e : Stop) → IsDiskStop e → (e ≡ stop.Failed → Rose (disk.faults mid) (disk.faults new)) → IsMigratingStop disk old new e
written_stops disk old mid new early stop.Failed is failed = rose_before (disk.faults old) (disk.faults mid) (disk.faults new) early (failed refl)
written_stops disk old mid new early stop.Memory is failed = tt
written_stops disk old mid new early (stop.Refused why) is failed = is
written_stops disk old mid new early (stop.Damaged path) is failed = absurd is
written_stops disk old mid new early stop.FarFailed is failed = is
written_stops disk old mid new early (stop.FarDamaged path) is failed = is

pub written_stop : {D : Type 0} (disk : DiskModel D) (old mid new : D) → disk.faults old ≤ disk.faults mid → (result : Result (Unit {0}) Stop) → IfErr result IsDiskStop → (IsErrOf result stop.Failed → Rose (disk.faults mid) (disk.faults new)) → IfErr result (IsMigratingStop disk old new)
written_stop disk old mid new early (Ok done) is failed = tt
written_stop disk old mid new early (Err e) is failed = written_stops disk old mid new early e is (λ same. failed (ap Err same))

pub on_ok : {P Q : Type 0} (result : Result (Unit {0}) Stop) → (P → Q) → OnOk result P → OnOk result Q
on_ok (Ok done) to p = to p
on_ok (Err e) to p = tt
