-- What staged contents leave of a root.
use Rattle.std.proofs.Common.{◌≡◌, ⊎_elim, true, false, not, []}
use Rattle.std.proofs.lemmas.Bool.{cases_Bool}
use Rattle.std.specs.FinMap.{get}
use Rattle.trove_stream.specs.cny-base.Reserved.{is_reserved, private_directory}
use Rattle.tree_journal.specs.tree-disk.Tree.{Name, Tree, same_name}
use Rattle.tree_journal.specs.tree-disk.Clear.{is_within}
use Rattle.tree_journal.specs.tree-disk.Disk.{DiskModel, IsDisk}
use Rattle.tree_journal.specs.tree-disk.Confined.{Among, Confined, LeavesOnly}
use Rattle.tree_journal.specs.tree-disk.Steps.{no_name}
use Rattle.trove_stream.proofs.cny-base.Bools.{or_left, or_right}
use Rattle.tree_journal.proofs.tree-disk.Laws.{same_itself}
use Rattle.tree_journal.proofs.tree-disk.ClearLaws.{or_cases}
use Rattle.tree_journal.proofs.tree-disk.ConfinedLaws.{confined_start, false_from_not}
use Rattle.tree_journal.specs.journal-log.Own.{is_own, staged}
use Rattle.tree_journal.specs.Apply.{IsAsBefore}
use Rattle.tree_journal.specs.EmptyStage.{is_stage_name, CanEmptyStage}
use Rattle.tree_journal.proofs.Applying.{before_sync}
use Rattle.tree_journal.proofs.OwnNames.{base_own, in_staged}
use Rattle.local_db.specs.Names.{database}
use Rattle.local_db.proofs.FileNames.{base_is_path}
use Rattle.local_db.proofs.Frame.{database_stays, stores_still}
use Rattle.local_db.proofs.Places.{own_doesnt_count}
use Rattle.local_db.specs.Stage.{KeepsSystem}

-- ---- the names of the stage

stage_own : (q : Name) → is_stage_name private_directory q ≡ true → is_own private_directory q ≡ true
stage_own q h = ⊎_elim (base_own private_directory q) (in_staged private_directory q) (or_cases (same_name q private_directory) (is_within (staged private_directory) q) h)

out_of_stage : (q : Name) → is_own private_directory q ≡ false → is_stage_name private_directory q ≡ false
out_of_stage q out = ⊎_elim (λ is. absurd (cc (stage_own q is, out))) (λ h. h) (cases_Bool (is_stage_name private_directory q))

-- the database isn't one of them
database_not_own : Tree → is_own private_directory database ≡ false
database_not_own x = own_doesnt_count (record { tree = x; installed = []; stack = [] }) database
    (or_right (not (is_reserved database)) _ (or_left _ false (same_itself database)))

-- ---- what stays

module _ {D : Type 0} {disk : DiskModel D} {old new : D} (run : Confined disk (Among (is_stage_name private_directory)) old new) where
  kept : (q : Name) → is_own private_directory q ≡ false → get (disk.reads new) q ≡ get (disk.reads old) q
  kept q out = run.reads q (λ is. absurd (cc (is, out_of_stage q out)))

  -- while only names of the stage change, the root stores what it stored
  pub stage_keeps : KeepsSystem disk old new
  stage_keeps = record {
    stores = λ f s h. stores_still f (disk.reads old) (disk.reads new) s (λ q is. kept q (own_doesnt_count s q is)) h;
    holds = λ f db h. database_stays f (disk.reads old) (disk.reads new) db.installed db.oldest db.newest (kept database (database_not_own (disk.reads old))) h;
    settled = λ s settled q is. false_from_not (disk.unsynced new q) (λ unsynced. ⊎_elim
        (λ was. absurd (cc (settled q is, was)))
        (λ among. absurd (cc (among, out_of_stage q (own_doesnt_count s q is))))
        (run.unsynced q unsynced));
  }

-- nothing was done yet
pub nothing_staged : {D : Type 0} {disk : DiskModel D} (laws : IsDisk disk) (d : D) → CanEmptyStage disk private_directory d → LeavesOnly disk d d (IsAsBefore disk private_directory d)
nothing_staged {disk = disk} laws d can = before_sync disk laws private_directory base_is_path d (record { flag_clear = can.flag_clear; flag_synced = can.flag_synced }) d (confined_start laws (Among no_name) d)
