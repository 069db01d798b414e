-- What staged contents leave of a repository.
use Rattle.std.proofs.Common.{◌≡◌, ⊎_elim, true, false, refl, sym, ◌∙◌, ap, subst}
use Rattle.std.proofs.lemmas.Bool.{cases_Bool}
use Rattle.repo_load.specs.tree-disk.Tree.{Name, same_name}
use Rattle.repo_load.specs.tree-disk.Clear.{is_within}
use Rattle.repo_load.proofs.tree-disk.ClearLaws.{or_cases}
use Rattle.repo_load.specs.tree-disk.Disk.{DiskModel, IsDisk}
use Rattle.repo_load.specs.tree-disk.Confined.{Among, Confined, LeavesOnly}
use Rattle.repo_load.proofs.tree-disk.ConfinedLaws.{confined_start, false_from_not}
use Rattle.repo_load.specs.journal-log.Own.{gate, is_own, staged, StoresSame}
use Rattle.tree_journal.specs.EmptyStage.{is_stage_name, CanEmptyStage}
use Rattle.tree_journal.specs.Apply.{IsAsBefore}
use Rattle.tree_journal.specs.Recovery.{is_flag}
use Rattle.tree_journal.proofs.Applying.{before_sync}
use Rattle.tree_journal.proofs.OwnNames.{base_own, in_staged}
use Rattle.repo_load.specs.Files.{repository_base}
use Rattle.repo_load.specs.tree-disk.Steps.{no_name}
use Rattle.repo_load.proofs.FileNames.{base_is_path}
use Rattle.repo_load.proofs.CountedNames.{counted_not_own}
use Rattle.repo_load.proofs.HeldCatalogues.{same_catalogue, same_state}
use Rattle.repository.specs.Stage.{KeepsRepository, MayStage}

-- ---- the names of the stage

stage_own : (q : Name) → is_stage_name repository_base q ≡ true → is_own repository_base q ≡ true
stage_own q h = ⊎_elim (base_own repository_base q) (in_staged repository_base q) (or_cases (same_name q repository_base) (is_within (staged repository_base) q) h)

out_of_stage : (q : Name) → is_own repository_base q ≡ false → is_stage_name repository_base q ≡ false
out_of_stage q out = ⊎_elim (λ is. absurd (cc (stage_own q is, out))) (λ h. h) (cases_Bool (is_stage_name repository_base q))

gate_not_stage : is_stage_name repository_base (gate repository_base) ≡ false
gate_not_stage = refl

-- ---- what stays

module _ {D : Type 0} {disk : DiskModel D} {old new : D} (run : Confined disk (Among (is_stage_name repository_base)) old new) where
  same : StoresSame repository_base (disk.reads old) (disk.reads new)
  same q out = sym (run.reads q (λ is. absurd (cc (is, out_of_stage q out))))

  synced : (q : Name) → is_stage_name repository_base q ≡ false → disk.unsynced old q ≡ false → disk.unsynced new q ≡ false
  synced q out none = false_from_not (disk.unsynced new q) (λ is. ⊎_elim (λ was. absurd (cc (none, was))) (λ among. absurd (cc (among, out))) (run.unsynced q is))

  -- while only names of the stage change, the disk stores what it stored
  pub stage_keeps : KeepsRepository disk old new
  stage_keeps = record {
    stores = λ r h. same_state (disk.reads old) (disk.reads new) same r h;
    rests = λ c may. record {
      holds = same_catalogue (disk.reads old) (disk.reads new) same c may.holds;
      flag_clear = ap is_flag (run.reads (gate repository_base) (λ is. absurd (cc (is, gate_not_stage)))) ∙ may.flag_clear;
      flag_synced = synced (gate repository_base) gate_not_stage may.flag_synced;
    };
    settled = λ r settled q counts. synced q (out_of_stage q (counted_not_own r q counts)) (settled q counts);
  }

-- the stage may be emptied
pub may_empty : {D : Type 0} {disk : DiskModel D} (laws : IsDisk disk) (d : D) (base : Name) → base ≡ repository_base → MayStage disk d → CanEmptyStage disk base d
may_empty {disk = disk} laws d base is may = subst (λ (p : Name). CanEmptyStage disk p d) (sym is) (record {
  parent_stands = (laws.reads_well_formed d).root_stands;
  flag_clear = may.flag_clear;
  flag_synced = may.flag_synced;
})

-- nothing was done yet
pub nothing_staged : {D : Type 0} {disk : DiskModel D} (laws : IsDisk disk) (d : D) → MayStage disk d → LeavesOnly disk d d (IsAsBefore disk repository_base d)
nothing_staged {disk = disk} laws d may = before_sync disk laws repository_base base_is_path d (record { flag_clear = may.flag_clear; flag_synced = may.flag_synced }) d (confined_start laws (Among no_name) d)
