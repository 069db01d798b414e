-- What holds up to each step of emptying the directory of staged bytes, and what a stop there leaves.
use Rattle.std.proofs.Common.{◌≡◌, ◌≤◌, Bool, true, false, IsTrue, List, [], ℕ, length, Result, Ok, Err, OnOk, IfErr, IsErrOf, IsErrAnd, refl, sym, ◌∙◌, ap, subst, ⊎_elim}
use Rattle.std.proofs.lemmas.Bool.{cases_Bool}
use Rattle.std.specs.FinMap.{get}
use Rattle.journal_log.specs.cny-base.Count.{Rose}
use Rattle.journal_log.specs.cny-base.Path.{is_path}
use Rattle.journal_log.specs.cny-base.declared.stop.Stop.{Stop}
use Rattle.journal_log.specs.cny-base.declared.stop.Stop.TheVariants.{Refused, Memory, Failed, Damaged, FarFailed, FarDamaged}
use Rattle.journal_log.specs.tree-disk.Tree.{Name, Tree, same_name, is_dir}
use Rattle.journal_log.specs.tree-disk.Clear.{is_within}
use Rattle.journal_log.specs.tree-disk.Disk.{DiskModel, IsDisk, one_name}
use Rattle.journal_log.specs.tree-disk.Confined.{Among, Confined, DiffersOnlyAt, IsSynced, IsUnsyncedOr, LeavesOnly}
use Rattle.journal_log.proofs.tree-disk.ConfinedLaws.{confined_wider, leaves_then, leaves_weaker}
use Rattle.journal_log.specs.tree-disk.Steps.{no_name, Ended, IsDiskStop, Makes}
use Rattle.journal_log.proofs.tree-disk.StepLaws.{makes_then, makes_wider}
use Rattle.journal_log.specs.declared.put.Put.{Put}
use Rattle.journal_log.specs.Own.{gate, staged}
use Rattle.tree_journal.specs.Apply.{with_base, IsAsBefore}
use Rattle.tree_journal.specs.Recovery.{is_flag}
use Rattle.tree_journal.specs.EmptyStage.{is_stage_name, CanEmptyStage, Empties, HasEmptyStage, IsSyncedElsewhere}
use Rattle.tree_journal.specs.Steps.{with_stage, HasNoStrays}
use Rattle.tree_journal.proofs.BetweenSteps.{is_log_or_staged, HasNoFlag}
use Rattle.tree_journal.proofs.Applying.{after_sync, as_before, before_sync}
use Rattle.tree_journal.proofs.OwnFiles.{base_stands}
use Rattle.tree_journal.proofs.OwnNames.{gate_not_written, log_or_staged_own}
use Rattle.tree_journal.proofs.StagedBytes.{no_bytes_written, stage_dir, staged_keeps_base}
use Rattle.journal_log.proofs.cny-base.Bools.{or_left, or_right}
use Rattle.journal_log.proofs.tree-disk.ClearLaws.{or_cases}

-- ---- the names

base_within : (base q : Name) → IsTrue (same_name q base) → IsTrue (is_stage_name base q)
base_within base q h = or_left (same_name q base) (is_within (staged base) q) h

dir_within : (base q : Name) → IsTrue (is_within (staged base) q) → IsTrue (is_stage_name base q)
dir_within base q h = or_right (same_name q base) (is_within (staged base) q) h

stage_within : (base q : Name) → IsTrue (is_stage_name base q) → IsTrue (is_log_or_staged base q)
stage_within base q h = ⊎_elim
    (λ same. or_left (same_name q base) _ same)
    (λ within. or_right (same_name q base) _ (or_right _ (is_within (staged base) q) within))
    (or_cases (same_name q base) (is_within (staged base) q) h)

-- ---- the changes of the tree

-- the base is made, and the directory is made and emptied
abbrev pub with_empty_stage : Name → List Put → Tree → Tree
with_empty_stage base puts tree = with_stage (staged base) puts (with_base base tree)

ended_failed : {X : Type 0} (told : Bool) (after new : Tree) (r : Result X Stop) (a b : ℕ) → Ended told after new r a b → IsErrOf r Failed → Rose a b
ended_failed told after new (Ok u) a b ended failed = absurd (cc failed)
ended_failed told after new (Err Failed) a b ended failed = ended
ended_failed told after new (Err Memory) a b ended failed = absurd (cc failed)
ended_failed told after new (Err (Refused refusal)) a b ended failed = absurd ended
ended_failed told after new (Err (Damaged path)) a b ended failed = absurd ended
ended_failed told after new (Err FarFailed) a b ended failed = absurd ended
ended_failed told after new (Err (FarDamaged path)) a b ended failed = absurd ended

ended_stops : {X : Type 0} (told : Bool) (after new : Tree) (r : Result X Stop) (a b : ℕ) → Ended told after new r a b → IfErr r IsDiskStop
ended_stops told after new (Ok u) a b ended = tt
ended_stops told after new (Err Failed) a b ended = tt
ended_stops told after new (Err Memory) a b ended = tt
ended_stops told after new (Err (Refused refusal)) a b ended = absurd ended
ended_stops told after new (Err (Damaged path)) a b ended = absurd ended
ended_stops told after new (Err FarFailed) a b ended = absurd ended
ended_stops told after new (Err (FarDamaged path)) a b ended = absurd ended

pub stopped : {X : Type 0} (P : Type 0) (Q : Stop → Type 0) (r : Result X Stop) → IsErrAnd r Q → OnOk r P
stopped P Q (Ok u) is = absurd is
stopped P Q (Err e) is = tt

-- ---- how it goes

module _ {D : Type 0} (disk : DiskModel D) (laws : IsDisk disk) (base : Name) (path : is_path base ≡ true) (old : D) (can : IsTrue disk.tells → CanEmptyStage disk base old) where
  no_flag : IsTrue disk.tells → HasNoFlag disk base old
  no_flag tells = record { flag_clear = (can tells).flag_clear; flag_synced = (can tells).flag_synced }

  -- it stopped before a name was changed
  pub empties_nothing : {X : Type 0} (Q : Stop → Type 0) (new : D) (r : Result X Stop) → Makes {X = X} disk no_name (λ tree. tree) old new r → IsErrAnd r Q → Empties disk base old new r
  empties_nothing Q new r run is = record {
    any_moment = λ tells. before_sync disk laws base path old (no_flag tells) new (run.confined tells);
    confined = λ tells. confined_wider (λ p none. absurd (cc none)) (run.confined tells);
    emptied = λ tells. stopped _ Q r is;
    synced = λ tells. stopped _ Q r is;
    later = run.later;
    failed = ended_failed disk.tells (disk.reads old) (disk.reads new) r (disk.faults old) (disk.faults new) run.ended;
    stops = ended_stops disk.tells (disk.reads old) (disk.reads new) r (disk.faults old) (disk.faults new) run.ended;
  }

  module _ {first : D} {u : Unit {0}} (sync : Makes disk no_name (λ tree. tree) old first (Ok u)) (first_synced : IsTrue disk.tells → IsSynced disk first) where
    -- what follows the sync, whether it stopped or not
    pub empties_so : {X : Type 0} (change : Tree → Tree) (new : D) (r : Result X Stop) → Makes {X = X} disk (is_stage_name base) change first new r
        → (IsTrue disk.tells → OnOk r (HasEmptyStage base (disk.reads new))) → Empties disk base old new r
    empties_so {X = X} change new r run emptied = record {
      any_moment = λ tells. leaves_then (before_sync disk laws base path old (no_flag tells) first (sync.confined tells))
          (after_sync disk laws base path old (no_flag tells) first new (sync.ended tells) (first_synced tells) (confined_wider (stage_within base) (run.confined tells)));
      confined = λ tells. (whole.confined tells);
      emptied = emptied;
      synced = λ tells. on_ok r (λ q unsynced. ⊎_elim (λ was. absurd (cc (first_synced tells q, was))) (λ is. is) ((run.confined tells).unsynced q unsynced));
      later = whole.later;
      failed = ended_failed disk.tells (change (disk.reads old)) (disk.reads new) r (disk.faults old) (disk.faults new) whole.ended;
      stops = ended_stops disk.tells (change (disk.reads old)) (disk.reads new) r (disk.faults old) (disk.faults new) whole.ended;
    }
      where
        whole : Makes {X = X} disk (is_stage_name base) change old new r
        whole = makes_then {first = λ tree. tree} {next = change} {goal = change} (makes_wider (λ p none. absurd (cc none)) sync) (λ p h. h) run (λ tells. refl)

        on_ok : {X : Type 0} {P : Type 0} (r : Result X Stop) → P → OnOk r P
        on_ok (Ok x) p = p
        on_ok (Err e) p = tt

-- the base is made
pub makes_base_dir : {D X : Type 0} {disk : DiskModel D} (base : Name) {old new : D} {r : Result X Stop} → Makes {X = X} disk (one_name base) (with_base base) old new r → Makes {X = X} disk (is_stage_name base) (with_base base) old new r
makes_base_dir base run = makes_wider (base_within base) run

-- and the directory is made and emptied
pub makes_empty_stage : {D : Type 0} {disk : DiskModel D} (base dir : Name) (puts : List Put) {old mid new : D} {u : Unit {0}} {r : Result Unit Stop} → dir ≡ staged base → Makes disk (one_name base) (with_base base) old mid (Ok u)
    → Makes disk (is_within dir) (λ tree. with_stage dir puts tree) mid new r → Makes disk (is_stage_name base) (with_empty_stage base puts) old new r
makes_empty_stage {disk = disk} base dir puts {mid = mid} {new = new} {r = r} is so_far run =
    makes_then {next = λ tree. with_stage (staged base) puts tree} {goal = with_empty_stage base puts} (makes_base_dir base so_far) (dir_within base)
    (subst (λ (p : Name). Makes disk (is_within p) (λ tree. with_stage p puts tree) mid new r) is run) (λ tells. refl)

-- what follows of the tree at the end and of what a call that ended well promises
pub ends_both : {P Q : Type 0} (told : Bool) (after new : Tree) (r : Result Unit Stop) (a b : ℕ) → Ended told after new r a b → IsTrue told → OnOk r Q → (new ≡ after → Q → P) → OnOk r P
ends_both told after new (Ok u) a b ended tells q both = both (ended tells) q
ends_both told after new (Err e) a b ended tells q both = tt

-- then it is an empty directory
pub has_empty_stage : (base : Name) → is_path base ≡ true → length base ≤ 1011 → (puts : List Put) → puts ≡ [] → (tree last : Tree) → last ≡ with_empty_stage base puts tree → HasNoStrays (staged base) puts last → HasEmptyStage base last
has_empty_stage base path short puts none tree last is clear = record {
  base_stands = ap (λ (t : Tree). is_dir (get t base)) is ∙ ap is_dir (sym (ap (λ (t : Tree). get t base) (no_bytes_written base puts (with_stage (staged base) puts (with_base base tree)))) ∙ staged_keeps_base base path short puts puts (with_base base tree)) ∙ base_stands base tree;
  stands = ap (λ (t : Tree). is_dir (get t (staged base))) is ∙ stage_dir base path short puts (with_base base tree);
  empty = λ q low. (subst (λ (l : List Put). HasNoStrays (staged base) l last) none clear) q low (λ last named. absurd (cc named));
}

-- ---- what is staged afterwards

-- While only names of the stage change, an image recovers to one of the moment at which it was emptied.
pub staging_leaves : {D : Type 0} (disk : DiskModel D) (laws : IsDisk disk) (base : Name) → is_path base ≡ true → (old mid new : D) → CanEmptyStage disk base old
    → LeavesOnly disk old mid (IsAsBefore disk base old) → Confined disk (Among (is_stage_name base)) old mid → IsSyncedElsewhere disk base mid
    → Confined disk (Among (is_stage_name base)) mid new → LeavesOnly disk old new (IsAsBefore disk base old)
staging_leaves disk laws base path old mid new can first emptied synced run = leaves_then first (leaves_weaker each run.images)
  where
    out_of_stage : (q : Name) → is_log_or_staged base q ≡ false → is_stage_name base q ≡ false
    out_of_stage q out = ⊎_elim (λ h. absurd (cc (stage_within base q h, out))) (λ h. h) (cases_Bool (is_stage_name base q))

    each : (image : Tree) → DiffersOnlyAt (IsUnsyncedOr disk mid (Among (is_stage_name base))) (disk.reads mid) image → IsAsBefore disk base old image
    each image differs =
        let agree : (q : Name) → is_stage_name base q ≡ false → get image q ≡ get (disk.reads old) q = λ q out.
        differs.agrees q (λ h. ⊎_elim (λ was. absurd (cc (synced q was, out))) (λ is. absurd (cc (is, out))) h) ∙ emptied.reads q (λ is. absurd (cc (is, out))) in
        as_before disk laws base path old (record { flag_clear = can.flag_clear; flag_synced = can.flag_synced }) image
        (ap is_flag (agree (gate base) (out_of_stage (gate base) (gate_not_written base path))) ∙ can.flag_clear)
        (λ q out. agree q (⊎_elim (λ h. absurd (cc (log_or_staged_own base q (stage_within base q h), out))) (λ h. h) (cases_Bool (is_stage_name base q))))
