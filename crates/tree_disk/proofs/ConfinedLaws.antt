-- How a run of disk calls goes on: one line for each call.
use Rattle.std.specs.Prelude.{◌≡◌, ◌⊎◌, Bool, true, false, ◌||◌, IsTrue, Result, Ok, Err, refl}
use Rattle.std.proofs.Common.{◌∙◌, sym, ap, inl, inr, ⊎_elim, arith}
use Rattle.std.specs.FinMap.{get}
use Rattle.tree_disk.specs.declared.disk.DiskStop.{DiskStop}
use Rattle.tree_disk.specs.declared.disk.DiskStop.TheVariants.{Failed, Refused, Memory}
use Rattle.tree_disk.specs.Tree.{Name, Tree, AgreesOutside}
use Rattle.tree_disk.specs.Disk.{DiskModel, IsDisk, IsCrashImage, IsImageOf, Elapses, HasRead, HasChanged, HasSynced, Shows}
use Rattle.tree_disk.specs.Moments.{shows_start, shows_weaker, shows_then}
use Rattle.tree_disk.specs.Confined.{AgreesExcept, Among, DiffersOnlyAt, IsUnsynced, IsUnsyncedOr, LeavesOnly, Confined}

-- what doesn't hold, as a test
pub false_from_not : (b : Bool) → (IsTrue b → ⊥) → b ≡ false
false_from_not true no' = absurd (no' refl)
false_from_not false no' = refl

-- what agrees outside names that pass a test agrees except at them
pub except_among : (names : Name → Bool) (t u : Tree) → AgreesOutside names t u → AgreesExcept (Among names) t u
except_among names t u agrees p out = agrees p (false_from_not (names p) out)

pub outside_among : (names : Name → Bool) (t u : Tree) → AgreesExcept (Among names) t u → AgreesOutside names t u
outside_among names t u agrees p other = agrees p (λ among. absurd (cc (other, among)))

-- a crash image, as a tree that differs at the unsynced names alone
pub differs_from_image : {reads : Tree} {unsynced : Name → Bool} {image : Tree} → IsCrashImage reads unsynced image
    → DiffersOnlyAt (Among unsynced) reads image
differs_from_image {unsynced = unsynced} crash = record {
  well_formed = crash.well_formed;
  agrees = λ p out. crash.synced p (false_from_not (unsynced p) out);
}

pub differs_wider : {few many : Name → Type 0} {tree image : Tree} → ((p : Name) → few p → many p) → DiffersOnlyAt few tree image
    → DiffersOnlyAt many tree image
differs_wider within differs = record {
  well_formed = differs.well_formed;
  agrees = λ p out. differs.agrees p (λ h. out (within p h));
}

module _ {D : Type 0} {disk : DiskModel D} where
  -- it may say less
  pub leaves_weaker : {old new : D} {P Q : Tree → Type 0} → ((image : Tree) → P image → Q image) → LeavesOnly disk old new P
      → LeavesOnly disk old new Q
  leaves_weaker weaker run = record {
    later = run.later;
    each = λ image since. weaker image (run.each image since);
    before = λ k image le since. ⊎_elim (λ was. inl was) (λ p. inr (weaker image p)) (run.before k image le since);
    kept = run.kept;
  }

  -- one run after another
  pub leaves_then : {old mid new : D} {P : Tree → Type 0} → LeavesOnly disk old mid P → LeavesOnly disk mid new P
      → LeavesOnly disk old new P
  leaves_then {old = old} first then = record {
    later = omega (arith, first.later, then.later);
    each = λ image since. ⊎_elim (first.each image) (λ p. p) (then.before (disk.now old) image first.later since);
    before = λ k image le since. ⊎_elim (first.before k image le) (λ p. inr p) (then.before k image (omega (arith, first.later, le)) since);
    kept = λ k image le since. then.kept k image (omega (arith, first.later, le)) (first.kept k image le since);
  }

  -- more names
  pub confined_wider : {few many : Name → Type 0} {old new : D} → ((p : Name) → few p → many p) → Confined disk few old new
      → Confined disk many old new
  confined_wider {few = few} {many = many} {old = old} within run = record {
    reads = λ p out. run.reads p (λ h. out (within p h));
    visible = shows_weaker (λ t agrees p out. agrees p (λ h. out (within p h))) run.visible;
    unsynced = λ p h. wider p (run.unsynced p h);
    images = leaves_weaker (λ image. differs_wider wider) run.images;
  }
    where
      wider : (p : Name) → IsUnsyncedOr disk old few p → IsUnsyncedOr disk old many p
      wider p h = ⊎_elim (λ was. inl was) (λ is. inr (within p is)) h

  -- one run after another
  pub confined_then : {names : Name → Type 0} {old mid new : D} → Confined disk names old mid → Confined disk names mid new
      → Confined disk names old new
  confined_then {names = names} {old = old} {mid = mid} first then = record {
    reads = λ p out. then.reads p out ∙ first.reads p out;
    visible = shows_then first.visible (shows_weaker (λ t agrees p out. agrees p out ∙ first.reads p out) then.visible);
    unsynced = λ p h. earlier p (then.unsynced p h);
    images = leaves_then first.images (leaves_weaker before_both then.images);
  }
    where
      earlier : (p : Name) → IsUnsyncedOr disk mid names p → IsUnsyncedOr disk old names p
      earlier p h = ⊎_elim (first.unsynced p) (λ is. inr is) h

      before_both : (image : Tree) → DiffersOnlyAt (IsUnsyncedOr disk mid names) (disk.reads mid) image
          → DiffersOnlyAt (IsUnsyncedOr disk old names) (disk.reads old) image
      before_both image differs = record {
        well_formed = differs.well_formed;
        agrees = λ p out. differs.agrees p (λ h. out (earlier p h)) ∙ first.reads p (λ h. out (inr h));
      }

  -- a run, and one more at some of its names
  pub confined_on : {few many : Name → Type 0} {old mid new : D} → Confined disk many old mid → ((p : Name) → few p → many p)
      → Confined disk few mid new → Confined disk many old new
  confined_on so_far within next = confined_then so_far (confined_wider within next)

  module _ (laws : IsDisk disk) where
    -- a step of the clock: each tree that a crash could leave before it has P, and each that it may leave now
    pub leaves_step : {old new : D} {P : Tree → Type 0} → Elapses disk old new
        → ((image : Tree) → IsImageOf disk old image → P image) → ((image : Tree) → IsImageOf disk new image → P image)
        → LeavesOnly disk old new P
    leaves_step {old = old} time was is = record {
      later = time.later;
      each = λ image since. ⊎_elim (λ before. was image (laws.only_now old image before)) (is image) (time.nothing_else (disk.now old) image (omega arith) since);
      before = λ k image le since. ⊎_elim (λ before. inl before) (λ now. inr (is image now)) (time.nothing_else k image le since);
      kept = time.kept;
    }

    at_old : (names : Name → Type 0) (old : D) (image : Tree) → IsImageOf disk old image
        → DiffersOnlyAt (IsUnsyncedOr disk old names) (disk.reads old) image
    at_old names old image crash = differs_wider (λ p h. inl h) (differs_from_image crash)

    -- nothing has happened yet
    pub confined_start : (names : Name → Type 0) (d : D) → Confined disk names d d
    confined_start names d = record {
      reads = λ p out. refl;
      visible = shows_start d _;
      unsynced = λ p h. inl h;
      images = record {
        later = omega arith;
        each = λ image since. at_old names d image (laws.only_now d image since);
        before = λ k image le since. inl since;
        kept = λ k image le since. since;
      };
    }

    -- the names of a run, by what it read, what became unsynced and how its time went on
    from_step : (names : Name → Type 0) (old new : D) → AgreesExcept names (disk.reads new) (disk.reads old)
        → Shows disk old new (λ t. AgreesExcept names t (disk.reads old))
        → ((p : Name) → IsUnsynced disk new p → IsUnsyncedOr disk old names p) → Elapses disk old new → Confined disk names old new
    from_step names old new reads visible unsynced time = record {
      reads = reads;
      visible = visible;
      unsynced = unsynced;
      images = leaves_step time (at_old names old) here;
    }
      where
        here : (image : Tree) → IsImageOf disk new image → DiffersOnlyAt (IsUnsyncedOr disk old names) (disk.reads old) image
        here image crash =
            let now = differs_from_image crash in
            record {
              well_formed = now.well_formed;
              agrees = λ p out. now.agrees p (λ h. out (unsynced p h)) ∙ reads p (λ h. out (inr h));
            }

    shows_same : (names : Name → Type 0) (old new : D) → Shows disk old new (λ t. t ≡ disk.reads old) → Shows disk old new (λ t. AgreesExcept names t (disk.reads old))
    shows_same names old new same = shows_weaker (λ t is p out. ap (λ (u : Tree). get u p) is) same

    -- a call that only reads
    pub confined_read : (names : Name → Type 0) {old new : D} {Answer : Type 0} → HasRead disk old new Answer
        → Confined disk names old new
    confined_read names {old = old} {new = new} call =
        from_step names old new (λ p out. ap (λ (t : Tree). get t p) call.same.reads) (shows_same names old new call.same.visible) (λ p h. inl (sym (call.same.unsynced p) ∙ h)) call.time

    synced_names : (old new : D) (result : Result Unit DiskStop) → HasSynced disk old new result → (p : Name)
        → IsUnsynced disk new p → IsUnsynced disk old p
    synced_names old new (Ok u) call p h = absurd (cc (call.done p, h))
    synced_names old new (Err e) call p h = sym (call.unchanged.unsynced p) ∙ h

    -- a sync
    pub confined_synced : (names : Name → Type 0) {old new : D} {result : Result Unit DiskStop} → HasSynced disk old new result
        → Confined disk names old new
    confined_synced names {old = old} {new = new} {result = result} call =
        from_step names old new (λ p out. ap (λ (t : Tree). get t p) call.reads) (shows_same names old new call.visible) (λ p h. inl (synced_names old new result call p h)) call.time

    either : (was own : Bool) (names : Type 0) → IsTrue (was || own) → (IsTrue own → names) → IsTrue was ⊎ names
    either true own names h so = inl refl
    either false own names h so = inr (so h)

    changed_names : (own : Name → Bool) (can : Bool) (after : Tree) (old new : D) (result : Result Unit DiskStop)
        → HasChanged disk own can after old new result → (p : Name) → IsUnsynced disk new p → IsUnsyncedOr disk old (Among own) p
    changed_names own can after old new (Ok u) call p h = either (disk.unsynced old p) (own p) _ (sym (call.touches p) ∙ h) (λ is. is)
    changed_names own can after old new (Err Failed) call p h = either (disk.unsynced old p) (own p) _ (sym (call.touches_failed refl p) ∙ h) (λ is. is)
    changed_names own can after old new (Err Refused) call p h = inl (sym ((call.unchanged (inl refl)).unsynced p) ∙ h)
    changed_names own can after old new (Err Memory) call p h = inl (sym ((call.unchanged (inr refl)).unsynced p) ∙ h)

    -- a call that changes names of its own
    pub confined_changed : {own : Name → Bool} {can : Bool} {after : Tree} {old new : D} {result : Result Unit DiskStop}
        → HasChanged disk own can after old new result → Confined disk (Among own) old new
    confined_changed {own = own} {can = can} {after = after} {old = old} {new = new} {result = result} call =
        from_step (Among own) old new (except_among own (disk.reads new) (disk.reads old) call.outside)
        (shows_weaker (λ t agrees. except_among own t (disk.reads old) agrees) call.visible) (changed_names own can after old new result call) call.time
