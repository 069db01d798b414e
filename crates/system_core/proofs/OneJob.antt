-- What holds of all jobs from the newest down to its own number holds of the newest job.
use Rattle.std.proofs.Common.{◌≡◌, ⊎_elim, ℕ, ◌+◌, ◌-◌, ◌≤◌, Bool, true, false, List, [], ◌∷◌, ◌++◌, take, Result, Ok, Err, All, Contains, refl, sym, ◌∙◌, ap, subst, arith}
use Rattle.std.specs.Prelude.{if◌then◌else◌}
use Rattle.std.specs.FinMap.{get}
use Rattle.std.proofs.lemmas.List.Elements.{All-contains, All-head}
use Rattle.rollback_stack.specs.cny-base.Reserved.{is_reserved}
use Rattle.rollback_stack.specs.cny-base.declared.refusal.Refusal.{Refusal}
use Rattle.rollback_stack.specs.cny-base.declared.refusal.Refusal.TheVariants.{Edited, NoJob, Parent, StackEmpty}
use Rattle.rollback_stack.specs.cny-base.declared.stop.Stop.{Stop}
use Rattle.rollback_stack.specs.cny-base.declared.stop.Stop.TheVariants as stop
use Rattle.rollback_stack.specs.tree-disk.Disk.{DiskModel}
use Rattle.rollback_stack.specs.tree-disk.Tree.{Name, Tree}
use Rattle.local_db.specs.declared.db.Db.{Db}
use Rattle.local_db.specs.declared.format.Format.TheVariants.{Two}
use Rattle.local_db.specs.Stores.{HoldsDatabase, IsDatabase, StoresIn}
use Rattle.local_db.specs.SystemState.{AreNumbered, IsFree, IsStackItem, IsSystemState, StackItem, SystemState, is_listed, newest, oldest}
use Rattle.local_db.specs.Steps.{after_rollbacks}
use Rattle.local_db.proofs.Sorted.{listed_in}
use Rattle.system_core.specs.Restoring.{IsException, IsLeftAlone, IsPutInto, IsRestored, IsUnedited, Restores}
use Rattle.system_core.specs.RestoringAll.{AreRestored, AreUnedited, IsExceptionTo, RestoresTo}
use Rattle.system_core.specs.Rollback.{HasRollbackCause}
use Rattle.system_core.specs.Several.{HasJob, HasTakenBackTo, IsRefusalKind, IsRefusalKindTo, OfTurn, jobs_to}
use Rattle.system_core.proofs.Counting.{numbers_apart}
use Rattle.system_core.proofs.Held.{OneDatabase, one_held}
use Rattle.local_db.proofs.cny-base.Lists.{contains_first}

pub picked : {A : Type 0} (b : Bool) (x y : A) → b ≡ true → (if b then x else y) ≡ x
picked true x y is = refl
picked false x y is = absurd (cc is)

pub left_over : {A : Type 0} (b : Bool) (x y : A) → b ≡ false → (if b then x else y) ≡ y
left_over true x y is = absurd (cc is)
left_over false x y is = refl

module _ (s : SystemState) (system : IsSystemState s) (o : StackItem) (olds : List StackItem) (stack : s.stack ≡ o ∷ olds) where
  pub has_newest : HasJob s.stack (newest s.stack)
  has_newest = (o, subst (λ (l : List StackItem). Contains l o) (sym stack) (contains_first o olds), sym (ap newest stack))

  -- it is the only one
  pub alone : jobs_to (newest s.stack) s.stack ≡ o ∷ []
  alone = ap (λ (l : List StackItem). jobs_to (newest l) l) stack ∙ ap (λ (k : ℕ). take k (o ∷ olds)) one
    where
      one : o.number + 1 - o.number ≡ 1
      one = omega arith

  -- none is newer
  pub none_newer : (p : StackItem) (more : List StackItem) (job : StackItem) (rest : List StackItem) → s.stack ≡ (p ∷ more) ++ job ∷ rest → newest s.stack ≤ job.number → ⊥
  none_newer p more job rest is low =
      let apart = numbers_apart p more job rest (subst AreNumbered is system.numbered) in
      let top : newest s.stack ≡ p.number = ap newest is in
      omega (arith, apart, top, low)

  pub same_job : (job : StackItem) (rest : List StackItem) → s.stack ≡ job ∷ rest → job ≡ o
  same_job job rest is = let both : job ∷ rest ≡ o ∷ olds = sym is ∙ stack in cc both

  pub newest_unedited : IsUnedited o s.tree → AreUnedited s (newest s.stack)
  newest_unedited unedited [] job rest is low can = subst (λ (j : StackItem). IsUnedited j s.tree) (sym (same_job job rest is)) unedited
  newest_unedited unedited (p ∷ more) job rest is low can = absurd (none_newer p more job rest is low)

  pub outer : (q : Name) → is_listed o.paths q ≡ true → is_reserved q ≡ false
  outer q own = (All-contains IsFree o.paths q item.free (listed_in o.paths q own)).not_reserved
    where
      item : IsStackItem o
      item = All-head IsStackItem o olds (subst (All IsStackItem) stack system.olds)

  pub newest_restored : (db : Db) (x : Tree) → AreRestored (jobs_to (newest s.stack) s.stack) s db x → IsRestored o s.tree db x
  newest_restored db x are =
      let all : AreRestored (o ∷ []) s db x = subst (λ (os : List StackItem). AreRestored os s db x) alone are in
      record {
        own = λ q mine. all.each q (outer q mine) ∙ picked (is_listed o.paths q) (get o.before q) (get s.tree q) mine;
        others = λ q out other. all.each q out ∙ left_over (is_listed o.paths q) (get o.before q) (get s.tree q) other;
        list = all.list;
        whole = λ same. all.whole (same, tt);
      }

  pub turn_of : (P : StackItem → Tree → Type 0) → OfTurn s (newest s.stack) P → P o s.tree
  turn_of P is = at is.newer is.job is.olds is.stack_is is.down_to is.holds
    where
      at : (newer : List StackItem) (job : StackItem) (rest : List StackItem) → s.stack ≡ newer ++ job ∷ rest → newest s.stack ≤ job.number → P job (after_rollbacks newer (job ∷ rest) s).tree → P o s.tree
      at [] job rest here low holds = subst (λ (j : StackItem). P j s.tree) (same_job job rest here) holds
      at (p ∷ more) job rest here low holds = absurd (none_newer p more job rest here low)

  pub newest_exception : (why : Refusal) → IsExceptionTo s (newest s.stack) why → IsException o s.tree why
  newest_exception (Edited path) is = turn_of (λ j tree. IsPutInto j tree path) is
  newest_exception (Parent path) is = turn_of (λ j tree. IsLeftAlone j tree path) is
  newest_exception _ is = absurd is

  pub newest_stop : (db : Db) (x : Tree) (e : Stop) → RestoresTo s (newest s.stack) db x (Err e) → Restores o s.tree db x (Err e)
  newest_stop db x stop.Failed is = tt
  newest_stop db x stop.Memory is = tt
  newest_stop db x (stop.Refused why) is = newest_exception why is
  newest_stop db x (stop.Damaged path) is = is
  newest_stop db x stop.FarFailed is = is
  newest_stop db x (stop.FarDamaged path) is = is

  pub one_restored : (r : Result ℕ Stop) (db : Db) (x : Tree) → (HasJob s.stack (newest s.stack) → AreUnedited s (newest s.stack) → RestoresTo s (newest s.stack) db x r) → IsUnedited o s.tree → Restores o s.tree db x r
  one_restored (Ok number) db x to unedited = newest_restored db x (to has_newest (newest_unedited unedited))
  one_restored (Err e) db x to unedited = newest_stop db x e (to has_newest (newest_unedited unedited))

-- the number of the newest job in the database of a root
pub newest_is : OneDatabase → (x : Tree) (s : SystemState) (db : Db) → HoldsDatabase Two x db.installed db.oldest db.newest → StoresIn Two x s → db.newest ≡ newest s.stack
newest_is one x s db holds stores = (one_held one x db.installed s.installed db.oldest db.newest (oldest s.stack) (newest s.stack) holds stores.list).highs

-- so many jobs are one
pub just_one : {D : Type 0} (disk : DiskModel D) (before after : Db) (old new : D) (count : ℕ) → HasTakenBackTo disk before after before.newest old new count → count ≡ 1
just_one disk before after old new count taken = let all = taken.count_is in omega (arith, all)

-- ---- on every disk

newest_kind : (db : Db) → IsDatabase Two db.installed db.oldest db.newest → (why : Refusal) → IsRefusalKindTo db db.newest why → IsRefusalKind db why
newest_kind db rules StackEmpty is = is
newest_kind db rules (NoJob n) is = absurd never
  where
    never : ⊥
    never = ⊎_elim
        (λ none. is.1 none.1)
        (λ some.
        let order : db.oldest ≤ db.newest = some.1 in
        ⊎_elim (λ low. omega (arith, order, low)) (λ high. omega (arith, high)) is.2)
        rules.ends
newest_kind db rules (Edited path) is = is
newest_kind db rules (Parent path) is = is
newest_kind db rules _ is = absurd is

pub newest_cause : (db : Db) → IsDatabase Two db.installed db.oldest db.newest → (rose : Type 0) (e : Stop) → HasRollbackCause (IsRefusalKindTo db db.newest) rose e → HasRollbackCause (IsRefusalKind db) rose e
newest_cause db rules rose stop.Failed is = is
newest_cause db rules rose stop.Memory is = tt
newest_cause db rules rose (stop.Refused why) is = newest_kind db rules why is
newest_cause db rules rose (stop.Damaged path) is = tt
newest_cause db rules rose stop.FarFailed is = is
newest_cause db rules rose (stop.FarDamaged path) is = is
