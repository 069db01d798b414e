-- The tests of a job, one after the other.
use Rattle.std.proofs.Common.{◌≡◌, IsTrue, List, All, Result, Ok, Err, IsErrAnd, refl, sym, subst, arith}
use Rattle.rollback_stack.specs.cny-base.Count.{Rose}
use Rattle.rollback_stack.specs.cny-base.Stop.{stop_of_fault}
use Rattle.rollback_stack.specs.cny-base.declared.refusal.Fault.{Fault}
use Rattle.rollback_stack.specs.cny-base.declared.refusal.Fault.TheVariants as fault
use Rattle.rollback_stack.specs.cny-base.declared.stop.Stop.{Stop}
use Rattle.rollback_stack.specs.cny-base.declared.stop.Stop.TheVariants.{Refused, Memory, Failed, Damaged, FarFailed, FarDamaged}
use Rattle.rollback_stack.specs.trove-stream.declared.parts.TroveParts.{TroveParts}
use Rattle.rollback_stack.specs.trove-stream.Trove.{IsTrove}
use Rattle.rollback_stack.specs.tree-disk.Tree.{Name, Tree}
use Rattle.rollback_stack.specs.tree-disk.Disk.{DiskModel, IsDisk}
use Rattle.rollback_stack.specs.tree-disk.Moments.{same_start, time_start}
use Rattle.rollback_stack.specs.content-store.Contents.{ContentsModel, IsSource}
use Rattle.job_targets.specs.declared.entry.Entry.{Entry}
use Rattle.rollback_stack.specs.trove-stream.Installed.{IsRising}
use Rattle.conflict_plan.specs.declared.planned.Planned.{Planned}
use Rattle.conflict_plan.specs.Plan.{ArePlannable, IsFirstRefusal, IsOrphan, IsPlan, IsUnshared, mark_after}
use Rattle.dep_closure.specs.Closed.{IsClosed, IsUnmetOrMemory}
use Rattle.job_targets.specs.declared.targets.Targets.{Targets}
use Rattle.rollback_stack.specs.content-store.Searches.{IsFarDamage, LacksSome, SearchEnds}
use Rattle.rollback_stack.specs.tree-scan.OnlyReads.{OnlyReads, ReadEnds}
use Rattle.job_targets.specs.Gathering.{Gathers}
use Rattle.job_targets.specs.Outcome as outcome
use Rattle.job_targets.specs.Outcome.{AreChanges, AreGiven, AreOver, AreSavable, AreTargets, FitPlan}
use Rattle.rollback_stack.specs.change-set.declared.change.Carried.{Carried}
use Rattle.rollback_stack.specs.content-store.Contents.{Answers}
use Rattle.rollback_stack.specs.journal-log.declared.put.Put.{Put}
use Rattle.rollback_stack.specs.journal-log.declared.put.Want.{Want}
use Rattle.local_db.specs.SystemState.{IsFree}
use Rattle.job_targets.specs.Carrying.{AreStagedTargets, FitWants, whole_of, whole_targets}
use Rattle.job_targets.proofs.GatherLaws.{gathers_answer, gathers_memory, gathers_refuse, gathers_stop, gathers_then}
use Rattle.rollback_stack.specs.Entries.{entries_of}
use Rattle.system_core.specs.JobWriting as writing
use Rattle.system_core.specs.JobWriting.{AreTargetsOf, StandsBeforeOrAfter}
use Rattle.local_db.specs.Installed.{IsInstalled}
use Rattle.system_core.specs.Job.{IsTestRefusal, IsTested, IsTestedWhole, Sources, unmet, unplanned, untargeted}
use Rattle.system_core.specs.Lists.{AllPathsAllowed}
use Rattle.rollback_stack.specs.change-set.Contents.{IfRefused}
use Rattle.system_core.specs.Something.{LacksSomething}
use Rattle.system_core.proofs.Formed.{targets_formed}
use Rattle.system_core.proofs.Shared.{unshared_pairs}
use Rattle.rollback_stack.specs.cny-base.Reserved.{private_directory}
use Rattle.tree_journal.specs.Staging.{AllStaged}
use Rattle.system_core.specs.StagedWrites.{Means}
use Rattle.system_core.proofs.StagedWrites.{given_of}
use Rattle.system_core.proofs.Values.{are_targets, nothing_lacks, paths_of_puts, paths_of_wants, paths_whole, puts_free}
use Rattle.job_targets.proofs.content-store.Sources.{keeps_start}

-- ---- as values

-- what a job asks of the list after it
pub installed_after : (list : List TroveParts) → All IsTrove list → IsRising list → AllPathsAllowed list → IsUnshared list → IsInstalled list
installed_after list troves rising allowed unshared = record { troves = troves; rising = rising; allowed = allowed; unshared = unshared_pairs list unshared }

module _ {D C : Type 0} {disk : DiskModel D} {contents : ContentsModel C} (searches : IsSource contents) (laws : IsDisk disk) (from : Sources) (before list : List TroveParts) where
  -- ---- the list

  closed_run : (d : D) (far : C) (e : Fault) → IsUnmetOrMemory list e
      → Gathers {X = Unit {0}} disk contents (λ tree u. Unit {0}) (IsTestRefusal from before list) d d far far (Err (stop_of_fault e))
  closed_run d far e why = record {
    later = omega arith;
    same = λ tells. record { answer = tt; same = same_start disk d; time = time_start laws d };
    keeps = keeps_start searches far;
    ends = by e why;
  }
    where
      by : (e : Fault) → IsUnmetOrMemory list e
          → SearchEnds {X = Unit {0}} disk.tells (λ u. Unit {0}) (λ why. IsTrue disk.tells → IsTestRefusal from before list (disk.reads d) why) (IsFarDamage contents LacksSome far) (Rose (disk.faults d) (disk.faults d)) (Rose (contents.faults far) (contents.faults far)) (Err (stop_of_fault e))
      by (fault.Refused refusal) why = λ tells. unmet why
      by fault.Memory why = tt

  -- the list isn't closed
  pub closed_stop : {S : Tree → Targets → Type 0} (d : D) (far : C) (e : Fault) (r : Result Targets Stop) → IsErrAnd r (λ s. s ≡ stop_of_fault e) → IsUnmetOrMemory list e
      → Gathers disk contents S (IsTestRefusal from before list) d d far far r
  closed_stop d far e r is why = gathers_stop (closed_run d far e why) is (λ tells refusal h. h)

  -- ---- the plan

  pub plan_run : {old new : D} (far : C) (r : Result (List Planned) Stop) → OnlyReads disk (IsPlan before list from.options) (IsFirstRefusal before list from.options) old new r
      → Gathers disk contents (IsPlan before list from.options) (IsFirstRefusal before list from.options) old new far far r
  plan_run {old = old} {new = new} far r run = record { later = run.later; same = run.same; keeps = keeps_start searches far; ends = by r run.ends }
    where
      by : (r : Result (List Planned) Stop) → ReadEnds disk.tells (IsPlan before list from.options (disk.reads old)) (IsFirstRefusal before list from.options (disk.reads old)) r (disk.faults old) (disk.faults new)
          → SearchEnds disk.tells (IsPlan before list from.options (disk.reads old)) (λ why. IsTrue disk.tells → IsFirstRefusal before list from.options (disk.reads old) why) (IsFarDamage contents LacksSome far) (Rose (disk.faults old) (disk.faults new)) (Rose (contents.faults far) (contents.faults far)) r
      by (Ok planned) ends = ends
      by (Err (Refused refusal)) ends = ends
      by (Err Failed) ends = ends
      by (Err Memory) ends = tt
      by (Err (Damaged path)) ends = absurd ends
      by (Err FarFailed) ends = absurd ends
      by (Err (FarDamaged path)) ends = absurd ends

  -- there is no plan
  pub plan_stop : {S : Tree → Targets → Type 0} {old new : D} (far : C) (e : Stop) (r : Result Targets Stop) → IsClosed list → IsErrAnd r (λ s. s ≡ e)
      → OnlyReads disk (IsPlan before list from.options) (IsFirstRefusal before list from.options) old new (Err e)
      → Gathers disk contents S (IsTestRefusal from before list) old new far far r
  plan_stop far e r closed is run = gathers_stop (plan_run far (Err e) run) is (λ tells refusal h. unplanned closed h)

  -- ---- the targets

  pub targets_run : {old mid new : D} {far far' : C} (planned seen : List Planned) → seen ≡ planned → (r : Result Targets Stop) → IsClosed list
      → OnlyReads disk (IsPlan before list from.options) (IsFirstRefusal before list from.options) old mid (Ok planned)
      → Gathers disk contents (AreTargets from.carried from.answers seen) (outcome.IsFirstRefusal from.carried from.answers seen) mid new far far' r
      → Gathers disk contents (IsTested from before list) (IsTestRefusal from before list) old new far far' r
  targets_run {mid = mid} {new = new} {far = far} {far' = far'} planned seen same r closed first then =
      gathers_then searches laws {U = IsTested from before list} {W = IsTestRefusal from before list} (plan_run far (Ok planned) first)
      (subst (λ (p : List Planned). Gathers disk contents (AreTargets from.carried from.answers p) (outcome.IsFirstRefusal from.carried from.answers p) mid new far far' r) same then)
      (λ tells is made are. record { closed = closed; planned = planned; plan = is; targets = are })
      (λ tells is refusal h. untargeted closed planned is h)

  pub targets_stop : {S : Tree → Targets → Type 0} {old mid new : D} {far far' : C} (planned seen : List Planned) → seen ≡ planned → (e : Stop) (r : Result Targets Stop) → IsClosed list → IsErrAnd r (λ s. s ≡ e)
      → OnlyReads disk (IsPlan before list from.options) (IsFirstRefusal before list from.options) old mid (Ok planned)
      → Gathers disk contents (AreTargets from.carried from.answers seen) (outcome.IsFirstRefusal from.carried from.answers seen) mid new far far' (Err e)
      → Gathers disk contents S (IsTestRefusal from before list) old new far far' r
  targets_stop planned seen same e r closed is first then = gathers_stop (targets_run planned seen same (Err e) closed first then) is (λ tells refusal h. h)

  -- at a path where nothing stands nothing is to stand: no disk that tells its tree has one
  pub lack_stop : {S : Tree → Targets → Type 0} {old new : D} {far far' : C} (made : Targets) (es : List Entry) → es ≡ made.entries → (e : Fault) (r : Result Targets Stop) → IsErrAnd r (λ s. s ≡ stop_of_fault e)
      → Gathers disk contents (IsTested from before list) (IsTestRefusal from before list) old new far far' (Ok made)
      → (IsTrue disk.tells → AreTargetsOf (disk.reads old) made.puts made.entries) → IfRefused (LacksSomething es) e
      → Gathers disk contents S (IsTestRefusal from before list) old new far far' r
  lack_stop {S = S} {old = old} {new = new} {far = far} {far' = far'} made es same e r is run over lacks = by e is lacks
    where
      by : (e : Fault) → IsErrAnd r (λ s. s ≡ stop_of_fault e) → IfRefused (LacksSomething es) e → Gathers disk contents S (IsTestRefusal from before list) old new far far' r
      by (fault.Refused refusal) is lacks =
          gathers_refuse refusal run is
          (λ tells h. let o = over tells in absurd (nothing_lacks (disk.reads old) made.puts made.entries o.changes o.entries refusal (subst (λ (l : List Entry). LacksSomething l refusal) same lacks)))
      by fault.Memory is lacks = gathers_memory run is

  -- ---- what is then known of them

  module _ {old mid : D} (planned seen : List Planned) (same : seen ≡ planned) (made : Targets) (run : OnlyReads disk (IsPlan before list from.options) (IsFirstRefusal before list from.options) old mid (Ok planned))
      (plannable : ArePlannable before list planned) (fits : FitPlan seen made) (given : AreGiven made.puts)
      (is_before : IsInstalled before) (troves : All IsTrove list) (allowed : AllPathsAllowed list) where
    fits_plan : FitPlan planned made
    fits_plan = subst (λ (p : List Planned). FitPlan p made) same fits

    -- on a disk that tells its tree
    pub over_tree : IsTrue disk.tells → AreOver (disk.reads mid) made → AreChanges (disk.reads mid) made.puts → AreTargetsOf (disk.reads old) made.puts made.entries
    over_tree tells over changes = subst (λ (x : Tree). AreTargetsOf x made.puts made.entries) ((run.same tells).same.reads) (record {
      changes = changes;
      before = over.before;
      entries = over.entries;
      well_formed = targets_formed planned made.puts (disk.reads mid) plannable.rising fits_plan.puts (puts_free before list planned made.puts is_before.troves troves is_before.allowed allowed plannable (paths_of_puts planned made.puts fits_plan.puts)) given.held
          (laws.reads_well_formed mid)
          (subst (λ (x : Tree). (q : Name) → IsOrphan (mark_after planned x) q → ⊥) (sym (run.same tells).same.reads) (run.ends tells).no_orphan);
    })

  -- of targets that name staged files, by the tree at which they were made
  pub over_whole : {old mid : D} (planned seen : List Planned) (same : seen ≡ planned) (made : Targets) (run : OnlyReads disk (IsPlan before list from.options) (IsFirstRefusal before list from.options) old mid (Ok planned))
      → ArePlannable before list planned → (tells : IsTrue disk.tells) → FitPlan seen (whole_targets (disk.reads mid) made) → AreGiven (whole_of (disk.reads mid) made.puts)
      → IsInstalled before → All IsTrove list → AllPathsAllowed list → AreOver (disk.reads mid) (whole_targets (disk.reads mid) made) → AreChanges (disk.reads mid) (whole_of (disk.reads mid) made.puts)
      → AreTargetsOf (disk.reads old) (whole_of (disk.reads old) made.puts) made.entries
  over_whole {old = old} {mid = mid} planned seen same made run plannable tells fits given is_before troves allowed over changes =
      subst (λ (x : Tree). AreTargetsOf (disk.reads old) (whole_of x made.puts) made.entries) ((run.same tells).same.reads)
      (over_tree planned seen same (whole_targets (disk.reads mid) made) run plannable fits given is_before troves allowed tells over changes)

  -- on every disk
  pub as_targets : (planned seen : List Planned) (same : seen ≡ planned) (Gives : Want → Type 0) (made : Targets) (x : Tree) → ArePlannable before list planned → FitWants Gives seen made
      → IsInstalled before → All IsTrove list → AllPathsAllowed list → AreSavable made.entries → (es : List Entry) → es ≡ made.entries → All StandsBeforeOrAfter (entries_of es)
      → writing.AreRecordedTargets (whole_of x made.puts) made.entries
  as_targets planned seen same Gives made x plannable fits is_before troves allowed savable es of_made something =
      let fits_plan : FitWants Gives planned made = subst (λ (p : List Planned). FitWants Gives p made) same fits in
      are_targets before list planned (whole_of x made.puts) made.entries is_before.troves troves is_before.allowed allowed plannable (paths_whole x planned made.puts (paths_of_wants Gives planned made.puts fits_plan.puts)) fits_plan.entries
      (given_of x made.puts) savable (subst (λ (l : List Entry). All StandsBeforeOrAfter (entries_of l)) of_made something)

  pub free_targets : (planned seen : List Planned) (same : seen ≡ planned) (Gives : Want → Type 0) (made : Targets) → ArePlannable before list planned → FitWants Gives seen made
      → IsInstalled before → All IsTrove list → AllPathsAllowed list → All (λ (p : Put). IsFree p.path) made.puts
  free_targets planned seen same Gives made plannable fits is_before troves allowed =
      let fits_plan : FitWants Gives planned made = subst (λ (p : List Planned). FitWants Gives p made) same fits in
      puts_free before list planned made.puts is_before.troves troves is_before.allowed allowed plannable (paths_of_wants Gives planned made.puts fits_plan.puts)

-- ---- what the targets mean

module _ {D C : Type 0} {disk : DiskModel D} {contents : ContentsModel C} (listed : Tree → List Carried) (answers : Answers) (seen : List Planned) (old mid : D) (same : IsTrue disk.tells → disk.reads mid ≡ disk.reads old) where
  -- by the tree before
  pub meant_targets : {new : D} {far far' : C} (made : Targets)
      → Gathers disk contents (λ tree. AreStagedTargets (listed tree) answers seen tree) (λ tree. outcome.IsFirstRefusal (listed tree) answers seen tree) mid new far far' (Ok made)
      → Gathers disk contents (AreTargets (listed (disk.reads old)) answers seen) (outcome.IsFirstRefusal (listed (disk.reads old)) answers seen) mid new far far' (Ok (whole_targets (disk.reads old) made))
  meant_targets made run = gathers_answer run (λ tells are. subst (λ (x : Tree). AreTargets (listed x) answers seen (disk.reads mid) (whole_targets x made)) (same tells) are.targets)

  pub meant_stop : {new : D} {far far' : C} (e : Stop)
      → Gathers disk contents (λ tree. AreStagedTargets (listed tree) answers seen tree) (λ tree. outcome.IsFirstRefusal (listed tree) answers seen tree) mid new far far' (Err e)
      → Gathers disk contents (AreTargets (listed (disk.reads old)) answers seen) (outcome.IsFirstRefusal (listed (disk.reads old)) answers seen) mid new far far' (Err e)
  meant_stop e run = gathers_stop run refl (λ tells why h. subst (λ (x : Tree). outcome.IsFirstRefusal (listed x) answers seen (disk.reads mid) why) (same tells) h)

-- and they mean these, by the tree afterwards
pub means_whole : {D : Type 0} (disk : DiskModel D) (listed : Tree → List Carried) (answers : Answers) (seen : List Planned) (mid new : D) → disk.reads new ≡ disk.reads mid → (made : Targets)
    → AreStagedTargets (listed (disk.reads mid)) answers seen (disk.reads mid) made → Means (disk.reads new) made.puts (whole_of (disk.reads new) made.puts)
means_whole disk listed answers seen mid new same made are = record { are = refl; stand = subst (λ (x : Tree). AllStaged private_directory x made.puts) (sym same) are.stand }

-- the same, by equal lists
pub gathers_lists : {D C : Type 0} {disk : DiskModel D} {contents : ContentsModel C} (from : Sources) (before before' list list' : List TroveParts) {old new : D} {far far' : C} {r : Result Targets Stop} → before' ≡ before → list' ≡ list
    → Gathers disk contents (IsTestedWhole from before' list') (IsTestRefusal from before' list') old new far far' r
    → Gathers disk contents (IsTestedWhole from before list) (IsTestRefusal from before list) old new far far' r
gathers_lists {disk = disk} {contents = contents} from before before' list list' {old = old} {new = new} {far = far} {far' = far'} {r = r} same_before same_list run =
    subst (λ (b : List TroveParts). Gathers disk contents (IsTestedWhole from b list) (IsTestRefusal from b list) old new far far' r) same_before
    (subst (λ (l : List TroveParts). Gathers disk contents (IsTestedWhole from before' l) (IsTestRefusal from before' l) old new far far' r) same_list run)

-- as the tests of what is meant
pub whole_run : {D C : Type 0} {disk : DiskModel D} {contents : ContentsModel C} (from : Sources) (before list : List TroveParts) {old new : D} {far far' : C} (made : Targets) (x : Tree) → (IsTrue disk.tells → x ≡ disk.reads old)
    → Gathers disk contents (IsTestedWhole from before list) (IsTestRefusal from before list) old new far far' (Ok made)
    → Gathers disk contents (IsTested from before list) (IsTestRefusal from before list) old new far far' (Ok (whole_targets x made))
whole_run {disk = disk} from before list {old = old} made x same run = gathers_answer run (λ tells is. subst (λ (t : Tree). IsTested from before list (disk.reads old) (whole_targets t made)) (sym (same tells)) is)

pub whole_stop : {D C : Type 0} {disk : DiskModel D} {contents : ContentsModel C} (from : Sources) (before list : List TroveParts) {old new : D} {far far' : C} (e : Stop)
    → Gathers disk contents (IsTestedWhole from before list) (IsTestRefusal from before list) old new far far' (Err e)
    → Gathers disk contents (IsTested from before list) (IsTestRefusal from before list) old new far far' (Err e)
whole_stop from before list e run = gathers_stop run refl (λ tells why h. h)

-- and back
pub run_whole : {D C : Type 0} {disk : DiskModel D} {contents : ContentsModel C} (from : Sources) (before list : List TroveParts) {old new : D} {far far' : C} (made : Targets)
    → Gathers disk contents (IsTested from before list) (IsTestRefusal from before list) old new far far' (Ok (whole_targets (disk.reads old) made))
    → Gathers disk contents (IsTestedWhole from before list) (IsTestRefusal from before list) old new far far' (Ok made)
run_whole from before list made run = gathers_answer run (λ tells is. is)
