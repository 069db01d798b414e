-- What follows of the targets of a plan.
use Rattle.std.proofs.Common.{IsTrue, List, All, Result, Ok, Err, ◌∙◌, subst}
use Rattle.std.specs.Prelude.{IfOk}
use Rattle.std.specs.List.Sorted.{IsStrictlySortedBy}
use Rattle.local_db.specs.cny-base.declared.refusal.Refusal.{Refusal}
use Rattle.local_db.specs.cny-base.declared.stop.Stop.{Stop}
use Rattle.change_set.specs.declared.change.Carried.{Carried}
use Rattle.conflict_plan.specs.declared.planned.Planned.{Planned}
use Rattle.conflict_plan.specs.Orphans.{IsSeenPlan}
use Rattle.conflict_plan.specs.Plan.{planned_cmp}
use Rattle.content_store.specs.Contents.{Answers, ContentsModel}
use Rattle.job_targets.specs.declared.entry.Entry.{Entry}
use Rattle.local_db.specs.tree-disk.Disk.{DiskModel}
use Rattle.local_db.specs.tree-disk.Tree.{Tree}
use Rattle.job_targets.specs.declared.targets.Targets.{Targets}
use Rattle.job_targets.specs.Gathering.{Gathers}
use Rattle.job_targets.specs.Outcome.{AreChanges, AreGiven, AreHeld, AreOver, AreSavable, AreTargets, FitPlan}
use Rattle.local_db.specs.journal-log.declared.put.Want.{Want}
use Rattle.job_targets.specs.Carrying.{FitWants}
use Rattle.job_targets.specs.Targets.{HaveEntries, IsChange}
use Rattle.job_targets.proofs.Listed.{changing_puts, entries_by_puts, given_entries, given_puts, marked_puts, rising_entries, tellable_puts, told_entries}

pub given_of : (planned : List Planned) (r : Result Targets Stop) → IfOk r (FitPlan planned) → IfOk r (λ (t : Targets). AreHeld t.puts) → IfOk r (λ (t : Targets). AreGiven t.puts)
given_of planned (Ok t) fits held = record { given = given_puts planned t.puts fits.puts; held = held; marks = marked_puts planned t.puts t.entries fits.puts fits.entries }
given_of planned (Err stop) fits held = tt

pub savable_of : (planned : List Planned) (r : Result Targets Stop) → IsStrictlySortedBy planned_cmp planned → IfOk r (FitPlan planned) → IfOk r (λ (t : Targets). AreSavable t.entries)
savable_of planned (Ok t) rises fits = record {
  given = given_entries planned t.entries fits.entries;
  told = told_entries planned t.entries fits.entries;
  rising = rising_entries planned t.entries rises fits.entries;
  agree = fits.agree;
}
savable_of planned (Err stop) rises fits = tt

pub changes_of : (tree : Tree) (planned : List Planned) (r : Result Targets Stop) → All (IsSeenPlan tree) planned → All IsChange planned → IfOk r (FitPlan planned) → IfOk r (λ (t : Targets). AreChanges tree t.puts)
changes_of tree planned (Ok t) seen change fits = changing_puts tree planned t.puts seen change fits.puts
changes_of tree planned (Err stop) seen change fits = tt

pub over_one : (carried : List Carried) (answers : Answers) (planned : List Planned) (tree : Tree) (t : Targets) → AreTargets carried answers planned tree t → FitPlan planned t → AreOver tree t
over_one carried answers planned tree t are fits = record {
  entries = are.entries ∙ entries_by_puts tree planned t.puts fits.puts;
  before = tellable_puts tree planned t.puts fits.puts (subst (λ (l : List Entry). HaveEntries planned l) are.entries fits.entries);
}

module _ {D C : Type 0} {disk : DiskModel D} {contents : ContentsModel C} (carried : List Carried) (answers : Answers) (planned : List Planned) where
  pub over_of : {old new : D} {far far' : C} {V : Tree → Refusal → Type 0} (r : Result Targets Stop)
      → Gathers disk contents (AreTargets carried answers planned) V old new far far' r → IfOk r (FitPlan planned) → IsTrue disk.tells → IfOk r (AreOver (disk.reads old))
  over_of {old = old} (Ok t) run fits tells = over_one carried answers planned (disk.reads old) t (run.ends tells) fits
  over_of (Err stop) run fits tells = tt

-- the same of entries alone
pub savable_by : (Gives : Want → Type 0) (planned : List Planned) (r : Result Targets Stop) → IsStrictlySortedBy planned_cmp planned → IfOk r (FitWants Gives planned) → IfOk r (λ (t : Targets). AreSavable t.entries)
savable_by Gives planned (Ok t) rises fits = record {
  given = given_entries planned t.entries fits.entries;
  told = told_entries planned t.entries fits.entries;
  rising = rising_entries planned t.entries rises fits.entries;
  agree = fits.agree;
}
savable_by Gives planned (Err stop) rises fits = tt
