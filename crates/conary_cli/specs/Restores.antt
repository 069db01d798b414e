-- What `rollback` restores, where nothing at the paths of the jobs was edited since.
use Rattle.std.specs.Prelude.{◌≡◌, ◌⊎◌, ℕ, ◌≤◌, IsTrue, List, ◌∷◌, Option, Some, None, Ok, Err}
use Rattle.root_commands.specs.cli-call.cny-base.declared.refusal.Refusal.{Refusal}
use Rattle.root_commands.specs.cli-call.tree-disk.Tree.{Tree}
use Rattle.root_commands.specs.cli-call.tree-disk.Disk.{DiskModel}
use Rattle.root_commands.specs.cli-call.local-db.declared.db.Db.{Db}
use Rattle.root_commands.specs.cli-call.local-db.SystemState.{StackItem}
use Rattle.root_commands.specs.cli-call.system-core.Restoring.{IsException, IsRestored, IsUnedited}
use Rattle.root_commands.specs.cli-call.system-core.RestoringAll.{AreRestored, AreUnedited, IsExceptionTo}
use Rattle.root_commands.specs.cli-call.system-core.Several.{HasJob, jobs_to}
use Rattle.root_commands.specs.cli-call.system-core.FixedDirs.{fixed_dirs}
use Rattle.root_commands.specs.cli-call.cny-laws.Call.{CallState, StopsForRepository}
use Rattle.root_commands.specs.cli-call.cny-laws.State.{RootState, State, tree_of}
use Rattle.root_commands.specs.cli-call.cny-laws.Store.{RestsAt}
use Rattle.root_commands.specs.cli-call.cny-laws.Stores.{root_store}
use Rattle.root_commands.specs.cli-call.cny-laws.declared.failure.Failure.TheVariants as failure
use Rattle.root_commands.specs.cli-call.cny-laws.Report.{End, status_of}
use Rattle.root_commands.specs.cli-call.cny-laws.WholeCall.{FromStates, FromRoots}
use Rattle.cli_words.specs.declared.words.Command.{Command}
use Rattle.cli_words.specs.declared.words.Command.TheVariants as command
use Rattle.root_commands.specs.cli-call.system-core.Job.{db_of}

-- where the fixed directories stand, and the call was done or refused
abbrev pub IfAnswered : RootState → End → Type 0 → Type 0
IfAnswered s end Holds = fixed_dirs (tree_of s) ≡ Ok tt → status_of end ≤ 2 → Holds

-- refused with an exception
pub record MeetsException (Exception : Refusal → Type 0) (end : End) : Type 0 where
  pub refusal : Refusal
  pub is : Exception refusal
  pub ended : end ≡ Err (failure.Refused refusal)

module _ {T : Type 0} (root_disk : DiskModel T) where
  -- done: the root rests at a system, also after a crash, and this holds of the system's database and of the tree that the root reads
  pub record HasRestored (Restored : Db → Tree → Type 0) (now : T) (end : End) : Type 0 where
    pub ended : end ≡ Ok tt
    pub next : RootState
    pub rests : RestsAt root_store root_disk now next
    pub restored : Restored (db_of next) (root_disk.reads now)

  -- After a job at whose paths nothing was edited since: each path of it has its exact old node, every other path stays, and the list
  -- is that before the job; or it is one of the two exceptions, with the path that shows it.
  abbrev pub RestoresNewest : RootState → T → End → Type 0
  RestoresNewest s now end = (o : StackItem) (olds : List StackItem) → s.stack ≡ o ∷ olds → IsUnedited o s.tree
      → HasRestored (IsRestored o s.tree) now end ⊎ MeetsException (IsException o s.tree) end

  -- The same of all jobs from the newest down to the one of a number, where nothing at the paths of each was edited when its turn came.
  abbrev pub RestoresDownTo : ℕ → RootState → T → End → Type 0
  RestoresDownTo number s now end = HasJob s.stack number → AreUnedited s number
      → HasRestored (AreRestored (jobs_to number s.stack) s) now end ⊎ MeetsException (IsExceptionTo s number) end

  abbrev pub RestoresBy : Option ℕ → RootState → T → End → Type 0
  RestoresBy None = RestoresNewest
  RestoresBy (Some number) = RestoresDownTo number

  -- Of a line, over a root that is open and told: a `rollback` that is done or refused ends so from each system at which the root rests.
  abbrev pub LineRestores : Command → T → T → End → Type 0
  LineRestores c old new end = (number : Option ℕ) → c ≡ command.Rollback number → IsTrue root_disk.tells → (s : State) → RestsAt root_store root_disk old s.root → status_of end ≤ 2 → RestoresBy number s.root new end

module _ {T P : Type 0} (root_disk : DiskModel T) (repo_disk : DiskModel P) where
  -- Where the disks are told and the fixed directories stand, a `rollback` that is done or refused ends so on each state to which they
  -- recovered; on the root also where it alone is told, unless the repository isn't opened.
  pub record RollbackRestores (c : Command) (before now : CallState T P) (end : End) : Type 0 where
    pub restores : (number : Option ℕ) → c ≡ command.Rollback number → FromStates root_disk repo_disk before (λ s. IfAnswered s.root end (RestoresBy root_disk number s.root now.root end))
    pub restores_alone : (number : Option ℕ) → c ≡ command.Rollback number → FromRoots root_disk repo_disk before (λ s. IfAnswered s.root end
        (StopsForRepository root_disk repo_disk before now end ⊎ RestoresBy root_disk number s.root now.root end))
