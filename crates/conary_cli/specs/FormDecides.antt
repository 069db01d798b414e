-- The form of the input decides how a command ends.
use Rattle.std.specs.Prelude.{◌≡◌, ◌⊎◌, ℕ, ◌≤◌, List, length, Result, Ok, Err}
use Rattle.std.specs.Io.KnownBytes.{Appends}
use Rattle.root_commands.specs.cli-call.cny-base.declared.options.Options.{Options}
use Rattle.root_commands.specs.cli-call.cny-base.declared.refusal.Refusal.{Refusal}
use Rattle.cny_manifest.specs.declared.made.Made.{Made}
use Rattle.cny_manifest.specs.FirstFault as manifest_fault
use Rattle.cny_manifest.specs.Makes.{Makes}
use Rattle.root_commands.specs.cli-call.tree-disk.Disk.{DiskModel}
use Rattle.root_commands.specs.cli-call.change-set.declared.change.ChangeSet.{ChangeSet}
use Rattle.root_commands.specs.cli-call.change-set.ChangeSet.{IsSetStream}
use Rattle.root_commands.specs.cli-call.change-set.FirstFault.{IsFirstFault}
use Rattle.root_commands.specs.cli-call.cny-laws.Call.{CallState, StopsForRepository}
use Rattle.root_commands.specs.cli-call.system-core.FixedDirs.{fixed_dirs}
use Rattle.root_commands.specs.cli-call.cny-laws.Input.{input_limit}
use Rattle.root_commands.specs.cli-call.cny-laws.State.{State, Effect, after, tree_of}
use Rattle.root_commands.specs.cli-call.cny-laws.Report.{End, status_of}
use Rattle.root_commands.specs.cli-call.cny-laws.Store.{RestsAt}
use Rattle.root_commands.specs.cli-call.cny-laws.Stores.{root_store}
use Rattle.root_commands.specs.cli-call.cny-laws.WholeCall.{FromStates, FromRoots, RestBoth}
use Rattle.root_commands.specs.cli-call.cny-laws.declared.failure.Failure.TheVariants as failure
use Rattle.root_commands.specs.cli-call.SetInput.{IsNoSetStream}
use Rattle.cli_words.specs.declared.words.Command.{Command}
use Rattle.cli_words.specs.declared.words.Command.TheVariants as command
use Rattle.root_commands.specs.Install.{first_reserved, InstallsMade, UnlessReserved}
use Rattle.root_commands.specs.Update.{UpdatesBy}
use Rattle.repo_commands.specs.ShowChangeSet.{described}

-- an outcome by which the call ended
abbrev pub HasEnd : (IsOutcome Ended : Result Effect Refusal → Type 0) → Type 0
HasEnd IsOutcome Ended = (outcome : Result Effect Refusal) × IsOutcome outcome × Ended outcome

-- the bytes make nothing
abbrev pub IsNoManifest : List ℕ → Type 0
IsNoManifest bytes = (value : Made) → Makes bytes value → ⊥

-- whether the input makes something decides the outcome of `install` with these options on a state
pub record DecidesForm (options : Options) (input : List ℕ) (s : State) (Ended : Result Effect Refusal → Type 0) : Type 0 where
  -- what it makes is installed, or refused for a path that no trove may record
  pub made : (value : Made) → Makes input value → HasEnd (UnlessReserved (first_reserved value.troves) (InstallsMade options value s.root)) Ended
  -- any other input is refused with its first fault
  pub refused : IsNoManifest input → (r : Refusal) × manifest_fault.IsFirstFault input r × Ended (Err r)

-- whether the input is a change set's decides the outcome of `showcs`
pub record DecidesSet (input : List ℕ) (Ended : Result Effect Refusal → Type 0) : Type 0 where
  -- the text of a change set is described, and the disks stay as they are
  pub shown : (set : ChangeSet) → IsSetStream set input → Ended (Ok (described set))
  -- any other input is refused with its first fault
  pub refused : IsNoSetStream input → (r : Refusal) × IsFirstFault input r × Ended (Err r)

-- whether the input is a change set's decides the outcome of `update -` with these options on a state
pub record DecidesUpdate (options : Options) (input : List ℕ) (s : State) (Ended : Result Effect Refusal → Type 0) : Type 0 where
  -- what the change set makes of the installed troves is put in
  pub updated : (set : ChangeSet) → IsSetStream set input → HasEnd (UpdatesBy options set s) Ended
  -- any other input is refused with its first fault
  pub refused : IsNoSetStream input → (r : Refusal) × IsFirstFault input r × Ended (Err r)

-- where the fixed directories stand, the input is within its limit, and the call was done or refused
abbrev pub IfRead : List ℕ → State → End → Type 0 → Type 0
IfRead input s end Decided = fixed_dirs (tree_of s.root) ≡ Ok tt → length input ≤ input_limit → status_of end ≤ 2 → Decided

module _ {T P : Type 0} (root_disk : DiskModel T) (repo_disk : DiskModel P) where
  -- done: both disks rest and store the state after the effect, and its bytes were written
  pub record IsCallDone (s : State) (e : Effect) (before now : CallState T P) (end : End) : Type 0 where
    pub ended : end ≡ Ok tt
    pub rests : RestBoth root_disk repo_disk now (after s e.change)
    pub out : Appends before.out.written now.out.written e.out

  -- a call ended as its outcome says
  abbrev pub IsCallAnswered : State → Result Effect Refusal → CallState T P → CallState T P → End → Type 0
  IsCallAnswered s (Ok e) before now end = IsCallDone s e before now end
  IsCallAnswered s (Err r) before now end = end ≡ Err (failure.Refused r)

  -- The same of the root alone, where the effect leaves the repository.
  pub record IsCallDoneOnRoot (s : State) (e : Effect) (before now : CallState T P) (end : End) : Type 0 where
    pub ended : end ≡ Ok tt
    pub rests : RestsAt root_store root_disk now.root (after s e.change).root
    pub stays : (after s e.change).repository ≡ s.repository
    pub out : Appends before.out.written now.out.written e.out

  abbrev pub IsCallAnsweredOnRoot : State → Result Effect Refusal → CallState T P → CallState T P → End → Type 0
  IsCallAnsweredOnRoot s (Ok e) before now end = IsCallDoneOnRoot s e before now end
  IsCallAnsweredOnRoot s (Err r) before now end = end ≡ Err (failure.Refused r)

  -- Where the disks are told, the fixed directories stand and the input is within its limit, how these commands are done or refused is
  -- decided by the form; of `install` and `showcs` also where the root alone is told, unless the repository wasn't opened.
  pub record FormDecides (c : Command) (input : List ℕ) (before now : CallState T P) (end : End) : Type 0 where
    pub manifest : (options : Options) → c ≡ command.Install options → FromStates root_disk repo_disk before (λ s. IfRead input s end (DecidesForm options input s (λ outcome. IsCallAnswered s outcome before now end)))
    pub set : c ≡ command.ShowChangeSet → FromStates root_disk repo_disk before (λ s. IfRead input s end (DecidesSet input (λ outcome. IsCallAnswered s outcome before now end)))
    pub update : (options : Options) → c ≡ command.UpdateByInput options → FromStates root_disk repo_disk before (λ s. IfRead input s end (DecidesUpdate options input s (λ outcome. IsCallAnswered s outcome before now end)))
    pub manifest_alone : (options : Options) → c ≡ command.Install options → FromRoots root_disk repo_disk before (λ s. IfRead input s end
        (StopsForRepository root_disk repo_disk before now end ⊎ DecidesForm options input s (λ outcome. IsCallAnsweredOnRoot s outcome before now end)))
    pub set_alone : c ≡ command.ShowChangeSet → FromRoots root_disk repo_disk before (λ s. IfRead input s end
        (StopsForRepository root_disk repo_disk before now end ⊎ DecidesSet input (λ outcome. IsCallAnsweredOnRoot s outcome before now end)))
