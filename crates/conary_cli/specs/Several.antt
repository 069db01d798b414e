-- What a call of several lines promises: a batch, or the demo.
use Rattle.std.specs.Prelude.{◌≡◌, ◌⊎◌, ℕ, ◌≤◌, Bool, true, false, IsTrue, List, Result, Ok, Err}
use Rattle.cny_version.specs.cny-base.Flow.{SinkState}
use Rattle.root_commands.specs.cli-call.cny-base.Count.{Rose}
use Rattle.root_commands.specs.cli-call.cny-base.declared.refusal.Refusal.{Refusal}
use Rattle.root_commands.specs.cli-call.cny-base.declared.refusal.Refusal.TheVariants.{Malformed}
use Rattle.root_commands.specs.cli-call.tree-disk.Disk.{DiskModel}
use Rattle.root_commands.specs.cli-call.tree-disk.Clear.{is_within}
use Rattle.root_commands.specs.cli-call.tree-disk.Confined.{Among, Confined, LeavesOnly}
use Rattle.root_commands.specs.cli-call.tree-disk.Tree.{Tree}
use Rattle.root_commands.specs.cli-call.journal-log.declared.put.Put.{Put}
use Rattle.root_commands.specs.cli-call.tree-journal.CanBePut.{AllCanBePut}
use Rattle.root_commands.specs.cli-call.tree-journal.Recovery.{is_committed, HoldsLog, RecoversAsThen}
use Rattle.repo_load.specs.Files.{repository_base}
use Rattle.cny_batch.specs.Demo.{demo_lines}
use Rattle.cny_batch.specs.Batch.{IsBatch}
use Rattle.cny_batch.specs.FirstFault.{IsFirstFault}
use Rattle.cny_batch.specs.declared.line.Line.{Line}
use Rattle.root_commands.specs.cli-call.Command.{disks, Rest}
use Rattle.root_commands.specs.cli-call.Runs.{after_opening}
use Rattle.root_commands.specs.cli-call.cny-laws.declared.failure.Failure.TheVariants as failure
use Rattle.root_commands.specs.cli-call.cny-laws.declared.opened.Opened.{Opened}
use Rattle.root_commands.specs.cli-call.cny-laws.Call.{AreOpened, CallState}
use Rattle.root_commands.specs.cli-call.cny-laws.Edits.{Edit, AreEdits, all_edited, edits_beside}
use Rattle.root_commands.specs.cli-call.cny-laws.Reading.{given, IsInput, ReadsGiven}
use Rattle.root_commands.specs.cli-call.cny-laws.Report.{End, Reports, status_of}
use Rattle.root_commands.specs.cli-call.cny-laws.State.{State, Meaning, Scope, tree_of}
use Rattle.root_commands.specs.cli-call.cny-laws.Store.{HasDamagedFile, Recovers, OneOf, IsEntryOr}
use Rattle.root_commands.specs.cli-call.cny-laws.Stores.{root_store, repository_store}
use Rattle.root_commands.specs.cli-call.cny-laws.WholeCall.{AreLater, FromStates, IsCall, RestBoth, after_edits}
use Rattle.root_commands.specs.cli-call.system-core.FixedDirs.{fixed_dirs}
use Rattle.conary_cli.specs.Lines.{CallLine, all_shown, last_shown, LinesEnd, RunsLines}
use Rattle.conary_cli.specs.Lives.{LiveBoth, before_last, last_state}

-- ---- which lines

-- how bytes make lines: which these are, or with which refusal they make none
abbrev pub Making : Type 1
Making = List ℕ → Result (List CallLine) Refusal → Type 0

-- The input is a batch of these lines; or it is refused as malformed at its first fault.
abbrev pub AreBatchLines : Making
AreBatchLines bytes (Ok lines) = (own : List Line) × IsBatch own bytes × (lines ≡ all_shown own)
AreBatchLines bytes (Err r) = (place : ℕ) × (r ≡ Malformed place) × IsFirstFault bytes place

-- The lines of the demo of so many packages, whatever the bytes. Of these only the last writes what it answers.
abbrev pub AreDemoLines : ℕ → Making
AreDemoLines packages bytes (Ok lines) = lines ≡ last_shown (demo_lines packages)
AreDemoLines packages bytes (Err r) = ⊥

-- What comes before the lines, as a command of its own, which has no effect: it is refused where the input makes no lines.
abbrev pub before_lines : Bool → Making → Meaning
before_lines takes AreLines = record {
  takes_input = takes;
  IsOutcome = λ s bytes outcome. (r : Refusal) × (outcome ≡ Err r) × AreLines bytes (Err r);
}

-- It works on neither disk: as of a command that answers from the lists alone, all is said whatever the disks tell or store.
abbrev pub of_input : Scope
of_input = record { of_root = true; of_repository = false; of_tree = false; of_opened = false; of_contents = false; of_records = false; of_lists = true; reads_root = true; reads_repository = true }

module _ {T P : Type 0} (root_disk : DiskModel T) (repo_disk : DiskModel P) where
  -- ---- whatever the disks store

  -- why it ended so
  abbrev pub LinesCause : CallState T P → CallState T P → End → Type 0
  LinesCause before now (Err failure.InputFault) = ⊥
  LinesCause before now (Err failure.OutputFault) = Rose before.out.faults now.out.faults
  LinesCause before now (Err failure.RootFault) = Rose (root_disk.faults before.root) (root_disk.faults now.root)
  LinesCause before now (Err failure.RepositoryFault) = Rose (repo_disk.faults before.repo) (repo_disk.faults now.repo)
  LinesCause before now (Err (failure.Damaged path)) = (IsTrue root_disk.tells → HasDamagedFile root_store (root_disk.reads now.root) path) ⊎ (IsTrue repo_disk.tells → HasDamagedFile repository_store (repo_disk.reads now.repo) path)
  LinesCause before now _ = Unit {0}

  -- ---- from a state that both disks stored once they were opened

  -- The states after each line that was run, and what each disk lived.
  pub record LinesFrom (lines : List CallLine) (s : State) (root : T) (repo : P) (before now : CallState T P) (end : End) : Type 0 where
    pub fixed : fixed_dirs (tree_of s.root) ≡ Ok tt
    pub states : List State
    pub ends : LinesEnd lines s states before.out now.out end
    -- Until a disk is opened a crash leaves a tree as of any call.
    pub root_opening : LeavesOnly root_disk before.root root (IsEntryOr root_store root_disk before.root s.root)
    pub repo_opening : LeavesOnly repo_disk before.repo repo (RecoversAsThen repo_disk repository_store.base before.repo)
    -- From then on they lived these states, with the same moments between for both; one line changes one disk at most.
    pub lives : LiveBoth root_disk repo_disk s states root now.root repo now.repo
    -- after a status up to 4 both rest at the last of the states, also after a crash
    pub rests : status_of end ≤ 4 → RestBoth root_disk repo_disk now (last_state s states)
    -- as they read, they recover to the last but one of the states or to the last
    pub root_reads : OneOf root_store (before_last s states).root (last_state s states).root (root_disk.reads now.root)
    pub repo_reads : OneOf repository_store (before_last s states).repository (last_state s states).repository (repo_disk.reads now.repo)

  -- ---- the lines were run

  -- The disks were opened, the input was read, where one is taken, and made these lines, and they were run.
  pub record LinesWereRun (takes : Bool) (AreLines : Making) (before now : CallState T P) (err err' : SinkState) (status : ℕ) : Type 0 where
    -- how it ended, which the status and the line on the standard error tell
    pub end : End
    pub reports : Reports end err err' status
    -- The input, of which all that follows is said: where one is taken and it is told, all of it; else some bytes.
    pub input : List ℕ
    pub is_input : IsInput takes before.input input
    pub bytes : List ℕ
    pub gives : given takes input ≡ Ok bytes
    pub reads : ReadsGiven takes before.input now.input (Ok bytes)
    pub lines : List CallLine
    pub are : AreLines bytes (Ok lines)
    -- the disks, opened, and what is kept of them in memory then and at the end
    pub root : T
    pub repo : P
    pub opened : Opened
    pub last : Opened
    pub opens : AreOpened root_disk repo_disk before.root root before.repo repo opened
    -- each line in its turn, as each command by itself promises, whatever the disks tell or store
    pub runs : RunsLines root_disk repo_disk lines (after_opening root_disk repo_disk before root repo opened) (record { at = disks now.root now.repo last; out = now.out }) end
    -- why it ended so; after a status up to 4 each disk that is told is at rest, and a crash leaves just what it reads
    pub later : AreLater root_disk repo_disk before now
    pub cause : LinesCause before now end
    pub rest : status_of end ≤ 4 → Rest root_disk repo_disk (disks now.root now.repo last)
    -- the repository is changed below its directory alone
    pub within : IsTrue repo_disk.tells → Confined repo_disk (Among (is_within repository_base)) repo now.repo
    -- its outcome, where both disks recover to a state; and where others edited the root before it was recovered
    pub from : FromStates root_disk repo_disk before (λ s. LinesFrom lines s root repo before now end)
    pub edited : IsTrue root_disk.tells → IsTrue repo_disk.tells → (s : State) (tree : Tree) (edits : List Edit) (puts : List Put) → AreEdits tree edits → root_disk.reads before.root ≡ all_edited tree edits
        → is_committed root_store.base tree ≡ true → HoldsLog root_store.base puts tree → AllCanBePut puts (root_disk.reads before.root) → Recovers root_store tree s.root → Recovers repository_store (repo_disk.reads before.repo) s.repository
        → LinesFrom lines (after_edits s (edits_beside puts edits)) root repo before now end
    pub edited_clear : IsTrue root_disk.tells → IsTrue repo_disk.tells → (s : State) (tree : Tree) (edits : List Edit) → AreEdits tree edits → root_disk.reads before.root ≡ all_edited tree edits
        → is_committed root_store.base tree ≡ false → Recovers root_store tree s.root → Recovers repository_store (repo_disk.reads before.repo) s.repository
        → LinesFrom lines (after_edits s edits) root repo before now end

  -- ---- the whole

  -- A CALL OF SEVERAL LINES: no line was run, and the call keeps all that one of a command promises which is refused where the input
  -- makes no lines; or they were run.
  abbrev pub IsLinesCall : Bool → Making → CallState T P → CallState T P → SinkState → SinkState → ℕ → Type 0
  IsLinesCall takes AreLines before now err err' status = IsCall root_disk repo_disk of_input (before_lines takes AreLines) before now err err' status ⊎ LinesWereRun takes AreLines before now err err' status
