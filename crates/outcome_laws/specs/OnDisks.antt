-- Histories on two disks, and to which states they lead.
use Rattle.std.specs.Prelude.{◌≡◌, ◌⊎◌, ℕ, false, List, [], ◌∷◌, length, Ok}
use Rattle.cny_base.specs.Flow.{SinkState, SourceState}
use Rattle.conary_cli.specs.cli-call.tree-disk.Disk.{DiskModel}
use Rattle.conary_cli.specs.cli-call.tree-journal.Recovery.{is_committed}
use Rattle.conary_cli.specs.cli-call.cny-laws.Edits.{Edit, HasEdited, IsEdit}
use Rattle.conary_cli.specs.cli-call.cny-laws.State.{State}
use Rattle.conary_cli.specs.cli-call.cny-laws.Stores.{root_store}
use Rattle.cny_batch.specs.declared.line.Line.{Line}
use Rattle.conary_cli.specs.cli-words.declared.call_words.Call.TheVariants as call
use Rattle.conary_cli.specs.cli-words.declared.words.Command.{Command}
use Rattle.conary_cli.specs.cli-words.Calls.{AreCall}
use Rattle.conary_cli.specs.Lines.{CallLine}
use Rattle.conary_cli.specs.Program.{line_state, told_source, IsSomething}
use Rattle.outcome_laws.specs.Histories.{called, crashed, altered, AfterCall, AfterEdit, Event, LinesOf}
use Rattle.outcome_laws.specs.Images.{HasCrashed}

-- ---- what happens on two disks

module _ {T P : Type 0} (root_disk : DiskModel T) (repo_disk : DiskModel P) where
  -- `run` was called with the words of a line, and with just its input, and answered this status: the first clause of `run`.
  pub record WasCalled (l : Line) (status : ℕ) (root root' : T) (repo repo' : P) : Type 0 where
    pub input : SourceState
    pub out : SinkState
    pub written : SinkState
    pub err : SinkState
    pub told : SinkState
    pub call : IsSomething root_disk repo_disk l.words (line_state (told_source l.input) root repo out) (line_state input root' repo' written) err told status

  -- It was called, and then both disks crashed. (Of a crash in the middle of the call, the disks fail from there on.)
  pub record HasStopped (l : Line) (root root' : T) (repo repo' : P) : Type 0 where
    pub status : ℕ
    pub mid : T
    pub far : P
    pub was_called : WasCalled l status root mid repo far
    pub root_crash : HasCrashed root_disk mid root'
    pub repo_crash : HasCrashed repo_disk far repo'

  -- others edited the root, while its commit flag wasn't set
  pub record WasAltered (e : Edit) (root root' : T) : Type 0 where
    pub edit : IsEdit (root_disk.reads root) e
    pub clear : is_committed root_store.base (root_disk.reads root) ≡ false
    pub edited : HasEdited root_disk e root root'

  -- THE EVENTS happened on the disks, one after the other; the calls that ended answered these statuses, in order.
  abbrev pub Happen : List Event → List ℕ → T → T → P → P → Type 0
  Happen [] [] root root' repo repo' = (root' ≡ root) × (repo' ≡ repo)
  Happen [] (status ∷ statuses) root root' repo repo' = ⊥
  Happen (called l ∷ events) [] root root' repo repo' = ⊥
  Happen (called l ∷ events) (status ∷ statuses) root root' repo repo' = (mid : T) × (far : P) × WasCalled l status root mid repo far × Happen events statuses mid root' far repo'
  Happen (crashed l ∷ events) statuses root root' repo repo' = (mid : T) × (far : P) × HasStopped l root mid repo far × Happen events statuses mid root' far repo'
  Happen (altered e ∷ events) statuses root root' repo repo' = (mid : T) × WasAltered e root mid × Happen events statuses mid root' repo repo'

-- ---- to which states they lead

-- So many lines of a call count, by its status: after 0 all of them, after 3 none, after 1 and 2 none of one command, and else the first
-- so many.
pub record IsCut (l : Line) (s : State) (status count : ℕ) : Type 0 where
  pub all : status ≡ 0 → (lines : List CallLine) × LinesOf l s lines × (count ≡ length lines)
  pub none : status ≡ 3 → count ≡ 0
  pub refused : (status ≡ 1) ⊎ (status ≡ 2) → (c : Command) → AreCall l.words (Ok (call.Single c)) → count ≡ 0

-- a call that ended so leads from the one state to the other
abbrev pub LeadsBy : ℕ → Line → State → State → Type 0
LeadsBy status l s t = (count : ℕ) × IsCut l s status count × AfterCall l count s t

-- THE STATES to which events lead whose calls answered these statuses: those of the fold, for cuts that the statuses tell. Of a call
-- into which a crash fell the first so many lines count.
abbrev pub Lead : List Event → List ℕ → State → State → Type 0
Lead [] [] s t = t ≡ s
Lead [] (status ∷ statuses) s t = ⊥
Lead (called l ∷ events) [] s t = ⊥
Lead (called l ∷ events) (status ∷ statuses) s t = (mid : State) × LeadsBy status l s mid × Lead events statuses mid t
Lead (crashed l ∷ events) statuses s t = (mid : State) × ((count : ℕ) × AfterCall l count s mid) × Lead events statuses mid t
Lead (altered e ∷ events) statuses s t = (mid : State) × AfterEdit e s mid × Lead events statuses mid t
