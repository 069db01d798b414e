-- How many lines of a call count, by what it answered.
--
-- An example, by hand. In a state S a batch has two lines: `install` of a manifest, which is done and writes `installed X`, and
-- `rollback r.9`, which is refused. After status 1 with that text the machine's answer has this status and this text, and the one line
-- that is done counts. After status 5 with no text the root's disk failed in the first line: none counts, or the first. After status 5
-- with the text it failed behind that line, and since the second line isn't done in any state that the first leads to, one counts.
use Rattle.std.specs.Prelude.{◌≡◌, ◌⊎◌, ℕ, ◌≤◌, true, zero, suc, List, [], ◌∷◌, ◌++◌, Ok, Err}
use Rattle.conary_cli.specs.cli-call.cny-base.Reserved.{private_directory}
use Rattle.conary_cli.specs.cli-call.cny-base.declared.refusal.Refusal.{Refusal}
use Rattle.conary_cli.specs.cli-call.system-core.FixedDirs.{fixed_dirs}
use Rattle.conary_cli.specs.cli-call.tree-disk.Tree.{Tree}
use Rattle.conary_cli.specs.cli-call.journal-log.declared.put.Put.{Put}
use Rattle.conary_cli.specs.cli-call.tree-journal.CanBePut.{AllCanBePut}
use Rattle.conary_cli.specs.cli-call.tree-journal.Recovery.{is_committed, HoldsLog}
use Rattle.conary_cli.specs.cli-call.cny-laws.Report.{status_of}
use Rattle.conary_cli.specs.cli-call.cny-laws.State.{State}
use Rattle.cny_batch.specs.declared.line.Line.{Line}
use Rattle.conary_cli.specs.Lines.{CallLine}
use Rattle.conary_cli.specs.Lives.{last_state}
use Rattle.outcome_laws.specs.Machine.{Answer, Answers, AnswersCall, AnswersLine}
use Rattle.outcome_laws.specs.Histories.{lines_done, AfterCall, LinesOf}

-- ---- what lines write

-- The first so many of the lines are done, lead to this state, and write this.
abbrev pub WriteLines : ℕ → List CallLine → State → State → List ℕ → Type 0
WriteLines zero lines s t out = (t ≡ s) × (out ≡ [])
WriteLines (suc count) [] s t out = ⊥
WriteLines (suc count) (l ∷ lines) s t out = (a : Answer) × AnswersLine l s a × (a.end ≡ Ok tt) × (rest : List ℕ) × WriteLines count lines a.next t rest × (out ≡ a.out ++ rest)

-- so many lines of a call do
abbrev pub CallWrites : Line → ℕ → State → List ℕ → Type 0
CallWrites l zero s out = out ≡ []
CallWrites l (suc count) s out = (lines : List CallLine) × LinesOf l s lines × (t : State) × WriteLines (suc count) lines s t out

-- ---- a root that can't be opened

-- The commit flag is set, and the log that stands there can't be put.
pub record CannotPut (tree : Tree) : Type 0 where
  pub set : is_committed private_directory tree ≡ true
  pub puts : List Put
  pub holds : HoldsLog private_directory puts tree
  pub cannot : AllCanBePut puts tree → ⊥

-- It is so, or a fixed directory isn't one.
abbrev pub CannotOpen : Tree → Type 0
CannotOpen tree = CannotPut tree ⊎ ((r : Refusal) × (fixed_dirs tree ≡ Err r))

-- ---- what counts

-- The machine's answer has this status and these bytes. Those of its lines count that are done, and lead to this state.
pub record IsAnswered (l : Line) (s t : State) (status : ℕ) (out : List ℕ) (count : ℕ) : Type 0 where
  pub all : Answers
  pub answers : AnswersCall l s all
  pub status_is : status ≡ status_of all.end
  pub out_is : out ≡ all.out
  pub counted : count ≡ lines_done all
  pub leads : t ≡ last_state s all.states

-- A fault of a disk or want of memory cut it off: what was written is what the lines before the one write which met it. These count,
-- without that one or with it.
pub record IsCutOff (l : Line) (s : State) (status : ℕ) (out : List ℕ) (count : ℕ) : Type 0 where
  pub least : 5 ≤ status
  pub most : status ≤ 7
  pub before : ℕ
  pub wrote : CallWrites l before s out
  pub counted : (count ≡ before) ⊎ (count ≡ suc before)

-- The root, which read this tree, wasn't opened: nothing was done or written.
pub record IsNotOpened (tree : Tree) (status : ℕ) (out : List ℕ) (count : ℕ) : Type 0 where
  pub cannot : CannotOpen tree
  pub some : status ≡ 0 → ⊥
  pub silent : out ≡ []
  pub none : count ≡ 0

-- So many lines of a call count that came to a root which read this tree, and that answered this status and wrote this.
abbrev pub Counts : Tree → ℕ → List ℕ → Line → State → State → ℕ → Type 0
Counts tree status out l s t count = IsNotOpened tree status out count ⊎ (IsAnswered l s t status out count ⊎ IsCutOff l s status out count)

-- the call leads from the one state to the other, by the lines that count
abbrev pub CountsTo : Tree → ℕ → List ℕ → Line → State → State → Type 0
CountsTo tree status out l s t = (count : ℕ) × Counts tree status out l s t count × AfterCall l count s t
