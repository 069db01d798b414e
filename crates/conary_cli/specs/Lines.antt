-- Lines over two disks that are open, one after the other.
use Rattle.std.specs.Prelude.{◌≡◌, ◌⊎◌, ℕ, Bool, true, false, IsTrue, List, [], ◌∷◌, map, Result, Ok, Err}
use Rattle.cny_version.specs.cny-base.Flow.{SinkState}
use Rattle.root_commands.specs.cli-call.cny-base.declared.refusal.Refusal.{Refusal}
use Rattle.root_commands.specs.cli-call.tree-disk.Disk.{DiskModel}
use Rattle.cny_batch.specs.declared.line.Line.{Line}
use Rattle.root_commands.specs.cli-call.Command.{AreReady}
use Rattle.root_commands.specs.cli-call.Line.{EndsWriting, Moment, RunsLine}
use Rattle.root_commands.specs.cli-call.cny-laws.declared.failure.Failure.{Failure}
use Rattle.root_commands.specs.cli-call.cny-laws.declared.failure.Failure.TheVariants as failure
use Rattle.root_commands.specs.cli-call.cny-laws.Reading.{given}
use Rattle.root_commands.specs.cli-call.cny-laws.Report.{End, MustBeTold}
use Rattle.root_commands.specs.cli-call.cny-laws.State.{State, Effect, Meaning}
use Rattle.root_commands.specs.cli-call.cny-laws.WholeCall.{OwnOutcome}
use Rattle.cli_words.specs.declared.words.Command.{Command}
use Rattle.conary_cli.specs.Commands.{meaning, scope_of}
use Rattle.conary_cli.specs.Records.{EndsWhole}
use Rattle.conary_cli.specs.Restores.{LineRestores}
use Rattle.cli_words.specs.Words.{AreWords, IsOnly}

-- ---- what a line means

-- a line of a call: its words and its input, and whether what it answers is written
pub record CallLine : Type 0 where
  pub shown : Bool
  pub line : Line

-- all lines write what they answer
abbrev pub all_shown : List Line → List CallLine
all_shown lines = map (λ line. record { shown = true; line = line }) lines

-- only the last one does
abbrev pub last_shown : List Line → List CallLine
last_shown [] = []
last_shown (line ∷ []) = record { shown = true; line = line } ∷ []
last_shown (line ∷ other ∷ lines) = record { shown = false; line = line } ∷ last_shown (other ∷ lines)

-- an outcome of which no byte is written
abbrev pub unshown_outcome : Result Effect Refusal → Result Effect Refusal
unshown_outcome (Ok effect) = Ok (record { change = effect.change; out = [] })
unshown_outcome (Err r) = Err r

-- the same meaning, but that nothing is answered
abbrev pub unshown : Meaning → Meaning
unshown m = record {
  takes_input = m.takes_input;
  IsOutcome = λ s input outcome. (own : Result Effect Refusal) × m.IsOutcome s input own × (outcome ≡ unshown_outcome own);
}

abbrev pub shown_as : Bool → Meaning → Meaning
shown_as true m = m
shown_as false m = unshown m

-- By its words: the outcomes of a command with the line's input; of words that are no command there are none.
abbrev pub LineOutcome : Result Command Failure → CallLine → State → Result Effect Refusal → Type 0
LineOutcome (Ok c) l s outcome = OwnOutcome (shown_as l.shown (meaning c)) s l.line.input outcome
LineOutcome (Err e) l s outcome = ⊥

-- ---- one line, by its steps

-- what a command is given of a line's input
abbrev pub GivesOf : Bool → List ℕ → Result (List ℕ) Failure → Type 0
GivesOf takes input (Ok bytes) = given takes input ≡ Ok bytes
GivesOf takes input (Err (failure.Refused r)) = given takes input ≡ Err r
GivesOf takes input (Err _) = ⊥

module _ {T P : Type 0} (root_disk : DiskModel T) (repo_disk : DiskModel P) where
  -- the line's input is refused for its size, and nothing was done
  pub record RefusesInput (m : Meaning) (input : List ℕ) (old new : Moment T P) (end : End) : Type 0 where
    pub refusal : Refusal
    pub is : end ≡ Err (failure.Refused refusal)
    pub refuses : given m.takes_input input ≡ Err refusal
    pub same : new ≡ old

  -- the command was performed with what it is given of the line's input
  pub record RunsGiven (c : Command) (shown : Bool) (input : List ℕ) (old new : Moment T P) (end : End) : Type 0 where
    pub bytes : List ℕ
    pub gives : given (meaning c).takes_input input ≡ Ok bytes
    pub runs : RunsLine root_disk repo_disk (scope_of c) (shown_as shown (meaning c)) bytes old new end
    pub records : IsTrue root_disk.tells → EndsWhole c (root_disk.reads old.at.root) old.at.opened.db end
    pub restores : LineRestores root_disk c old.at.root new.at.root end
    -- of a line that isn't to be told nothing is written, and the output isn't asked
    pub quiet : shown ≡ false → new.out ≡ old.out
    -- where it is done, a further command may begin
    pub again : end ≡ Ok tt → AreReady root_disk repo_disk new.at

  -- a command, or words that are none, which is usage
  abbrev pub RunsOf : Result Command Failure → CallLine → Moment T P → Moment T P → End → Type 0
  RunsOf (Ok c) l old new end = RefusesInput (meaning c) l.line.input old new end ⊎ RunsGiven c l.shown l.line.input old new end
  RunsOf (Err e) l old new end = (new ≡ old) × (end ≡ Err e) × MustBeTold e

  -- Nothing was done, for want of memory.
  pub record IsNotBegun (old new : Moment T P) (end : End) : Type 0 where
    pub same : new ≡ old
    pub is : end ≡ Err failure.Memory

  -- A line was run as what its words are, which is one thing alone; or memory ran out before.
  abbrev pub RunsOne : CallLine → Moment T P → Moment T P → End → Type 0
  RunsOne l old new end = ((expected : Result Command Failure) × IsOnly (AreWords l.line.words) expected × RunsOf expected l old new end) ⊎ IsNotBegun old new end

  -- ---- lines, by their steps

  -- it ended otherwise than in status 0, and none behind it was run
  pub record IsLastRun (l : CallLine) (old new : Moment T P) (end : End) : Type 0 where
    pub failure : Failure
    pub is : end ≡ Err failure
    pub runs : RunsOne l old new end

  -- None is left, and nothing is done. Or the first was the last that was run; or it ended in status 0, and the rest were run.
  abbrev pub RunsLines : List CallLine → Moment T P → Moment T P → End → Type 0
  RunsLines [] old new end = (new ≡ old) × (end ≡ Ok tt)
  RunsLines (l ∷ lines) old new end = IsLastRun l old new end ⊎ ((mid : Moment T P) × RunsOne l old mid (Ok tt) × RunsLines lines mid new end)

-- ---- lines, from a state that both disks store

-- How a line ended: as its command, with the state after it, and without a call of the output where it isn't shown; or it is none, and
-- nothing was done.
abbrev pub LineEnds : Result Command Failure → CallLine → State → State → SinkState → SinkState → End → Type 0
LineEnds (Ok c) l s next before now end = EndsWriting (LineOutcome (Ok c) l s) s next before now end × (l.shown ≡ false → now ≡ before)
LineEnds (Err e) l s next before now end = (end ≡ Err e) × (next ≡ s) × (now ≡ before)

-- The words of the line are something, which is one thing alone; or memory ran out before they were read.
abbrev pub EndsOne : CallLine → State → State → SinkState → SinkState → End → Type 0
EndsOne l s next before now end = ((expected : Result Command Failure) × IsOnly (AreWords l.line.words) expected × LineEnds expected l s next before now end) ⊎ ((end ≡ Err failure.Memory) × (next ≡ s) × (now ≡ before))

-- THE LINES from a state: the states after each line that was run. Each of these but the last ended in status 0, and wrote what it
-- answers; the last ended the call.
abbrev pub LinesEnd : List CallLine → State → List State → SinkState → SinkState → End → Type 0
LinesEnd [] s states before now end = (states ≡ []) × (now ≡ before) × (end ≡ Ok tt)
LinesEnd (l ∷ lines) s [] before now end = ⊥
LinesEnd (l ∷ lines) s (next ∷ states) before now end =
    ((states ≡ []) × (e : Failure) × (end ≡ Err e) × EndsOne l s next before now end) ⊎ ((mid : SinkState) × EndsOne l s next before mid (Ok tt) × LinesEnd lines next states mid now end)
