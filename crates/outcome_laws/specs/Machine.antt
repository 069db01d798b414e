-- The machine: what it answers in a state to a line, to several lines, and to a call of the program. No disk is in it, no fault and no
-- want of memory.
use Rattle.std.specs.Prelude.{◌≡◌, ◌⊎◌, ℕ, true, List, [], ◌∷◌, ◌++◌, Result, Ok, Err}
use Rattle.conary_cli.specs.cli-call.cny-base.declared.refusal.Refusal.{Refusal}
use Rattle.conary_cli.specs.cli-call.system-core.FixedDirs.{fixed_dirs}
use Rattle.conary_cli.specs.cli-call.cny-laws.declared.failure.Failure.{Failure}
use Rattle.conary_cli.specs.cli-call.cny-laws.declared.failure.Failure.TheVariants as failure
use Rattle.conary_cli.specs.cli-call.cny-laws.Reading.{given}
use Rattle.conary_cli.specs.cli-call.cny-laws.Report.{End}
use Rattle.conary_cli.specs.cli-call.cny-laws.State.{Effect, State, after, tree_of}
use Rattle.conary_cli.specs.cli-call.cny-laws.WholeCall.{Outcome}
use Rattle.cny_batch.specs.declared.line.Line.{Line}
use Rattle.conary_cli.specs.cli-words.declared.call_words.Call.{Call}
use Rattle.conary_cli.specs.cli-words.declared.call_words.Call.TheVariants as call
use Rattle.conary_cli.specs.cli-words.declared.words.Command.{Command}
use Rattle.conary_cli.specs.cli-words.Calls.{AreCall}
use Rattle.conary_cli.specs.Commands.{meaning}
use Rattle.conary_cli.specs.Lines.{shown_as, CallLine}
use Rattle.conary_cli.specs.Several.{AreBatchLines, AreDemoLines}
use Rattle.conary_cli.specs.cli-words.Words.{AreWords}
use Rattle.outcome_laws.specs.OneOutcome.{IsState}

-- ---- one line

-- the state after it, the bytes that it writes, and how it ends: done, refused, or as no command
pub record Answer : Type 0 where
  pub next : State
  pub out : List ℕ
  pub end : End

-- by an outcome of its command: the effect is done, or nothing is
abbrev pub answer_of : State → Result Effect Refusal → Answer
answer_of s (Ok effect) = record { next = after s effect.change; out = effect.out; end = Ok tt }
answer_of s (Err r) = record { next = s; out = []; end = Err (failure.Refused r) }

-- words that are no command, for this reason
abbrev pub no_command : State → Failure → Answer
no_command s e = record { next = s; out = []; end = Err e }

-- by what its words are
abbrev pub AnswersBy : Result Command Failure → CallLine → State → Answer → Type 0
AnswersBy (Ok c) l s a = (outcome : Result Effect Refusal) × Outcome (shown_as l.shown (meaning c)) s l.line.input outcome × (a ≡ answer_of s outcome)
AnswersBy (Err e) l s a = a ≡ no_command s e

-- THE ANSWER to a line in a state, by what its words are. The state after it is one of the machine's, which all keep the rules.
pub record AnswersLine (l : CallLine) (s : State) (a : Answer) : Type 0 where
  pub expected : Result Command Failure
  pub are : AreWords l.line.words expected
  pub is : AnswersBy expected l s a
  pub keeps : IsState a.next

-- ---- several lines

-- the states after each line that was run, the bytes of all of them in order, and how the last one ended
pub record Answers : Type 0 where
  pub states : List State
  pub out : List ℕ
  pub end : End

-- of no line
abbrev pub none_run : End → Answers
none_run end = record { states = []; out = []; end = end }

-- that of the first line, and those of the lines behind it
abbrev pub first_then : Answer → Answers → Answers
first_then a more = record { states = a.next ∷ more.states; out = a.out ++ more.out; end = more.end }

-- it isn't done, and no line behind it is run
abbrev pub StopsAt : Answer → Answers → Type 0
StopsAt a all = (e : Failure) × (a.end ≡ Err e) × (all ≡ first_then a (none_run a.end))

-- it is done, and those behind it answer so
abbrev pub GoesOn : (Answers → Type 0) → Answer → Answers → Type 0
GoesOn Behind a all = (more : Answers) × (a.end ≡ Ok tt) × Behind more × (all ≡ first_then a more)

-- THE ANSWERS to lines, one after the other, each in the state that the one before left, up to the first that isn't done.
abbrev pub AnswersLines : List CallLine → State → Answers → Type 0
AnswersLines [] s all = all ≡ none_run (Ok tt)
AnswersLines (l ∷ lines) s all = (a : Answer) × AnswersLine l s a × (StopsAt a all ⊎ GoesOn (AnswersLines lines a.next) a all)

-- ---- a call of the program

-- a test's refusal; where it passes, what comes then tells the lines
abbrev pub Tested : {A : Type 0} → Result A Refusal → (A → Result (List CallLine) Refusal → Type 0) → Result (List CallLine) Refusal → Type 0
Tested (Ok x) Makes lines = Makes x lines
Tested (Err r) Makes lines = lines ≡ Err r

-- one command is a line by itself, and a batch and the demo have several
abbrev pub MakesLines : Call → Line → Result (List CallLine) Refusal → Type 0
MakesLines (call.Single c) l lines = lines ≡ Ok (record { shown = true; line = l } ∷ [])
MakesLines call.Batch l lines = Tested (given true l.input) AreBatchLines lines
MakesLines (call.Demo packages) l lines = AreDemoLines packages l.input lines

-- the fixed directories come before
abbrev pub HasLines : Call → Line → State → Result (List CallLine) Refusal → Type 0
HasLines c l s lines = Tested (fixed_dirs (tree_of s.root)) (λ _. MakesLines c l) lines

abbrev pub AnswersMade : Result (List CallLine) Refusal → State → Answers → Type 0
AnswersMade (Ok lines) s all = AnswersLines lines s all
AnswersMade (Err r) s all = all ≡ none_run (Err (failure.Refused r))

abbrev pub AnswersCallBy : Result Call Failure → Line → State → Answers → Type 0
AnswersCallBy (Ok c) l s all = (lines : Result (List CallLine) Refusal) × HasLines c l s lines × AnswersMade lines s all
AnswersCallBy (Err e) l s all = all ≡ none_run (Err e)

-- THE ANSWERS to a call of the program with these words and this input.
pub record AnswersCall (l : Line) (s : State) (all : Answers) : Type 0 where
  pub expected : Result Call Failure
  pub are : AreCall l.words expected
  pub is : AnswersCallBy expected l s all
