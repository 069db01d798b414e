-- Histories: lists of calls, edits and crashes, and what they make of a state.
--
-- An example, by hand. In a state S `install` of a manifest writes /etc/motd; then somebody edits /etc/motd; then a crash falls into
-- `install --replace` of a newer manifest, before its commit flag is set; then `rollback` is called, and refused, since what stands at
-- /etc/motd isn't what the job left. The events are `called`, `altered`, `crashed` and `called`, and the cuts 1, 0 and 0: of the first
-- call its one line counts, of the stopped one none, and a refused line never does. The fold is S with the first job and the edit.
-- With the cuts 1, 1 and 1 the stopped call counts whole, and so does the rollback, which takes it back and leaves the edited file:
-- the fold is the same state.
use Rattle.std.specs.Prelude.{◌≡◌, ◌⊎◌, ℕ, ◌-◌, zero, suc, List, [], ◌∷◌, length, Ok, Err}
use Rattle.conary_cli.specs.cli-call.cny-laws.Edits.{Edit, IsEdit}
use Rattle.conary_cli.specs.cli-call.cny-laws.Report.{End}
use Rattle.conary_cli.specs.cli-call.cny-laws.State.{State}
use Rattle.conary_cli.specs.cli-call.cny-laws.WholeCall.{after_edits}
use Rattle.cny_batch.specs.declared.line.Line.{Line}
use Rattle.conary_cli.specs.cli-words.declared.call_words.Call.{Call}
use Rattle.conary_cli.specs.cli-words.Calls.{AreCall}
use Rattle.conary_cli.specs.Lines.{CallLine}
use Rattle.conary_cli.specs.Lives.{last_state}
use Rattle.outcome_laws.specs.Machine.{Answer, Answers, AnswersCall, AnswersLine, HasLines}

-- ---- events

-- The program is called; a crash falls into a call of it; or others alter the root, between calls.
pub data Event : Type 0 where
  called : Line → Event
  crashed : Line → Event
  altered : Edit → Event

-- this holds of each edit of the events
abbrev pub OfEdits : (Edit → Type 0) → List Event → Type 0
OfEdits Is [] = Unit {0}
OfEdits Is (called l ∷ events) = OfEdits Is events
OfEdits Is (crashed l ∷ events) = OfEdits Is events
OfEdits Is (altered e ∷ events) = Is e × OfEdits Is events

-- ---- what counts of a call

-- the state after the first so many of the lines, each of which is done
abbrev pub AfterLines : ℕ → List CallLine → State → State → Type 0
AfterLines zero lines s t = t ≡ s
AfterLines (suc count) [] s t = ⊥
AfterLines (suc count) (l ∷ lines) s t = (a : Answer) × AnswersLine l s a × (a.end ≡ Ok tt) × AfterLines count lines a.next t

-- the call has these lines in this state
pub record LinesOf (l : Line) (s : State) (lines : List CallLine) : Type 0 where
  pub calls : Call
  pub are : AreCall l.words (Ok calls)
  pub has : HasLines calls l s (Ok lines)

-- the state after a call of which so many lines count
abbrev pub AfterCall : Line → ℕ → State → State → Type 0
AfterCall l zero s t = t ≡ s
AfterCall l (suc count) s t = (lines : List CallLine) × LinesOf l s lines × AfterLines (suc count) lines s t

-- ---- edits

-- An edit that others may make changes the tree of the root, and nothing else; any other is passed over.
abbrev pub AfterEdit : Edit → State → State → Type 0
AfterEdit e s t = (IsEdit s.root.tree e × (t ≡ after_edits s (e ∷ []))) ⊎ ((IsEdit s.root.tree e → ⊥) × (t ≡ s))

-- ---- the fold

-- THE FOLD of events: the state after them, where the cuts tell of each call, in order, how many of its lines count.
abbrev pub Folds : List Event → List ℕ → State → State → Type 0
Folds [] [] s t = t ≡ s
Folds [] (cut ∷ cuts) s t = ⊥
Folds (called l ∷ events) [] s t = ⊥
Folds (called l ∷ events) (cut ∷ cuts) s t = (mid : State) × AfterCall l cut s mid × Folds events cuts mid t
Folds (crashed l ∷ events) [] s t = ⊥
Folds (crashed l ∷ events) (cut ∷ cuts) s t = (mid : State) × AfterCall l cut s mid × Folds events cuts mid t
Folds (altered e ∷ events) cuts s t = (mid : State) × AfterEdit e s mid × Folds events cuts mid t

-- WITHOUT CRASHES: what the machine answers to each call, in order, and the state after all events.
abbrev pub Answered : List Event → List Answers → State → State → Type 0
Answered [] [] s t = t ≡ s
Answered [] (all ∷ said) s t = ⊥
Answered (called l ∷ events) [] s t = ⊥
Answered (called l ∷ events) (all ∷ said) s t = AnswersCall l s all × Answered events said (last_state s all.states) t
Answered (crashed l ∷ events) said s t = ⊥
Answered (altered e ∷ events) said s t = (mid : State) × AfterEdit e s mid × Answered events said mid t

-- of so many lines that were run, the last of which ended so, those that are done
abbrev pub done_of : End → ℕ → ℕ
done_of (Ok x) run = run
done_of (Err e) run = run - 1

-- how many lines of a call count that was answered so: those that are done
abbrev pub lines_done : Answers → ℕ
lines_done all = done_of all.end (length all.states)
