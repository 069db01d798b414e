-- A history of the machine step by step: the lines that count, and the edits.
use Rattle.std.specs.Prelude.{◌≡◌, ℕ, zero, suc, List, [], ◌∷◌, ◌++◌, map, length, Ok}
use Rattle.conary_cli.specs.cli-call.cny-laws.Edits.{Edit}
use Rattle.conary_cli.specs.cli-call.cny-laws.State.{State}
use Rattle.cny_batch.specs.declared.line.Line.{Line}
use Rattle.conary_cli.specs.cli-words.declared.call_words.Call.{Call}
use Rattle.conary_cli.specs.cli-words.Calls.{AreCall}
use Rattle.conary_cli.specs.Lines.{CallLine}
use Rattle.outcome_laws.specs.Histories.{called, crashed, altered, AfterEdit, Event}
use Rattle.outcome_laws.specs.Machine.{Answer, AnswersLine, MakesLines}

-- A line that counts, of a call or of one into which a crash fell; or an edit by others.
pub data Step : Type 0 where
  counts : CallLine → Step
  alters : Edit → Step

-- The steps lead from the one state to the other: each line is done.
abbrev pub StepsTo : List Step → State → State → Type 0
StepsTo [] s t = t ≡ s
StepsTo (counts l ∷ steps) s t = (a : Answer) × AnswersLine l s a × (a.end ≡ Ok tt) × StepsTo steps a.next t
StepsTo (alters e ∷ steps) s t = (mid : State) × AfterEdit e s mid × StepsTo steps mid t

-- this holds of each edit of the steps
abbrev pub OfAlterations : (Edit → Type 0) → List Step → Type 0
OfAlterations Is [] = Unit {0}
OfAlterations Is (counts l ∷ steps) = OfAlterations Is steps
OfAlterations Is (alters e ∷ steps) = Is e × OfAlterations Is steps

-- these are the first lines of a call, so many
abbrev pub AreFirst : Line → ℕ → List CallLine → Type 0
AreFirst l zero lines = lines ≡ []
AreFirst l (suc count) lines = (length lines ≡ suc count) × (c : Call) × AreCall l.words (Ok c) × (more : List CallLine) × MakesLines c l (Ok (lines ++ more))

-- the steps are those of so many lines of a call, and the later ones
abbrev pub ComeFrom : Line → ℕ → List Step → List Step → Type 0
ComeFrom l count later steps = (lines : List CallLine) × AreFirst l count lines × (steps ≡ map (λ line. counts line) lines ++ later)

-- THE STEPS of events: of each call, in order, as many lines as its cut tells, and each edit.
abbrev pub AreSteps : List Event → List ℕ → List Step → Type 0
AreSteps [] cuts steps = steps ≡ []
AreSteps (called l ∷ events) [] steps = ⊥
AreSteps (called l ∷ events) (cut ∷ cuts) steps = (later : List Step) × ComeFrom l cut later steps × AreSteps events cuts later
AreSteps (crashed l ∷ events) [] steps = ⊥
AreSteps (crashed l ∷ events) (cut ∷ cuts) steps = (later : List Step) × ComeFrom l cut later steps × AreSteps events cuts later
AreSteps (altered e ∷ events) cuts steps = (later : List Step) × (steps ≡ alters e ∷ later) × AreSteps events cuts later
