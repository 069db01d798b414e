-- The machine has one answer at most to a line, to lines and to a call, and one fold of a history.
use Rattle.std.proofs.Common.{◌≡◌, ◌⊎◌, inl, inr, ℕ, zero, suc, Bool, true, false, List, [], ◌∷◌, Option, Result, Ok, Err, refl, sym, ap, ◌∙◌, subst}
use Rattle.conary_cli.specs.cli-call.cny-base.declared.options.Options.{Options}
use Rattle.conary_cli.specs.cli-call.cny-base.declared.refusal.Refusal.{Refusal}
use Rattle.conary_cli.specs.cli-call.cny-base.declared.refusal.Refusal.TheVariants as refusal
use Rattle.conary_cli.specs.cli-call.cny-laws.declared.failure.Failure.{Failure}
use Rattle.conary_cli.specs.cli-call.cny-laws.Edits.{Edit, IsEdit}
use Rattle.conary_cli.specs.cli-call.cny-laws.Reading.{given}
use Rattle.conary_cli.specs.cli-call.cny-laws.State.{Effect, Meaning, State, Then, tree_of}
use Rattle.conary_cli.specs.cli-call.cny-laws.WholeCall.{after_edits, Outcome}
use Rattle.conary_cli.specs.cli-call.system-core.FixedDirs.{fixed_dirs}
use Rattle.conary_cli.proofs.cli-call.cny-laws.EditedTrees.{reserved_kept}
use Rattle.cny_batch.specs.declared.line.Line.{Line}
use Rattle.cny_batch.specs.Batch.{IsBatch}
use Rattle.cny_batch.specs.FirstFault.{IsFirstFault}
use Rattle.cny_version.specs.Label.{LabelParts}
use Rattle.repo_shadow.specs.declared.way.Way.{Way}
use Rattle.trove_spec.specs.declared.given.GivenSpec.{GivenSpec}
use Rattle.conary_cli.specs.repo-commands.AskMirror.{ask_mirror}
use Rattle.conary_cli.specs.repo-commands.Commit.{commit}
use Rattle.conary_cli.specs.repo-commands.Cook.{cook}
use Rattle.conary_cli.specs.repo-commands.Listing.{list_committed}
use Rattle.conary_cli.specs.repo-commands.Moving.{move}
use Rattle.conary_cli.specs.repo-commands.Sending.{changeset}
use Rattle.conary_cli.specs.repo-commands.Serving.{serve}
use Rattle.conary_cli.specs.repo-commands.ShowChangeSet.{show_change_set}
use Rattle.conary_cli.specs.repo-commands.TakeMirror.{take_mirror}
use Rattle.conary_cli.specs.root-commands.Erase.{erase}
use Rattle.conary_cli.specs.root-commands.Install.{install}
use Rattle.conary_cli.specs.root-commands.Jobs.{list_jobs}
use Rattle.conary_cli.specs.root-commands.Listing.{list_installed}
use Rattle.conary_cli.specs.root-commands.LocalChanges.{change_locally}
use Rattle.conary_cli.specs.root-commands.RollingBack.{roll_back}
use Rattle.conary_cli.specs.root-commands.Syncing.{sync}
use Rattle.conary_cli.specs.root-commands.Update.{update_input}
use Rattle.conary_cli.specs.root-commands.UpdateSpecs.{update_specs}
use Rattle.conary_cli.specs.root-commands.Verifying.{verify_fully, verify_installed}
use Rattle.conary_cli.specs.cli-words.declared.call_words.Call.{Call}
use Rattle.conary_cli.specs.cli-words.declared.call_words.Call.TheVariants as call
use Rattle.conary_cli.specs.cli-words.declared.words.Command.{Command}
use Rattle.conary_cli.specs.cli-words.declared.words.Command.TheVariants as command
use Rattle.conary_cli.specs.cli-words.Calls.{AreCall}
use Rattle.conary_cli.specs.Commands.{erasing, meaning}
use Rattle.conary_cli.specs.Lines.{all_shown, shown_as, unshown, unshown_outcome, CallLine}
use Rattle.conary_cli.specs.Lives.{last_state}
use Rattle.conary_cli.specs.Several.{AreBatchLines, AreDemoLines}
use Rattle.conary_cli.specs.cli-words.Words.{AreWords}
use Rattle.outcome_laws.specs.OneOutcome.{AtMostOne, HasOneOutcome, IsState}
use Rattle.outcome_laws.specs.Machine.{answer_of, first_then, Answer, Answers, AnswersBy, AnswersCall, AnswersCallBy, AnswersLine, AnswersLines, AnswersMade, GoesOn, HasLines, MakesLines, StopsAt, Tested}
use Rattle.outcome_laws.specs.Histories.{called, crashed, altered, AfterCall, AfterEdit, AfterLines, Answered, Event, Folds, LinesOf}

-- ---- the commands

-- each command has one outcome at most
pub record CommandLaws : Type 0 where
  pub install : (options : Options) → HasOneOutcome (install options)
  pub show : HasOneOutcome show_change_set
  pub cook : (next : Bool) → HasOneOutcome (cook next)
  pub commit : HasOneOutcome commit
  pub serve : HasOneOutcome serve
  pub ask_mirror : HasOneOutcome ask_mirror
  pub take_mirror : HasOneOutcome take_mirror
  pub list_committed : (name : Option (List ℕ)) → HasOneOutcome (list_committed name)
  pub update : (options : Options) (resolve : Bool) (givens : List GivenSpec) → HasOneOutcome (update_specs options resolve givens)
  pub update_input : (options : Options) → HasOneOutcome (update_input options)
  pub sync : (options : Options) → HasOneOutcome (sync options)
  pub erase : (names : List (List ℕ)) (options : Options) → HasOneOutcome (erase names options)
  pub roll_back : (number : Option ℕ) → HasOneOutcome (roll_back number)
  pub list_installed : (name : Option (List ℕ)) → HasOneOutcome (list_installed name)
  pub verify : (names : List (List ℕ)) → HasOneOutcome (verify_installed names)
  pub verify_fully : (names : List (List ℕ)) → HasOneOutcome (verify_fully names)
  pub list_jobs : HasOneOutcome list_jobs
  pub change_locally : (name : List ℕ) → HasOneOutcome (change_locally name)
  pub send : (from : Option GivenSpec) (to : GivenSpec) → HasOneOutcome (changeset from to)
  pub move : (way : Way) (label : LabelParts) (given : GivenSpec) → HasOneOutcome (move way label given)

pub each_once : CommandLaws → (c : Command) → HasOneOutcome (meaning c)
each_once laws (command.Install options) = laws.install options
each_once laws command.ShowChangeSet = laws.show
each_once laws (command.Cook next) = laws.cook next
each_once laws command.Commit = laws.commit
each_once laws command.Serve = laws.serve
each_once laws command.AskMirror = laws.ask_mirror
each_once laws command.TakeMirror = laws.take_mirror
each_once laws (command.ListCommitted name) = laws.list_committed name
each_once laws (command.Update specs options resolve) = laws.update options resolve specs
each_once laws (command.UpdateByInput options) = laws.update_input options
each_once laws (command.Sync options) = laws.sync options
each_once laws (command.Erase names replace) = laws.erase names (erasing replace)
each_once laws (command.Rollback number) = laws.roll_back number
each_once laws (command.ListInstalled name) = laws.list_installed name
each_once laws (command.Verify true names) = laws.verify_fully names
each_once laws (command.Verify false names) = laws.verify names
each_once laws command.ListJobs = laws.list_jobs
each_once laws (command.LocalChanges name) = laws.change_locally name
each_once laws (command.SendChanges from to) = laws.send from to
each_once laws (command.Move way label given) = laws.move way label given

-- ---- a command of which nothing is written

abbrev OwnOf : (Result Effect Refusal → Type 0) → Result Effect Refusal → Type 0
OwnOf Is outcome = (own : Result Effect Refusal) × Is own × (outcome ≡ unshown_outcome own)

then_own : {A : Type 0} (test : Result A Refusal) (Is IsSilent : A → Result Effect Refusal → Type 0) → ((x : A) (o : Result Effect Refusal) → IsSilent x o → OwnOf (Is x) o)
    → (o : Result Effect Refusal) → Then test IsSilent o → OwnOf (Then test Is) o
then_own (Ok x) Is IsSilent each o h = each x o h
then_own (Err r) Is IsSilent each o h = (Err r, refl, h)

pub unshown_own : (m : Meaning) (s : State) (input : List ℕ) (o : Result Effect Refusal) → Outcome (unshown m) s input o → OwnOf (Outcome m s input) o
unshown_own m s input o h = then_own (fixed_dirs (tree_of s.root)) (λ _. Then (given m.takes_input input) (m.IsOutcome s)) (λ _. Then (given m.takes_input input) ((unshown m).IsOutcome s))
    (λ _. then_own (given m.takes_input input) (m.IsOutcome s) ((unshown m).IsOutcome s) (λ bytes p own. own)) o h

unshown_once : (m : Meaning) → HasOneOutcome m → HasOneOutcome (unshown m)
unshown_once m one s input state a b h g =
    let p = unshown_own m s input a h in
    let q = unshown_own m s input b g in
    p.2 ∙ ap unshown_outcome (one s input state p.0 q.0 p.1 q.1) ∙ sym q.2

shown_once : (shown : Bool) (m : Meaning) → HasOneOutcome m → HasOneOutcome (shown_as shown m)
shown_once true m one = one
shown_once false m one = unshown_once m one

-- ---- which lines

-- Bytes are one batch at most, or have one first fault, and never both.
pub record BatchLaws : Type 0 where
  pub lines : (bytes : List ℕ) (a b : List Line) → IsBatch a bytes → IsBatch b bytes → a ≡ b
  pub excluded : (bytes : List ℕ) (a : List Line) (place : ℕ) → IsBatch a bytes → IsFirstFault bytes place → ⊥
  pub fault : (bytes : List ℕ) (p q : ℕ) → IsFirstFault bytes p → IsFirstFault bytes q → p ≡ q

abbrev some_lines : List CallLine → Result (List CallLine) Refusal
some_lines lines = Ok lines

abbrev no_lines : Refusal → Result (List CallLine) Refusal
no_lines r = Err r

tested_once : {A : Type 0} (test : Result A Refusal) (Makes : A → Result (List CallLine) Refusal → Type 0) → ((x : A) → AtMostOne (Makes x)) → AtMostOne (Tested test Makes)
tested_once (Ok x) Makes one = one x
tested_once (Err r) Makes one = λ a b h g. h ∙ sym g

batch_once : BatchLaws → (bytes : List ℕ) → AtMostOne (AreBatchLines bytes)
batch_once laws bytes (Ok a) (Ok b) h g = ap some_lines (h.2 ∙ ap all_shown (laws.lines bytes h.0 g.0 h.1 g.1) ∙ sym g.2)
batch_once laws bytes (Ok a) (Err q) h g = absurd (laws.excluded bytes h.0 g.0 h.1 g.2)
batch_once laws bytes (Err p) (Ok b) h g = absurd (laws.excluded bytes g.0 h.0 g.1 h.2)
batch_once laws bytes (Err p) (Err q) h g = ap no_lines (h.1 ∙ ap (λ (k : ℕ). refusal.Malformed k) (laws.fault bytes h.0 g.0 h.2 g.2) ∙ sym g.1)

demo_once : (packages : ℕ) (bytes : List ℕ) → AtMostOne (AreDemoLines packages bytes)
demo_once packages bytes (Ok a) (Ok b) h g = ap some_lines (h ∙ sym g)
demo_once packages bytes (Ok a) (Err q) h g = absurd g
demo_once packages bytes (Err p) b h g = absurd h

makes_once : BatchLaws → (c : Call) (l : Line) → AtMostOne (MakesLines c l)
makes_once laws (call.Single c) l = λ a b h g. h ∙ sym g
makes_once laws call.Batch l = tested_once (given true l.input) AreBatchLines (batch_once laws)
makes_once laws (call.Demo packages) l = demo_once packages l.input

has_lines_once : BatchLaws → (c : Call) (l : Line) (s : State) → AtMostOne (HasLines c l s)
has_lines_once laws c l s = tested_once (fixed_dirs (tree_of s.root)) (λ _. MakesLines c l) (λ _. makes_once laws c l)

-- ---- answers

-- Each command has one outcome at most, and words are one thing at most.
pub record LineLaws : Type 0 where
  pub outcomes : (c : Command) → HasOneOutcome (meaning c)
  pub words : (words : List (List ℕ)) → AtMostOne (AreWords words)

-- And they call one thing at most, of which a batch is one list of lines at most.
pub record ReadingLaws : Type 0 where
  pub calls : (words : List (List ℕ)) → AtMostOne (AreCall words)
  pub batches : BatchLaws

module _ (laws : LineLaws) where
  answers_by_once : (expected : Result Command Failure) (l : CallLine) (s : State) → IsState s → AtMostOne (AnswersBy expected l s)
  answers_by_once (Ok c) l s state a b h g = h.2 ∙ ap (answer_of s) (shown_once l.shown (meaning c) (laws.outcomes c) s l.line.input state h.0 g.0 h.1 g.1) ∙ sym g.2
  answers_by_once (Err e) l s state a b h g = h ∙ sym g

  pub line_once : (l : CallLine) (s : State) → IsState s → AtMostOne (AnswersLine l s)
  line_once l s state a b h g = answers_by_once g.expected l s state a b
      (subst (λ (x : Result Command Failure). AnswersBy x l s a) (laws.words l.line.words h.expected g.expected h.are g.are) h.is) g.is

  -- behind the first line
  behind_once : (x : Answer) (Behind : Answers → Type 0) → AtMostOne Behind → (a b : Answers) → (StopsAt x a ⊎ GoesOn Behind x a) → (StopsAt x b ⊎ GoesOn Behind x b) → a ≡ b
  behind_once x Behind one a b (inl p) (inl q) = p.2 ∙ sym q.2
  behind_once x Behind one a b (inl p) (inr q) = absurd (cc (sym p.1 ∙ q.1))
  behind_once x Behind one a b (inr p) (inl q) = absurd (cc (sym q.1 ∙ p.1))
  behind_once x Behind one a b (inr p) (inr q) = p.3 ∙ ap (first_then x) (one p.0 q.0 p.2 q.2) ∙ sym q.3

  pub lines_once : (lines : List CallLine) (s : State) → IsState s → AtMostOne (AnswersLines lines s)
  lines_once [] s state a b h g = h ∙ sym g
  lines_once (l ∷ lines) s state a b h g = behind_once g.0 (AnswersLines lines g.0.next) (lines_once lines g.0.next g.1.keeps) a b
      (subst (λ (x : Answer). StopsAt x a ⊎ GoesOn (AnswersLines lines x.next) x a) (line_once l s state h.0 g.0 h.1 g.1) h.2) g.2

  made_once : (lines : Result (List CallLine) Refusal) (s : State) → IsState s → AtMostOne (AnswersMade lines s)
  made_once (Ok lines) s state = lines_once lines s state
  made_once (Err r) s state = λ a b h g. h ∙ sym g

  module _ (reading : ReadingLaws) where
    call_by_once : (expected : Result Call Failure) (l : Line) (s : State) → IsState s → AtMostOne (AnswersCallBy expected l s)
    call_by_once (Ok c) l s state a b h g = made_once g.0 s state a b
        (subst (λ (x : Result (List CallLine) Refusal). AnswersMade x s a) (has_lines_once reading.batches c l s h.0 g.0 h.1 g.1) h.2) g.2
    call_by_once (Err e) l s state a b h g = h ∙ sym g

    pub call_once : (l : Line) (s : State) → IsState s → AtMostOne (AnswersCall l s)
    call_once l s state a b h g = call_by_once g.expected l s state a b
        (subst (λ (x : Result Call Failure). AnswersCallBy x l s a) (reading.calls l.words h.expected g.expected h.are g.are) h.is) g.is

-- ---- the states of the machine

-- behind the first line
behind_state : (s : State) (a : Answer) (Behind : Answers → Type 0) (all : Answers) → IsState a.next → ((more : Answers) → Behind more → IsState (last_state a.next more.states)) → (StopsAt a all ⊎ GoesOn Behind a all) → IsState (last_state s all.states)
behind_state s a Behind all state rest (inl p) = subst (λ (x : Answers). IsState (last_state s x.states)) (sym p.2) state
behind_state s a Behind all state rest (inr p) = subst (λ (x : Answers). IsState (last_state s x.states)) (sym p.3) (rest p.0 p.2)

lines_state : (lines : List CallLine) (s : State) (all : Answers) → IsState s → AnswersLines lines s all → IsState (last_state s all.states)
lines_state [] s all state h = subst (λ (x : Answers). IsState (last_state s x.states)) (sym h) state
lines_state (l ∷ lines) s all state h = behind_state s h.0 (AnswersLines lines h.0.next) all h.1.keeps (λ more is. lines_state lines h.0.next more h.1.keeps is) h.2

made_state : (lines : Result (List CallLine) Refusal) (s : State) (all : Answers) → IsState s → AnswersMade lines s all → IsState (last_state s all.states)
made_state (Ok lines) s all state h = lines_state lines s all state h
made_state (Err r) s all state h = subst (λ (x : Answers). IsState (last_state s x.states)) (sym h) state

call_state_by : (expected : Result Call Failure) (l : Line) (s : State) (all : Answers) → IsState s → AnswersCallBy expected l s all → IsState (last_state s all.states)
call_state_by (Ok c) l s all state h = made_state h.0 s all state h.2
call_state_by (Err e) l s all state h = subst (λ (x : Answers). IsState (last_state s x.states)) (sym h) state

pub call_keeps : (l : Line) (s : State) (all : Answers) → IsState s → AnswersCall l s all → IsState (last_state s all.states)
call_keeps l s all state h = call_state_by h.expected l s all state h.is

after_lines_keeps : (count : ℕ) (lines : List CallLine) (s t : State) → IsState s → AfterLines count lines s t → IsState t
after_lines_keeps zero lines s t state h = subst IsState (sym h) state
after_lines_keeps (suc count) [] s t state h = absurd h
after_lines_keeps (suc count) (l ∷ lines) s t state h = after_lines_keeps count lines h.0.next t h.1.keeps h.3

pub after_call_keeps : (l : Line) (count : ℕ) (s t : State) → IsState s → AfterCall l count s t → IsState t
after_call_keeps l zero s t state h = subst IsState (sym h) state
after_call_keeps l (suc count) s t state h = after_lines_keeps (suc count) h.0 s t state h.2

edited_keeps : (e : Edit) (s : State) → IsEdit s.root.tree e → IsState s → IsState (after_edits s (e ∷ []))
edited_keeps e s edit state = record {
  root = record {
    tree = edit.leaves_tree;
    managed = λ q reserved. reserved_kept s.root.tree e.path e.node edit.not_reserved q reserved ∙ state.root.managed q reserved;
    list = state.root.list;
    fits = state.root.fits;
    few = state.root.few;
    numbered = state.root.numbered;
    number = state.root.number;
    olds = state.root.olds;
  };
  repository = state.repository;
}

pub after_edit_keeps : (e : Edit) (s t : State) → IsState s → AfterEdit e s t → IsState t
after_edit_keeps e s t state (inl p) = subst IsState (sym p.1) (edited_keeps e s p.0 state)
after_edit_keeps e s t state (inr p) = subst IsState (sym p.1) state

pub folds_keep : (events : List Event) (cuts : List ℕ) (s t : State) → IsState s → Folds events cuts s t → IsState t
folds_keep [] [] s t state h = subst IsState (sym h) state
folds_keep [] (cut ∷ cuts) s t state h = absurd h
folds_keep (called l ∷ events) [] s t state h = absurd h
folds_keep (called l ∷ events) (cut ∷ cuts) s t state h = folds_keep events cuts h.0 t (after_call_keeps l cut s h.0 state h.1) h.2
folds_keep (crashed l ∷ events) [] s t state h = absurd h
folds_keep (crashed l ∷ events) (cut ∷ cuts) s t state h = folds_keep events cuts h.0 t (after_call_keeps l cut s h.0 state h.1) h.2
folds_keep (altered e ∷ events) cuts s t state h = folds_keep events cuts h.0 t (after_edit_keeps e s h.0 state h.1) h.2

-- ---- histories

edit_once : (e : Edit) (s : State) → AtMostOne (AfterEdit e s)
edit_once e s a b (inl p) (inl q) = p.1 ∙ sym q.1
edit_once e s a b (inl p) (inr q) = absurd (q.0 p.0)
edit_once e s a b (inr p) (inl q) = absurd (p.0 q.0)
edit_once e s a b (inr p) (inr q) = p.1 ∙ sym q.1

module _ (laws : LineLaws) where
  after_lines_once : (count : ℕ) (lines : List CallLine) (s : State) → IsState s → AtMostOne (AfterLines count lines s)
  after_lines_once zero lines s state a b h g = h ∙ sym g
  after_lines_once (suc count) [] s state a b h g = absurd h
  after_lines_once (suc count) (l ∷ lines) s state a b h g = after_lines_once count lines g.0.next g.1.keeps a b
      (subst (λ (x : Answer). AfterLines count lines x.next a) (line_once laws l s state h.0 g.0 h.1 g.1) h.3) g.3

  module _ (reading : ReadingLaws) where
    lines_of_once : (l : Line) (s : State) → AtMostOne (LinesOf l s)
    lines_of_once l s a b h g =
        let same : h.calls ≡ g.calls = cc (reading.calls l.words (Ok h.calls) (Ok g.calls) h.are g.are) in
        cc (has_lines_once reading.batches g.calls l s (Ok a) (Ok b) (subst (λ (c : Call). HasLines c l s (Ok a)) same h.has) g.has)

    after_call_once : (l : Line) (count : ℕ) (s : State) → IsState s → AtMostOne (AfterCall l count s)
    after_call_once l zero s state a b h g = h ∙ sym g
    after_call_once l (suc count) s state a b h g = after_lines_once (suc count) g.0 s state a b
        (subst (λ (x : List CallLine). AfterLines (suc count) x s a) (lines_of_once l s h.0 g.0 h.1 g.1) h.2) g.2

    pub folds_once : (events : List Event) (cuts : List ℕ) (s : State) → IsState s → AtMostOne (Folds events cuts s)
    folds_once [] [] s state a b h g = h ∙ sym g
    folds_once [] (cut ∷ cuts) s state a b h g = absurd h
    folds_once (called l ∷ events) [] s state a b h g = absurd h
    folds_once (called l ∷ events) (cut ∷ cuts) s state a b h g = folds_once events cuts g.0 (after_call_keeps l cut s g.0 state g.1) a b
        (subst (λ (x : State). Folds events cuts x a) (after_call_once l cut s state h.0 g.0 h.1 g.1) h.2) g.2
    folds_once (crashed l ∷ events) [] s state a b h g = absurd h
    folds_once (crashed l ∷ events) (cut ∷ cuts) s state a b h g = folds_once events cuts g.0 (after_call_keeps l cut s g.0 state g.1) a b
        (subst (λ (x : State). Folds events cuts x a) (after_call_once l cut s state h.0 g.0 h.1 g.1) h.2) g.2
    folds_once (altered e ∷ events) cuts s state a b h g = folds_once events cuts g.0 (after_edit_keeps e s g.0 state g.1) a b
        (subst (λ (x : State). Folds events cuts x a) (edit_once e s h.0 g.0 h.1 g.1) h.2) g.2

    pub answered_once : (events : List Event) (said other : List Answers) (s t u : State) → IsState s → Answered events said s t → Answered events other s u → (said ≡ other) × (t ≡ u)
    answered_once [] [] [] s t u state h g = (refl, h ∙ sym g)
    answered_once [] [] (b ∷ other) s t u state h g = absurd g
    answered_once [] (a ∷ said) other s t u state h g = absurd h
    answered_once (called l ∷ events) [] other s t u state h g = absurd h
    answered_once (called l ∷ events) (a ∷ said) [] s t u state h g = absurd g
    answered_once (called l ∷ events) (a ∷ said) (b ∷ other) s t u state h g =
        let same : a ≡ b = call_once laws reading l s state a b h.0 g.0 in
        let rest = answered_once events said other (last_state s b.states) t u (call_keeps l s b state g.0) (subst (λ (x : Answers). Answered events said (last_state s x.states) t) same h.1) g.1 in
        let behind = rest.0 in
        (λ i. same i ∷ behind i, rest.1)
    answered_once (crashed l ∷ events) said other s t u state h g = absurd h
    answered_once (altered e ∷ events) said other s t u state h g = answered_once events said other g.0 t u (after_edit_keeps e s g.0 state g.1)
        (subst (λ (x : State). Answered events said x t) (edit_once e s h.0 g.0 h.1 g.1) h.2) g.2
