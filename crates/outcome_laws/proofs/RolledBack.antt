-- What the rollbacks among the events restore that `play` makes.
use Rattle.std.proofs.Common.{◌≡◌, ◌⊎◌, inl, inr, ℕ, ◌≤◌, zero, suc, Bool, true, false, List, [], ◌∷◌, ◌++◌, map, length, None, Result, Ok, Err, refl, sym, ap, ◌∙◌, subst}
use Rattle.conary_cli.specs.cli-call.cny-base.declared.refusal.Refusal.{Refusal}
use Rattle.conary_cli.specs.cli-call.tree-disk.Tree.{Tree}
use Rattle.conary_cli.specs.cli-call.local-db.SystemState.{is_listed, StackItem}
use Rattle.conary_cli.specs.cli-call.system-core.FixedDirs.{fixed_dirs}
use Rattle.conary_cli.specs.cli-call.system-core.Restoring.{IsUnedited}
use Rattle.conary_cli.specs.cli-call.cny-laws.declared.failure.Failure.{Failure}
use Rattle.conary_cli.specs.cli-call.cny-laws.declared.failure.Failure.TheVariants as failure
use Rattle.conary_cli.specs.cli-call.cny-laws.Report.{status_of, End}
use Rattle.conary_cli.specs.cli-call.cny-laws.State.{Effect, State, Then, tree_of}
use Rattle.conary_cli.specs.cli-call.cny-laws.WholeCall.{Outcome, OwnOutcome}
use Rattle.cny_batch.specs.declared.line.Line.{Line}
use Rattle.conary_cli.specs.cli-words.declared.call_words.Call.{Call}
use Rattle.conary_cli.specs.cli-words.declared.call_words.Call.TheVariants as call
use Rattle.conary_cli.specs.cli-words.declared.words.Command.{Command}
use Rattle.conary_cli.specs.cli-words.declared.words.Command.TheVariants as command
use Rattle.conary_cli.specs.cli-words.Calls.{AreCall}
use Rattle.conary_cli.specs.cli-words.Words.{AreWords}
use Rattle.conary_cli.specs.Lines.{shown_as, unshown_outcome, CallLine}
use Rattle.conary_cli.specs.Lives.{last_state}
use Rattle.conary_cli.specs.root-commands.RollingBack.{roll_back}
use Rattle.outcome_laws.specs.declared.playing.Event.{Event}
use Rattle.outcome_laws.specs.declared.playing.Event.TheVariants as event
use Rattle.outcome_laws.specs.OneOutcome.{AtMostOne, IsState}
use Rattle.outcome_laws.specs.Machine.{answer_of, first_then, Answer, Answers, AnswersBy, AnswersCallBy, AnswersLine, AnswersLines, AnswersMade, GoesOn, MakesLines, StopsAt, Tested}
use Rattle.outcome_laws.specs.Histories.{called, crashed, altered, AfterCall, AfterLines, Event as HistoryEvent, Folds}
use Rattle.outcome_laws.specs.Restoring.{EndsRestored}
use Rattle.outcome_laws.specs.Cuts.{Counts}
use Rattle.outcome_laws.specs.Play.{answered, met, stopped, EventEnd}
use Rattle.outcome_laws.specs.Played.{FoldsOne, FoldsTold}
use Rattle.outcome_laws.specs.Steps.{counts, alters, AreSteps, ComeFrom, OfAlterations, Step, StepsTo}
use Rattle.outcome_laws.specs.RolledBack.{CallBack, CallsRollback, EndsBack, HasRestored, HasSteps, IsExcepted, IsRollback, IsUntouched, RestoresAt, RollsBack}
use Rattle.outcome_laws.proofs.OneAnswer.{after_edit_keeps, unshown_own}
use Rattle.outcome_laws.proofs.RollingBack.{ends_restored}
use Rattle.outcome_laws.proofs.SinceJobs.{edit_stands, follows_first, follows_last, follows_on, stands_first, stands_last, stands_on, Follows, Stands}
use Rattle.outcome_laws.proofs.StepsKept.{steps_on}
use Rattle.outcome_laws.proofs.ToldFolds.{told_folds}

-- ---- the steps of a fold

-- the first of some lines, as steps before later ones
abbrev SplitLines : ℕ → List CallLine → State → State → Type 0
SplitLines count lines s t = (first : List CallLine) × (more : List CallLine) × (lines ≡ first ++ more) × (length first ≡ count)
    × ((later : List Step) (u : State) → StepsTo later t u → StepsTo (map (λ line. counts line) first ++ later) s u)

split_lines : (count : ℕ) (lines : List CallLine) (s t : State) → AfterLines count lines s t → SplitLines count lines s t
split_lines zero lines s t h = ([], lines, refl, refl, λ later u on. subst (λ (x : State). StepsTo later x u) h on)
split_lines (suc count) [] s t h = absurd h
split_lines (suc count) (l ∷ lines) s t h =
    let rest = split_lines count lines h.0.next t h.3 in (
      l ∷ rest.0,
      rest.1,
      ap (λ (x : List CallLine). l ∷ x) rest.2,
      ap (λ (n : ℕ). suc n) rest.3,
      λ later u on. (h.0, h.1, h.2, rest.4 later u on),
    )

-- where the tests pass, the lines are made
lines_made : (test : Result (Unit {0}) Refusal) (c : Call) (l : Line) (lines : List CallLine) → Tested test (λ _. MakesLines c l) (Ok lines) → MakesLines c l (Ok lines)
lines_made (Ok x) c l lines h = h
lines_made (Err r) c l lines h = absurd (cc h)

call_steps : (l : Line) (count : ℕ) (s t : State) → AfterCall l count s t → (later : List Step) (u : State) → StepsTo later t u → (steps : List Step) × ComeFrom l count later steps × StepsTo steps s u
call_steps l zero s t h later u on = (later, ([], refl, refl), subst (λ (x : State). StepsTo later x u) h on)
call_steps l (suc count) s t h later u on =
    let split = split_lines (suc count) h.0 s t h.2 in (
      map (λ line. counts line) split.0 ++ later,
      (
        split.0,
        (
          split.3,
          h.1.calls,
          h.1.are,
          split.1,
          subst (λ (x : List CallLine). MakesLines h.1.calls l (Ok x)) split.2 (lines_made (fixed_dirs (tree_of s.root)) h.1.calls l h.0 h.1.has),
        ),
        refl,
      ),
      split.4 later u on,
    )

folds_steps : (events : List HistoryEvent) (cuts : List ℕ) (s t : State) → Folds events cuts s t → (steps : List Step) × AreSteps events cuts steps × StepsTo steps s t
folds_steps [] [] s t h = ([], refl, h)
folds_steps [] (cut ∷ cuts) s t h = absurd h
folds_steps (called l ∷ events) [] s t h = absurd h
folds_steps (called l ∷ events) (cut ∷ cuts) s t h =
    let later = folds_steps events cuts h.0 t h.2 in
    let all = call_steps l cut s h.0 h.1 later.0 t later.2 in
    (all.0, (later.0, all.1, later.1), all.2)
folds_steps (crashed l ∷ events) [] s t h = absurd h
folds_steps (crashed l ∷ events) (cut ∷ cuts) s t h =
    let later = folds_steps events cuts h.0 t h.2 in
    let all = call_steps l cut s h.0 h.1 later.0 t later.2 in
    (all.0, (later.0, all.1, later.1), all.2)
folds_steps (altered e ∷ events) cuts s t h =
    let later = folds_steps events cuts h.0 t h.2 in
    (alters e ∷ later.0, (later.0, refl, later.1), (h.0, h.1, later.2))

pub told_steps : (events : List Event) (ends : List EventEnd) (cuts : List ℕ) (s t : State) → FoldsTold events ends cuts s t → HasSteps events ends cuts s t
told_steps events ends cuts s t h =
    let told = told_folds events ends cuts s t h in
    let all = folds_steps told.0 cuts s t told.2 in
    record { history = told.0; told = told.1; steps = all.0; are = all.1; lead = all.2 }

-- the states between them keep the rules
steps_keep : (steps : List Step) (s t : State) → IsState s → StepsTo steps s t → IsState t
steps_keep [] s t state h = subst IsState (sym h) state
steps_keep (counts l ∷ steps) s t state h = steps_keep steps h.0.next t h.1.keeps h.3
steps_keep (alters e ∷ steps) s t state h = steps_keep steps h.0 t (after_edit_keeps e s h.0 state h.1) h.2

-- ---- a job at whose paths nothing was edited since

module _ (o : StackItem) (steps : List Step) (r s : State) (state : IsState r) (job : IsUntouched o steps r s) where
  made_state : IsState job.made
  made_state = steps_keep job.first r job.made state job.before

  is_state : IsState s
  is_state = steps_keep job.since job.made s made_state job.later

  unedited : IsUnedited o s.root.tree
  unedited = stands_last o s.root job.others job.again
      (steps_on (Stands o) (stands_on o) (λ e. is_listed o.paths e.path ≡ false) (edit_stands o) job.since job.made s job.beside
      (stands_first o job.made.root job.olds made_state.root job.stack job.tree) job.later)

  pub whole : OfAlterations (λ e. ⊥) job.since → s.root.tree ≡ o.after
  whole none = follows_last o s.root job.others job.again
      (steps_on (Follows o) (follows_on o) (λ e. ⊥) (λ e x never p. absurd never) job.since job.made s none
      (follows_first o job.made.root job.olds made_state.root job.stack job.tree) job.later)

  -- ---- a line that rolls it back

  -- an outcome restores what stood before it, or is an exception
  abbrev Back : Result Effect Refusal → Type 0
  Back (Ok e) = EndsRestored o s (Ok e)
  Back (Err why) = IsExcepted o s why

  restored : (outcome : Result Effect Refusal) → EndsRestored o s outcome → Back outcome
  restored (Ok e) h = h
  restored (Err why) h = inl h

  own_back : (input : List ℕ) (outcome : Result Effect Refusal) → Outcome (roll_back None) s input outcome → Back outcome
  own_back input outcome h = by (fixed_dirs (tree_of s.root)) refl h
    where
      by : (test : Result (Unit {0}) Refusal) → fixed_dirs (tree_of s.root) ≡ test → Then test (λ _. OwnOutcome (roll_back None) s input) outcome → Back outcome
      by (Ok x) found own = restored outcome (ends_restored s is_state.root o job.others job.again unedited input outcome found h)
      by (Err r) found is = subst Back (sym is) (inr found)

  silent_back : (outcome : Result Effect Refusal) → Back outcome → Back (unshown_outcome outcome)
  silent_back (Ok e) h = h
  silent_back (Err why) h = h

  shown_back : (shown : Bool) (input : List ℕ) (outcome : Result Effect Refusal) → Outcome (shown_as shown (roll_back None)) s input outcome → Back outcome
  shown_back true input outcome h = own_back input outcome h
  shown_back false input outcome h =
      let own = unshown_own (roll_back None) s input outcome h in
      subst Back (sym own.2) (silent_back own.0 (own_back input own.0 own.1))

  answer_back : (outcome : Result Effect Refusal) → Back outcome → EndsBack o s (answer_of s outcome).next (answer_of s outcome).end
  answer_back (Ok e) h = h
  answer_back (Err why) h = (refl, h)

  answered_back : (l : CallLine) (a : Answer) → AnswersBy (Ok (command.Rollback None)) l s a → EndsBack o s a.next a.end
  answered_back l a h = subst (λ (x : Answer). EndsBack o s x.next x.end) (sym h.2) (answer_back h.0 (shown_back l.shown l.line.input h.0 h.1))

  pub line_back : (l : CallLine) (a : Answer) → AtMostOne (AreWords l.line.words) → AreWords l.line.words (Ok (command.Rollback None)) → AnswersLine l s a → EndsBack o s a.next a.end
  line_back l a once words h = answered_back l a (subst (λ (x : Result Command Failure). AnswersBy x l s a) (once h.expected (Ok (command.Rollback None)) h.are words) h.is)

  -- ---- a call that rolls it back

  module _ (l : Line) (is : IsRollback l.words) (words_once : AtMostOne (AreWords l.words)) (calls_once : AtMostOne (AreCall l.words)) where
    abbrev shown : CallLine
    shown = record { shown = true; line = l }

    abbrev rollback : Call
    rollback = call.Single (command.Rollback None)

    one_back : (a : Answer) → AnswersLine shown s a → EndsBack o s a.next a.end
    one_back a h = line_back shown a words_once is.are h

    by_end : (tree : Tree) (end : End) (next : State) → EndsBack o s next end → CallBack o tree (status_of end) s next
    by_end tree (Ok x) next h = inl (h, inl refl)
    by_end tree (Err (failure.Refused why)) next h = inr (h.0, inl (refl, why, h.1))
    by_end tree (Err failure.Usage) next h = absurd h
    by_end tree (Err failure.InputFault) next h = absurd h
    by_end tree (Err failure.OutputFault) next h = absurd h
    by_end tree (Err failure.RootFault) next h = absurd h
    by_end tree (Err failure.RepositoryFault) next h = absurd h
    by_end tree (Err failure.Memory) next h = absurd h
    by_end tree (Err (failure.Damaged path)) next h = absurd h

    -- by the machine's answer
    abbrev AllBack : Tree → Answers → Type 0
    AllBack tree all = CallBack o tree (status_of all.end) s (last_state s all.states)

    one_line : (tree : Tree) (all : Answers) → AnswersLines (shown ∷ []) s all → AllBack tree all
    one_line tree all h = by h.2
      where
        by : (StopsAt h.0 all ⊎ GoesOn (AnswersLines [] h.0.next) h.0 all) → AllBack tree all
        by (inl p) = subst (AllBack tree) (sym p.2) (by_end tree h.0.end h.0.next (one_back h.0 h.1))
        by (inr p) = subst (AllBack tree) (sym p.3)
            (subst (λ (x : Answers). AllBack tree (first_then h.0 x)) (sym p.2) (by_end tree (Ok tt) h.0.next (subst (EndsBack o s h.0.next) p.1 (one_back h.0 h.1))))

    made_back : (tree : Tree) (all : Answers) (test : Result (Unit {0}) Refusal) (lines : Result (List CallLine) Refusal) → fixed_dirs (tree_of s.root) ≡ test → Tested test (λ _. MakesLines rollback l) lines → AnswersMade lines s all
        → AllBack tree all
    made_back tree all (Ok x) lines found makes made = one_line tree all (subst (λ (y : Result (List CallLine) Refusal). AnswersMade y s all) makes made)
    made_back tree all (Err r) lines found makes made = subst (AllBack tree) (sym (subst (λ (y : Result (List CallLine) Refusal). AnswersMade y s all) makes made)) (inr (refl, inl (refl, r, inr found)))

    all_back : (tree : Tree) (all : Answers) → AnswersCallBy (Ok rollback) l s all → AllBack tree all
    all_back tree all h = made_back tree all (fixed_dirs (tree_of s.root)) h.0 refl h.1 h.2

    -- by the lines that count
    no_more : (count : ℕ) (x t : State) → AfterLines count [] x t → t ≡ x
    no_more zero x t h = h
    no_more (suc count) x t h = absurd h

    first_back : (count : ℕ) (t : State) → AfterLines (suc count) (shown ∷ []) s t → HasRestored o s t
    first_back count t h = subst (HasRestored o s) (sym (no_more count h.0.next t h.3)) (subst (EndsBack o s h.0.next) h.2 (one_back h.0 h.1))

    its_line : (c : Call) (lines : List CallLine) → AreCall l.words (Ok c) → MakesLines c l (Ok lines) → lines ≡ shown ∷ []
    its_line c lines are makes =
        let same : c ≡ rollback = cc (calls_once (Ok c) (Ok rollback) are is.calls) in
        cc (subst (λ (x : Call). MakesLines x l (Ok lines)) same makes)

    counted_back : (count : ℕ) (t : State) → AfterCall l (suc count) s t → HasRestored o s t
    counted_back count t h = first_back count t
        (subst (λ (x : List CallLine). AfterLines (suc count) x s t) (its_line h.1.calls h.0 h.1.are (lines_made (fixed_dirs (tree_of s.root)) h.1.calls l h.0 h.1.has)) h.2)

    off_back : (tree : Tree) (status count : ℕ) (t : State) → 5 ≤ status → status ≤ 7 → AfterCall l count s t → CallBack o tree status s t
    off_back tree status zero t least most h = inr (h, inr (inl (least, most)))
    off_back tree status (suc count) t least most h = inl (counted_back count t h, inr (least, most))

    pub call_back : (tree : Tree) (status : ℕ) (out : List ℕ) (count : ℕ) (t : State) → Counts tree status out l s t count → AfterCall l count s t → CallBack o tree status s t
    call_back tree status out count t (inl n) h = inr (subst (λ (k : ℕ). AfterCall l k s t) n.none h, inr (inr (n.cannot, n.some)))
    call_back tree status out count t (inr (inl a)) h =
        subst (λ (k : ℕ). CallBack o tree k s t) (sym a.status_is)
        (subst (CallBack o tree (status_of a.all.end) s) (sym a.leads)
        (all_back tree a.all (subst (λ (x : Result Call Failure). AnswersCallBy x l s a.all) (calls_once a.answers.expected (Ok rollback) a.answers.are is.calls) a.answers.is)))
    call_back tree status out count t (inr (inr off)) h = off_back tree status count t off.least off.most h

-- ---- the whole

-- words are one thing at most
pub record OneReading : Type 0 where
  pub words : (words : List (List ℕ)) → AtMostOne (AreWords words)
  pub calls : (words : List (List ℕ)) → AtMostOne (AreCall words)

module _ (once : OneReading) where
  event_back : (o : StackItem) (steps : List Step) (e : Event) (end : EventEnd) (cuts rest : List ℕ) (r s t : State) → IsState r → CallsRollback e → IsUntouched o steps r s → FoldsOne e end cuts rest s t → RollsBack o end s t
  event_back o steps (event.Call l) (answered tree status out) cuts rest r s t state is job h = call_back o steps r s state job l is (once.words l.words) (once.calls l.words) tree status out h.0 t h.2 h.3
  event_back o steps (event.Call l) (stopped tree status out) cuts rest r s t state is job h = absurd h
  event_back o steps (event.Call l) (met tree) cuts rest r s t state is job h = absurd h
  event_back o steps (event.Stopped l repo_calls root_calls pick) (answered tree status out) cuts rest r s t state is job h = absurd h
  event_back o steps (event.Stopped l repo_calls root_calls pick) (stopped tree status out) cuts rest r s t state is job h = call_back o steps r s state job l is (once.words l.words) (once.calls l.words) tree status out h.0 t h.2 h.3
  event_back o steps (event.Stopped l repo_calls root_calls pick) (met tree) cuts rest r s t state is job h = absurd h
  event_back o steps (event.Edit path _) end cuts rest r s t state is job h = absurd is

  -- ---- where the events are parted

  -- one event, with other cuts behind its own
  abbrev ToldBefore : Event → EventEnd → List ℕ → List ℕ → List ℕ → State → State → Type 0
  ToldBefore e end cuts rest firsts s t = (own : List ℕ) × FoldsOne e end own firsts s t × ((here : List ℕ) → rest ≡ firsts ++ here → cuts ≡ own ++ here)

  told_before : (e : Event) (end : EventEnd) (cuts rest firsts : List ℕ) (s t : State) → FoldsOne e end cuts rest s t → ToldBefore e end cuts rest firsts s t
  told_before (event.Call l) (answered tree status out) cuts rest firsts s t h = (h.0 ∷ firsts, (h.0, refl, h.2, h.3), λ here is. h.1 ∙ ap (λ (x : List ℕ). h.0 ∷ x) is)
  told_before (event.Call l) (stopped tree status out) cuts rest firsts s t h = absurd h
  told_before (event.Call l) (met tree) cuts rest firsts s t h = absurd h
  told_before (event.Stopped l repo_calls root_calls pick) (answered tree status out) cuts rest firsts s t h = absurd h
  told_before (event.Stopped l repo_calls root_calls pick) (stopped tree status out) cuts rest firsts s t h = (h.0 ∷ firsts, (h.0, refl, h.2, h.3), λ here is. h.1 ∙ ap (λ (x : List ℕ). h.0 ∷ x) is)
  told_before (event.Stopped l repo_calls root_calls pick) (met tree) cuts rest firsts s t h = absurd h
  told_before (event.Edit path _) (answered tree status out) cuts rest firsts s t h = absurd h
  told_before (event.Edit path _) (stopped tree status out) cuts rest firsts s t h = absurd h
  told_before (event.Edit path _) (met tree) cuts rest firsts s t h = (firsts, (refl, h.1), λ here is. h.0 ∙ is)

  -- the fold of the first events, and from there that of the others
  abbrev Parted : List Event → List EventEnd → List Event → List EventEnd → List ℕ → State → State → Type 0
  Parted events ends more later cuts s u = (firsts : List ℕ) × (here : List ℕ) × (t : State) × FoldsTold events ends firsts s t × FoldsTold more later here t u × (cuts ≡ firsts ++ here)

  parted : (events : List Event) (ends : List EventEnd) (more : List Event) (later : List EventEnd) (cuts : List ℕ) (s u : State) → length ends ≡ length events → FoldsTold (events ++ more) (ends ++ later) cuts s u
      → Parted events ends more later cuts s u
  parted [] [] more later cuts s u same h = ([], cuts, s, (refl, refl), h, refl)
  parted [] (end ∷ ends) more later cuts s u same h = absurd (cc same)
  parted (e ∷ events) [] more later cuts s u same h = absurd (cc same)
  parted (e ∷ events) (end ∷ ends) more later cuts s u same h =
      let rest = parted events ends more later h.0 h.1 u (cc same) h.3 in
      let one = told_before e end cuts h.0 rest.0 s h.1 h.2 in
      (one.0, rest.1, rest.2, (rest.0, h.1, one.1, rest.3), rest.4, one.2 rest.1 rest.5)

  pub rolled_back : (events behind : List Event) (e : Event) (ends later : List EventEnd) (end : EventEnd) (cuts : List ℕ) (r u : State) → IsState r → CallsRollback e → length ends ≡ length events
      → FoldsTold (events ++ e ∷ behind) (ends ++ end ∷ later) cuts r u → RestoresAt events ends e end behind later cuts r u
  rolled_back events behind e ends later end cuts r u state is same h =
      let parts = parted events ends (e ∷ behind) (end ∷ later) cuts r u same h in
      let stepped = told_steps events ends parts.0 r parts.2 parts.3 in
      record {
        firsts = parts.0;
        here = parts.1;
        rest = parts.4.0;
        are = parts.5;
        s = parts.2;
        t = parts.4.1;
        before = parts.3;
        one = parts.4.2;
        after = parts.4.3;
        stepped = stepped;
        restores = λ o job. event_back o stepped.steps e end parts.1 parts.4.0 r parts.2 parts.4.1 state is job parts.4.2;
      }

  pub line_rolled_back : (o : StackItem) (steps : List Step) (r s : State) (l : CallLine) (a : Answer) → IsState r → IsUntouched o steps r s → AreWords l.line.words (Ok (command.Rollback None)) → AnswersLine l s a → EndsBack o s a.next a.end
  line_rolled_back o steps r s l a state job words h = line_back o steps r s state job l a (once.words l.line.words) words h
