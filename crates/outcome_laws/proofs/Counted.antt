-- What is answered without crashes is the fold in which all lines count that are done; and folds go on.
use Rattle.std.proofs.Common.{◌≡◌, ◌⊎◌, inl, inr, ℕ, ◌≤◌, zero, suc, Bool, true, false, List, [], ◌∷◌, ◌++◌, map, length, Result, Ok, Err, refl, sym, ap, ◌∙◌, subst, arith}
use Rattle.conary_cli.specs.cli-call.cny-base.declared.refusal.Refusal.{Refusal}
use Rattle.conary_cli.specs.cli-call.cny-laws.declared.failure.Failure.{Failure}
use Rattle.conary_cli.specs.cli-call.cny-laws.declared.failure.Failure.TheVariants as failure
use Rattle.conary_cli.specs.cli-call.cny-laws.Reading.{given}
use Rattle.conary_cli.specs.cli-call.cny-laws.Report.{End}
use Rattle.conary_cli.specs.cli-call.cny-laws.State.{Effect, IsNext, Meaning, State, Takes, Then, tree_of}
use Rattle.conary_cli.specs.cli-call.cny-laws.WholeCall.{Outcome, OwnOutcome}
use Rattle.conary_cli.specs.cli-call.system-core.FixedDirs.{fixed_dirs}
use Rattle.cny_batch.specs.declared.line.Line.{Line}
use Rattle.conary_cli.specs.cli-words.declared.call_words.Call.{Call}
use Rattle.conary_cli.specs.cli-words.declared.call_words.Call.TheVariants as call
use Rattle.conary_cli.specs.cli-words.declared.words.Command.{Command}
use Rattle.conary_cli.specs.cli-words.Calls.{AreCall}
use Rattle.conary_cli.specs.Commands.{meaning}
use Rattle.conary_cli.specs.Lines.{CallLine}
use Rattle.conary_cli.specs.Lives.{last_state}
use Rattle.conary_cli.specs.Several.{before_lines, AreBatchLines, AreDemoLines}
use Rattle.conary_cli.specs.cli-words.Words.{AreWords}
use Rattle.outcome_laws.specs.OneOutcome.{IsState}
use Rattle.outcome_laws.specs.Machine.{answer_of, first_then, none_run, Answer, Answers, AnswersBy, AnswersCall, AnswersCallBy, AnswersLine, AnswersLines, AnswersMade, GoesOn, HasLines, MakesLines, StopsAt, Tested}
use Rattle.outcome_laws.specs.Histories.{called, crashed, altered, done_of, lines_done, AfterCall, AfterLines, Answered, Event, Folds, LinesOf}

-- ---- a line that isn't done

unended : (s : State) (a : Answer) (e : Failure) (outcome : Result Effect Refusal) → a ≡ answer_of s outcome → a.end ≡ Err e → a.next ≡ s
unended s a e (Ok effect) is ended = absurd (cc (sym (ap (λ (x : Answer). x.end) is) ∙ ended))
unended s a e (Err r) is ended = ap (λ (x : Answer). x.next) is

undone_by : (expected : Result Command Failure) (l : CallLine) (s : State) (a : Answer) (e : Failure) → AnswersBy expected l s a → a.end ≡ Err e → a.next ≡ s
undone_by (Ok c) l s a e h ended = unended s a e h.0 h.2 ended
undone_by (Err f) l s a e h ended = ap (λ (x : Answer). x.next) h

-- ---- several lines

run_some : (lines : List CallLine) (s : State) (all : Answers) (e : Failure) → AnswersLines lines s all → all.end ≡ Err e → 1 ≤ length all.states
run_some [] s all e h ended = absurd (cc (sym (ap (λ (x : Answers). x.end) h) ∙ ended))
run_some (l ∷ lines) s all e h ended = by h.2
  where
    some : (more : Answers) → all ≡ first_then h.0 more → 1 ≤ length all.states
    some more is = subst (λ (x : Answers). 1 ≤ length x.states) (sym is) (omega arith)

    by : (StopsAt h.0 all ⊎ GoesOn (AnswersLines lines h.0.next) h.0 all) → 1 ≤ length all.states
    by (inl p) = some (none_run h.0.end) p.2
    by (inr p) = some p.0 p.3

one_more : (end : End) (run : ℕ) → ((e : Failure) → end ≡ Err e → 1 ≤ run) → done_of end (suc run) ≡ suc (done_of end run)
one_more (Ok x) run some = refl
one_more (Err e) run some = let least = some e refl in omega (arith, least)

-- behind the first line
counted_behind : (l : CallLine) (lines : List CallLine) (s : State) (a : Answer) (all : Answers) → AnswersLine l s a → ((more : Answers) → AnswersLines lines a.next more → AfterLines (lines_done more) lines a.next (last_state a.next more.states))
    → (StopsAt a all ⊎ GoesOn (AnswersLines lines a.next) a all) → AfterLines (lines_done all) (l ∷ lines) s (last_state s all.states)
counted_behind l lines s a all line rest (inl p) = subst (λ (x : Answers). AfterLines (lines_done x) (l ∷ lines) s (last_state s x.states)) (sym p.2)
    (subst (λ (end : End). AfterLines (done_of end (length (a.next ∷ []))) (l ∷ lines) s a.next) (sym p.1) (undone_by line.expected l s a p.0 line.is p.1))
counted_behind l lines s a all line rest (inr p) = subst (λ (x : Answers). AfterLines (lines_done x) (l ∷ lines) s (last_state s x.states)) (sym p.3)
    (subst (λ (count : ℕ). AfterLines count (l ∷ lines) s (last_state a.next p.0.states)) (sym (one_more p.0.end (length p.0.states) (λ e ended. run_some lines a.next p.0 e p.2 ended)))
    (a, line, p.1, rest p.0 p.2))

lines_counted : (lines : List CallLine) (s : State) (all : Answers) → AnswersLines lines s all → AfterLines (lines_done all) lines s (last_state s all.states)
lines_counted [] s all h = subst (λ (x : Answers). AfterLines (lines_done x) [] s (last_state s x.states)) (sym h) refl
lines_counted (l ∷ lines) s all h = counted_behind l lines s h.0 all h.1 (λ more is. lines_counted lines h.0.next more is) h.2

-- ---- a call

of_lines : (l : Line) (s t : State) (lines : List CallLine) → LinesOf l s lines → (count : ℕ) → AfterLines count lines s t → AfterCall l count s t
of_lines l s t lines has zero h = h
of_lines l s t lines has (suc count) h = (lines, has, h)

none_counted : (l : Line) (s : State) (all : Answers) (e : Failure) → all ≡ none_run (Err e) → AfterCall l (lines_done all) s (last_state s all.states)
none_counted l s all e is = subst (λ (x : Answers). AfterCall l (lines_done x) s (last_state s x.states)) (sym is) refl

made_counted : (l : Line) (s : State) (all : Answers) (c : Call) → AreCall l.words (Ok c) → (lines : Result (List CallLine) Refusal) → HasLines c l s lines → AnswersMade lines s all → AfterCall l (lines_done all) s (last_state s all.states)
made_counted l s all c are (Ok lines) has h = of_lines l s (last_state s all.states) lines (record { calls = c; are = are; has = has }) (lines_done all) (lines_counted lines s all h)
made_counted l s all c are (Err r) has h = none_counted l s all _ h

pub call_counted : (l : Line) (s : State) (all : Answers) (expected : Result Call Failure) → AreCall l.words expected → AnswersCallBy expected l s all → AfterCall l (lines_done all) s (last_state s all.states)
call_counted l s all (Ok c) are h = made_counted l s all c are h.0 h.1 h.2
call_counted l s all (Err e) are h = none_counted l s all e h

-- ---- histories

pub answered_folds : (events : List Event) (said : List Answers) (s t : State) → Answered events said s t → Folds events (map lines_done said) s t
answered_folds [] [] s t h = h
answered_folds [] (all ∷ said) s t h = absurd h
answered_folds (called l ∷ events) [] s t h = absurd h
answered_folds (called l ∷ events) (all ∷ said) s t h = (last_state s all.states, call_counted l s all h.0.expected h.0.are h.0.is, answered_folds events said (last_state s all.states) t h.1)
answered_folds (crashed l ∷ events) said s t h = absurd h
answered_folds (altered e ∷ events) said s t h = (h.0, h.1, answered_folds events said h.0 t h.2)

-- a fold, and then another one
pub folds_then : (events : List Event) (cuts : List ℕ) (more : List Event) (others : List ℕ) (s t u : State) → Folds events cuts s t → Folds more others t u → Folds (events ++ more) (cuts ++ others) s u
folds_then [] [] more others s t u h g = subst (λ (x : State). Folds more others x u) h g
folds_then [] (cut ∷ cuts) more others s t u h g = absurd h
folds_then (called l ∷ events) [] more others s t u h g = absurd h
folds_then (called l ∷ events) (cut ∷ cuts) more others s t u h g = (h.0, h.1, folds_then events cuts more others h.0 t u h.2 g)
folds_then (crashed l ∷ events) [] more others s t u h g = absurd h
folds_then (crashed l ∷ events) (cut ∷ cuts) more others s t u h g = (h.0, h.1, folds_then events cuts more others h.0 t u h.2 g)
folds_then (altered e ∷ events) cuts more others s t u h g = (h.0, h.1, folds_then events cuts more others h.0 t u h.2 g)

-- ---- a call that is refused

-- the machine's answer to it
pub record RefusedAnswer (l : Line) (s : State) (r : Refusal) : Type 0 where
  pub all : Answers
  pub answers : AnswersCall l s all
  pub ended : all.end ≡ Err (failure.Refused r)
  pub silent : all.out ≡ []
  pub still : last_state s all.states ≡ s

err_same : {A B : Type 0} (r other : Refusal) → ◌≡◌ {A = Result A Refusal} (Err r) (Err other) → ◌≡◌ {A = Result B Refusal} (Err r) (Err other)
err_same {B = B} r other same = let refusals : r ≡ other = cc same in ap (λ (x : Refusal). let made : Result B Refusal = Err x in made) refusals

-- before a line of it
pub none_refused : (l : Line) (s : State) (c : Call) (r : Refusal) → AreCall l.words (Ok c) → HasLines c l s (Err r) → RefusedAnswer l s r
none_refused l s c r are has = record {
  all = none_run (Err (failure.Refused r));
  answers = record { expected = Ok c; are = are; is = (Err r, has, refl) };
  ended = refl;
  silent = refl;
  still = refl;
}

-- where tests refuse an outcome, they refuse lines
then_tested : {A : Type 0} (test : Result A Refusal) (Is : A → Result Effect Refusal → Type 0) (Makes : A → Result (List CallLine) Refusal → Type 0) (r : Refusal) → ((x : A) → Is x (Err r) → Makes x (Err r)) → Then test Is (Err r) → Tested test Makes (Err r)
then_tested (Ok x) Is Makes r more h = more x h
then_tested (Err other) Is Makes r more h = err_same r other h

pub batch_refused : (l : Line) (s : State) (r : Refusal) → Outcome (before_lines true AreBatchLines) s l.input (Err r) → HasLines call.Batch l s (Err r)
batch_refused l s r h = then_tested (fixed_dirs (tree_of s.root)) (λ _. OwnOutcome (before_lines true AreBatchLines) s l.input) (λ _. MakesLines call.Batch l) r
    (λ _ own. then_tested (given true l.input) ((before_lines true AreBatchLines).IsOutcome s) AreBatchLines r
    (λ bytes is. let same : r ≡ is.0 = cc is.1 in subst (λ (x : Refusal). AreBatchLines bytes (Err x)) (sym same) is.2) own) h

pub demo_refused : (packages : ℕ) (l : Line) (s : State) (r : Refusal) → Outcome (before_lines false (AreDemoLines packages)) s l.input (Err r) → HasLines (call.Demo packages) l s (Err r)
demo_refused packages l s r h = then_tested (fixed_dirs (tree_of s.root)) (λ _. OwnOutcome (before_lines false (AreDemoLines packages)) s l.input) (λ _. MakesLines (call.Demo packages) l) r (λ _ is. absurd is.2) h

-- ---- a command by itself

-- a command that takes no input has the same outcomes on all
given_same : (takes : Bool) (input other : List ℕ) → (takes ≡ true → input ≡ other) → given takes input ≡ given takes other
given_same true input other same = ap (given true) (same refl)
given_same false input other same = refl

pub outcome_same : (m : Meaning) (s : State) (input other : List ℕ) (o : Result Effect Refusal) → (m.takes_input ≡ true → input ≡ other) → Outcome m s input o → Outcome m s other o
outcome_same m s input other o same h = subst (λ (g : Result (List ℕ) Refusal). Then (fixed_dirs (tree_of s.root)) (λ _. Then g (m.IsOutcome s)) o) (given_same m.takes_input input other same) h

-- what is done, is done where the fixed directories stand
dirs_of : (test : Result (Unit {0}) Refusal) (Is : Result Effect Refusal → Type 0) (e : Effect) → Then test (λ _. Is) (Ok e) → test ≡ Ok tt
dirs_of (Ok x) Is e h = refl
dirs_of (Err r) Is e h = absurd (cc h)

module _ (l : Line) (c : Command) (are : AreCall l.words (Ok (call.Single c))) (words : AreWords l.words (Ok c)) (s : State) where
  abbrev shown : CallLine
  shown = record { shown = true; line = l }

  single_lines : fixed_dirs (tree_of s.root) ≡ Ok tt → LinesOf l s (shown ∷ [])
  single_lines dirs = record {
    calls = call.Single c;
    are = are;
    has = subst (λ (test : Result (Unit {0}) Refusal). Tested test (λ _. MakesLines (call.Single c) l) (Ok (shown ∷ []))) (sym dirs) refl;
  }

  done_line : (e : Effect) → Outcome (meaning c) s l.input (Ok e) → IsState (answer_of s (Ok e)).next → AnswersLine shown s (answer_of s (Ok e))
  done_line e is state = record { expected = Ok c; are = words; is = (Ok e, is, refl); keeps = state }

  -- its effect is that of the call, of which one line counts
  single_done : (e : Effect) → Outcome (meaning c) s l.input (Ok e) → IsState (answer_of s (Ok e)).next → AfterCall l 1 s (answer_of s (Ok e)).next
  single_done e is state = (shown ∷ [], single_lines (dirs_of (fixed_dirs (tree_of s.root)) (OwnOutcome (meaning c) s l.input) e is), (answer_of s (Ok e), done_line e is state, refl, refl))

  pub single_taken : (input : List ℕ) (next : State) → ((meaning c).takes_input ≡ true → input ≡ l.input) → IsState next → {Bytes : List ℕ → Type 0} → Takes (Outcome (meaning c) s input) s next Bytes → AfterCall l 1 s next
  single_taken input next same state takes = subst (λ (x : State). AfterCall l 1 s x) (sym takes.leads)
      (single_done takes.effect (outcome_same (meaning c) s input l.input (Ok takes.effect) same takes.is) (subst IsState takes.leads state))

  -- the machine's answer, where it is done
  pub single_answers : (e : Effect) → Outcome (meaning c) s l.input (Ok e) → IsState (answer_of s (Ok e)).next → AnswersCall l s (first_then (answer_of s (Ok e)) (none_run (Ok tt)))
  unfolding single_lines
  single_answers e is state = record {
    expected = Ok (call.Single c);
    are = are;
    is = (
      Ok (shown ∷ []),
      (single_lines (dirs_of (fixed_dirs (tree_of s.root)) (OwnOutcome (meaning c) s l.input) e is)).has,
      (answer_of s (Ok e), done_line e is state, inr (none_run (Ok tt), refl, refl, refl)),
    );
  }

  -- and where it is refused
  pub single_refused : (r : Refusal) → Outcome (meaning c) s l.input (Err r) → IsState s → RefusedAnswer l s r
  unfolding single_lines
  single_refused r is state = by (fixed_dirs (tree_of s.root)) refl is
    where
      by : (dirs : Result (Unit {0}) Refusal) → fixed_dirs (tree_of s.root) ≡ dirs → Then dirs (λ _. OwnOutcome (meaning c) s l.input) (Err r) → RefusedAnswer l s r
      by (Ok x) found h = record {
        all = first_then (answer_of s (Err r)) (none_run (Err (failure.Refused r)));
        answers = record {
          expected = Ok (call.Single c);
          are = are;
          is = (
            Ok (shown ∷ []),
            (single_lines found).has,
            (answer_of s (Err r), record { expected = Ok c; are = words; is = (Err r, is, refl); keeps = state }, inl (failure.Refused r, refl, refl)),
          );
        };
        ended = refl;
        silent = refl;
        still = refl;
      }
      by (Err other) found h = none_refused l s (call.Single c) r are
          (subst (λ (test : Result (Unit {0}) Refusal). Tested test (λ _. MakesLines (call.Single c) l) (Err r)) (sym found) (err_same r other h))

  -- so is the state before it, or the one after it
  pub single_counted : (input : List ℕ) (next : State) → ((meaning c).takes_input ≡ true → input ≡ l.input) → IsState next → IsNext (Outcome (meaning c) s input) s next → (count : ℕ) × (count ≤ 1) × AfterCall l count s next
  single_counted input next same state (inl stays) = (0, omega arith, stays)
  single_counted input next same state (inr takes) = (
    1,
    omega arith,
    subst (λ (x : State). AfterCall l 1 s x) (sym takes.leads)
        (single_done takes.effect (outcome_same (meaning c) s input l.input (Ok takes.effect) same takes.is) (subst IsState takes.leads state)),
  )

  -- it is all of its lines
  pub single_all : (input : List ℕ) (next : State) → ((meaning c).takes_input ≡ true → input ≡ l.input) → IsState next → {Bytes : List ℕ → Type 0} → Takes (Outcome (meaning c) s input) s next Bytes
      → (lines : List CallLine) × LinesOf l s lines × AfterLines (length lines) lines s next
  single_all input next same state takes =
      let is = outcome_same (meaning c) s input l.input (Ok takes.effect) same takes.is in (
        shown ∷ [],
        single_lines (dirs_of (fixed_dirs (tree_of s.root)) (OwnOutcome (meaning c) s l.input) takes.effect is),
        (answer_of s (Ok takes.effect), done_line takes.effect is (subst IsState takes.leads state), refl, takes.leads),
      )

-- ---- several lines

-- so many of the lines of a call count
pub several_counted : (l : Line) (s t : State) (lines : List CallLine) (count : ℕ) → LinesOf l s lines → AfterLines count lines s t → AfterCall l count s t
several_counted l s t lines count has h = of_lines l s t lines has count h

module _ (l : Line) (s : State) (dirs : fixed_dirs (tree_of s.root) ≡ Ok tt) where
  made_lines : (c : Call) → AreCall l.words (Ok c) → (lines : List CallLine) → MakesLines c l (Ok lines) → LinesOf l s lines
  made_lines c are lines makes = record {
    calls = c;
    are = are;
    has = subst (λ (test : Result (Unit {0}) Refusal). Tested test (λ _. MakesLines c l) (Ok lines)) (sym dirs) makes;
  }

  pub batch_lines : (bytes : List ℕ) (lines : List CallLine) → AreCall l.words (Ok call.Batch) → given true l.input ≡ Ok bytes → AreBatchLines bytes (Ok lines) → LinesOf l s lines
  batch_lines bytes lines are gives makes = made_lines call.Batch are lines (subst (λ (g : Result (List ℕ) Refusal). Tested g AreBatchLines (Ok lines)) (sym gives) makes)

  pub demo_lines : (packages : ℕ) (bytes : List ℕ) (lines : List CallLine) → AreCall l.words (Ok (call.Demo packages)) → AreDemoLines packages bytes (Ok lines) → LinesOf l s lines
  demo_lines packages bytes lines are makes = made_lines (call.Demo packages) are lines makes
