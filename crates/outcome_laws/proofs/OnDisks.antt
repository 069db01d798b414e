-- A history on two disks leaves what recovers to its fold.
use Rattle.std.proofs.Common.{◌≡◌, ◌⊎◌, inl, inr, ⊎_elim, ℕ, ◌≤◌, Bool, true, false, codes, suc, List, [], ◌∷◌, length, Option, Some, None, Result, Ok, Err, refl, sym, ap, ◌∙◌, subst, arith}
use Rattle.std.specs.Prelude.{IsTrue}
use Rattle.std.specs.Str.{bytes_eq}
use Rattle.cny_base.specs.Flow.{SinkState, SourceState}
use Rattle.conary_cli.specs.cli-call.cny-base.declared.refusal.Refusal.{Refusal}
use Rattle.conary_cli.specs.cli-call.tree-disk.Tree.{Tree}
use Rattle.conary_cli.specs.cli-call.tree-disk.Disk.{DiskModel, IsDisk}
use Rattle.conary_cli.specs.cli-call.cny-laws.declared.failure.Failure.{Failure}
use Rattle.conary_cli.specs.cli-call.cny-laws.declared.failure.Failure.TheVariants as failure
use Rattle.conary_cli.specs.cli-call.cny-laws.Call.{CallState}
use Rattle.conary_cli.specs.cli-call.cny-laws.Reading.{given}
use Rattle.conary_cli.specs.cli-call.cny-laws.Report.{status_of, End, Reports}
use Rattle.conary_cli.specs.cli-call.cny-laws.State.{Effect, IsNext, Meaning, State, Takes, Then, tree_of}
use Rattle.conary_cli.specs.cli-call.cny-laws.Store.{IsStore}
use Rattle.conary_cli.specs.cli-call.cny-laws.Stores.{repository_store}
use Rattle.conary_cli.specs.cli-call.cny-laws.WholeCall.{CallEnds, CallFrom, HasEffect, IsCall, IsNoCall, Outcome, RecoversBoth, RestBoth}
use Rattle.conary_cli.specs.cli-call.system-core.FixedDirs.{fixed_dirs}
use Rattle.conary_cli.proofs.cli-call.cny-laws.EditedSystems.{the_system}
use Rattle.cny_batch.specs.declared.line.Line.{Line}
use Rattle.conary_cli.specs.cli-words.declared.call_words.Call.{Call}
use Rattle.conary_cli.specs.cli-words.declared.call_words.Call.TheVariants as call
use Rattle.conary_cli.specs.cli-words.declared.words.Command.{Command}
use Rattle.conary_cli.specs.cli-words.Calls.{as_call, batch_of, demo_by, demo_of, package_count, AreCall, AreOfKind, IsSingle}
use Rattle.conary_cli.specs.Commands.{meaning, scope_of}
use Rattle.conary_cli.specs.Lines.{CallLine}
use Rattle.conary_cli.specs.Program.{line_state, told_source, IsProgramCall}
use Rattle.conary_cli.specs.Several.{before_lines, of_input, AreBatchLines, AreDemoLines, LinesCause, LinesWereRun, Making}
use Rattle.conary_cli.specs.cli-words.Words.{AreWords}
use Rattle.outcome_laws.specs.OneOutcome.{AtMostOne, IsState}
use Rattle.outcome_laws.specs.Histories.{called, crashed, altered, AfterCall, AfterEdit, AfterLines, Event, Folds, LinesOf}
use Rattle.outcome_laws.specs.Images.{CrashesAfter, CrashesTo, RecoversAfter, RecoversIn}
use Rattle.outcome_laws.specs.OnDisks.{Happen, IsCut, Lead, LeadsBy, WasCalled}
use Rattle.outcome_laws.proofs.Counted.{batch_lines, demo_lines, several_counted, single_all}
use Rattle.outcome_laws.proofs.CountedLines.{run_counted}
use Rattle.outcome_laws.proofs.OneWords.{cases_if}
use Rattle.outcome_laws.proofs.CrashLeft.{call_crashes, crash_left, edit_crashes, reads_in, rest_left, weaker_left}

-- ---- statuses

-- no failure is told by 0
some_status : (e : Failure) → status_of (Err e) ≡ 0 → ⊥
some_status (failure.Refused r) is = absurd (cc is)
some_status failure.Usage is = absurd (cc is)
some_status failure.InputFault is = absurd (cc is)
some_status failure.OutputFault is = absurd (cc is)
some_status failure.RootFault is = absurd (cc is)
some_status failure.RepositoryFault is = absurd (cc is)
some_status failure.Memory is = absurd (cc is)
some_status (failure.Damaged path) is = absurd (cc is)

-- and one alone by 3
third_status : (e : Failure) → status_of (Err e) ≡ 3 → e ≡ failure.InputFault
third_status (failure.Refused r) is = absurd (cc is)
third_status failure.Usage is = absurd (cc is)
third_status failure.InputFault is = refl
third_status failure.OutputFault is = absurd (cc is)
third_status failure.RootFault is = absurd (cc is)
third_status failure.RepositoryFault is = absurd (cc is)
third_status failure.Memory is = absurd (cc is)
third_status (failure.Damaged path) is = absurd (cc is)

pub never_zero : (e : Failure) (err err' : SinkState) (status : ℕ) → Reports (Err e) err err' status → status ≡ 0 → ⊥
never_zero e err err' status (inl tells) zero_is = some_status e (sym tells.answered ∙ zero_is)
never_zero e err err' status (inr tells) zero_is = absurd (cc (sym tells.1.answered ∙ zero_is))

input_fault : (e : Failure) (err err' : SinkState) (status : ℕ) → Reports (Err e) err err' status → status ≡ 3 → e ≡ failure.InputFault
input_fault e err err' status (inl tells) three = third_status e (sym tells.answered ∙ three)
input_fault e err err' status (inr tells) three = absurd (cc (sym tells.1.answered ∙ three))

-- a fault is told by 4 or more
low_fault : (e : Failure) (err err' : SinkState) (status : ℕ) → 4 ≤ status_of (Err e) → Reports (Err e) err err' status → ((status ≡ 1) ⊎ (status ≡ 2)) → ⊥
low_fault e err err' status high (inl tells) (inl one) = let is = tells.answered in omega (arith, high, is, one)
low_fault e err err' status high (inl tells) (inr two) = let is = tells.answered in omega (arith, high, is, two)
low_fault e err err' status high (inr tells) (inl one) = absurd (cc (sym tells.1.answered ∙ one))
low_fault e err err' status high (inr tells) (inr two) = absurd (cc (sym tells.1.answered ∙ two))

low_zero : (status : ℕ) → status ≡ 0 → ((status ≡ 1) ⊎ (status ≡ 2)) → ⊥
low_zero status is (inl one) = absurd (cc (sym is ∙ one))
low_zero status is (inr two) = absurd (cc (sym is ∙ two))

-- ---- cuts

-- of a call that failed no line counts
none_cut : (l : Line) (s : State) (status : ℕ) → (status ≡ 0 → ⊥) → IsCut l s status 0
none_cut l s status some = record { all = λ is. absurd (some is); none = λ is. refl; refused = λ low c single. refl }

pub none_leads : (l : Line) (s t : State) (status : ℕ) → (status ≡ 0 → ⊥) → t ≡ s → LeadsBy status l s t
none_leads l s t status some same = (0, none_cut l s status some, same)

-- or some
some_leads : (l : Line) (s t : State) (status count : ℕ) → (status ≡ 0 → ⊥) → (status ≡ 3 → ⊥) → (((status ≡ 1) ⊎ (status ≡ 2)) → (c : Command) → AreCall l.words (Ok (call.Single c)) → ⊥) → AfterCall l count s t → LeadsBy status l s t
some_leads l s t status count some no_input no_refusal h = (count, record { all = λ is. absurd (some is); none = λ is. absurd (no_input is); refused = λ low c single. absurd (no_refusal low c single) }, h)

-- where none failed all do
all_leads : (l : Line) (s t : State) (status : ℕ) (lines : List CallLine) → status ≡ 0 → LinesOf l s lines → AfterLines (length lines) lines s t → LeadsBy status l s t
all_leads l s t status lines is has h = (length lines, record { all = λ _. (lines, has, refl); none = λ three. absurd (cc (sym is ∙ three)); refused = λ low c single. absurd (low_zero status is low) }, several_counted l s t lines (length lines) has h)

-- what both disks recover to keeps the rules
pub in_state : (Is : State → Type 0) (image far : Tree) (c : RecoversIn Is image far) → IsState c.state
in_state Is image far c = record { root = the_system c.root.tree c.state.root c.root.stored; repository = c.repo.stored.repository }

-- words that call one command are that command
never_batch : (words : List (List ℕ)) (one : Result Call Failure) (c : Command) → one ≡ Ok (call.Single c) → one ≡ batch_of words → ⊥
never_batch [] one c is other = absurd (cc (sym is ∙ other))
never_batch (word ∷ words) one c is other = absurd (cc (sym is ∙ other))

never_counted : (packages : Option ℕ) (one : Result Call Failure) (c : Command) → one ≡ Ok (call.Single c) → one ≡ demo_by packages → ⊥
never_counted None one c is other = absurd (cc (sym is ∙ other))
never_counted (Some packages) one c is other = absurd (cc (sym is ∙ other))

never_demo : (words : List (List ℕ)) (one : Result Call Failure) (c : Command) → one ≡ Ok (call.Single c) → one ≡ demo_of words → ⊥
never_demo [] one c is other = absurd (cc (sym is ∙ other))
never_demo (word ∷ []) one c is other = never_counted (package_count word) one c is other
never_demo (word ∷ second ∷ words) one c is other = absurd (cc (sym is ∙ other))

one_command : (r : Result Command Failure) (one : Result Call Failure) (c : Command) → one ≡ Ok (call.Single c) → one ≡ as_call r → r ≡ Ok c
one_command (Ok d) one c is other =
    let same : call.Single d ≡ call.Single c = cc (sym other ∙ is) in
    let commands : d ≡ c = cc same in
    ap (λ (x : Command). let made : Result Command Failure = Ok x in made) commands
one_command (Err e) one c is other = absurd (cc (sym is ∙ other))

single_is : (words : List (List ℕ)) (c : Command) → IsSingle words (Ok (call.Single c)) → AreWords words (Ok c)
single_is words c h = subst (AreWords words) (one_command h.command (Ok (call.Single c)) c refl h.is) h.are

pub single_words : (words : List (List ℕ)) (c : Command) → AreCall words (Ok (call.Single c)) → AreWords words (Ok c)
single_words [] c are = single_is [] c are
single_words (word ∷ words) c are = by (cases_if (λ k. AreOfKind k (word ∷ words) (Ok (call.Single c))) (bytes_eq word (codes "batch")) (bytes_eq word (codes "demo")) are)
  where
    by : ((◌≡◌ {A = Result Call Failure} (Ok (call.Single c)) (batch_of words)) ⊎ ((◌≡◌ {A = Result Call Failure} (Ok (call.Single c)) (demo_of words)) ⊎ IsSingle (word ∷ words) (Ok (call.Single c)))) → AreWords (word ∷ words) (Ok c)
    by (inl h) = absurd (never_batch words (Ok (call.Single c)) c refl h)
    by (inr (inl h)) = absurd (never_demo words (Ok (call.Single c)) c refl h)
    by (inr (inr h)) = single_is (word ∷ words) c h

-- ---- what comes before the lines of a batch has no effect

never_then : {A : Type 0} (test : Result A Refusal) (Is : A → Result Effect Refusal → Type 0) (e : Effect) → ((x : A) → Is x (Ok e) → ⊥) → Then test Is (Ok e) → ⊥
never_then (Ok x) Is e never h = never x h
never_then (Err r) Is e never h = absurd (cc h)

module _ (takes : Bool) (AreLines : Making) (s : State) (input : List ℕ) where
  pub never_effect : (e : Effect) → Outcome (before_lines takes AreLines) s input (Ok e) → ⊥
  never_effect e h = never_then (fixed_dirs (tree_of s.root)) (λ _. Then (given takes input) ((before_lines takes AreLines).IsOutcome s)) e
      (λ _. never_then (given takes input) ((before_lines takes AreLines).IsOutcome s) e (λ bytes g. absurd (cc g.1))) h

  pub next_still : (next : State) → IsNext (Outcome (before_lines takes AreLines) s input) s next → next ≡ s
  next_still next (inl same) = same
  next_still next (inr takes_) = absurd (never_effect takes_.effect takes_.is)

  pub ends_still : (next : State) (out out' : SinkState) (end : End) → CallEnds (Outcome (before_lines takes AreLines) s input) s next out out' end → (end ≡ Ok tt → ⊥) × (next ≡ s)
  ends_still next out out' (Ok x) h = absurd (never_effect h.effect h.is)
  ends_still next out out' (Err (failure.Refused r)) h = (λ is. absurd (cc is), h.1)
  ends_still next out out' (Err failure.InputFault) h = (λ is. absurd (cc is), h)
  ends_still next out out' (Err failure.OutputFault) h = absurd (never_effect h.effect h.is)
  ends_still next out out' (Err failure.RootFault) h = (λ is. absurd (cc is), next_still next h)
  ends_still next out out' (Err failure.RepositoryFault) h = (λ is. absurd (cc is), next_still next h)
  ends_still next out out' (Err failure.Memory) h = (λ is. absurd (cc is), next_still next h)
  ends_still next out out' (Err failure.Usage) h = absurd h
  ends_still next out out' (Err (failure.Damaged path)) h = absurd h

-- ---- one command

module _ (l : Line) (c : Command) (are : AreCall l.words (Ok (call.Single c))) (input : List ℕ) (same : (meaning c).takes_input ≡ true → input ≡ l.input) (s next : State) (state : IsState next) where
  all_taken : {Bytes : List ℕ → Type 0} → Takes (Outcome (meaning c) s input) s next Bytes → (lines : List CallLine) × LinesOf l s lines × AfterLines (length lines) lines s next
  all_taken takes = single_all l c are (single_words l.words c are) s input next same state takes

  takes_leads : (status : ℕ) → (status ≡ 0 → ⊥) → (status ≡ 3 → ⊥) → (((status ≡ 1) ⊎ (status ≡ 2)) → ⊥) → {Bytes : List ℕ → Type 0} → Takes (Outcome (meaning c) s input) s next Bytes → LeadsBy status l s next
  takes_leads status some no_input no_refusal takes = let d = all_taken takes in some_leads l s next status (length d.0) some no_input (λ low k single. no_refusal low) (several_counted l s next d.0 (length d.0) d.1 d.2)

  next_leads : (status : ℕ) → (status ≡ 0 → ⊥) → (status ≡ 3 → ⊥) → (((status ≡ 1) ⊎ (status ≡ 2)) → ⊥) → IsNext (Outcome (meaning c) s input) s next → LeadsBy status l s next
  next_leads status some no_input no_refusal (inl still) = none_leads l s next status some still
  next_leads status some no_input no_refusal (inr takes) = takes_leads status some no_input no_refusal takes

  end_leads : (end : End) (err err' : SinkState) (status : ℕ) (out out' : SinkState) → Reports end err err' status → CallEnds (Outcome (meaning c) s input) s next out out' end → LeadsBy status l s next
  end_leads (Ok x) err err' status out out' reports h = let d = all_taken h in all_leads l s next status d.0 reports.0 d.1 d.2
  end_leads (Err (failure.Refused r)) err err' status out out' reports h = none_leads l s next status (never_zero (failure.Refused r) err err' status reports) h.1
  end_leads (Err failure.InputFault) err err' status out out' reports h = none_leads l s next status (never_zero failure.InputFault err err' status reports) h
  end_leads (Err failure.OutputFault) err err' status out out' reports h = takes_leads status (never_zero failure.OutputFault err err' status reports)
      (λ three. absurd (cc (input_fault failure.OutputFault err err' status reports three))) (low_fault failure.OutputFault err err' status (omega arith) reports) h
  end_leads (Err failure.RootFault) err err' status out out' reports h = next_leads status (never_zero failure.RootFault err err' status reports)
      (λ three. absurd (cc (input_fault failure.RootFault err err' status reports three))) (low_fault failure.RootFault err err' status (omega arith) reports) h
  end_leads (Err failure.RepositoryFault) err err' status out out' reports h = next_leads status (never_zero failure.RepositoryFault err err' status reports)
      (λ three. absurd (cc (input_fault failure.RepositoryFault err err' status reports three))) (low_fault failure.RepositoryFault err err' status (omega arith) reports) h
  end_leads (Err failure.Memory) err err' status out out' reports h = next_leads status (never_zero failure.Memory err err' status reports)
      (λ three. absurd (cc (input_fault failure.Memory err err' status reports three))) (low_fault failure.Memory err err' status (omega arith) reports) h
  end_leads (Err failure.Usage) err err' status out out' reports h = absurd h
  end_leads (Err (failure.Damaged path)) err err' status out out' reports h = absurd h

-- ---- a call

-- one of some states, and from it by a call that ended so
abbrev pub Led : (State → Type 0) → ℕ → Line → State → Type 0
Led Is status l u = (t : State) × Is t × LeadsBy status l t u

module _ {T P : Type 0} {root_disk : DiskModel T} {repo_disk : DiskModel P} (root_disk_laws : IsDisk root_disk) (repo_disk_laws : IsDisk repo_disk) (repo_laws : IsStore repository_store) (root_told : IsTrue root_disk.tells) (repo_told : IsTrue repo_disk.tells)
    (Is : State → Type 0) (l : Line) (root root' : T) (repo repo' : P) (crashes : CrashesTo root_disk repo_disk Is root repo) (input : SourceState) (out written err err' : SinkState) (status : ℕ) (calls : (words : List (List ℕ)) → AtMostOne (AreCall words)) where
  abbrev before : CallState T P
  before = line_state (told_source l.input) root repo out

  abbrev now : CallState T P
  now = line_state input root' repo' written

  first : RecoversIn Is (root_disk.reads root) (repo_disk.reads repo)
  first = reads_in root_disk_laws repo_disk_laws root_told repo_told Is root repo crashes

  both : RecoversBoth root_disk repo_disk before first.state
  both = record { root = first.root; repo = first.repo }

  -- nothing was done
  no_call : (e : Failure) → IsNoCall e before now err err' status → CrashesTo root_disk repo_disk (Led Is status l) root' repo'
  no_call e is = weaker_left root_disk repo_disk (λ t old. (t, old, none_leads l t t status some refl)) root' repo'
      (subst (λ (m : CallState T P). CrashesTo root_disk repo_disk Is m.root m.repo) (sym is.same) crashes)
    where
      some : status ≡ 0 → ⊥
      some zero_is = ⊎_elim (λ r. never_zero e err err' status r zero_is) (λ r. never_zero failure.Memory err err' status r zero_is) is.reports

  -- by the state after the call, for each of the states that a crash leaves
  module _ (m : Meaning) (bytes : List ℕ) (end : End) (f : CallFrom root_disk repo_disk m bytes first.state before now end) where
    after_call : (status ≡ 0 → ⊥) → (IsState f.next → LeadsBy status l first.state f.next) → CrashesTo root_disk repo_disk (Led Is status l) root' repo'
    after_call some leads image far is is_far = by (call_crashes root_disk_laws repo_disk_laws root_told repo_told Is m bytes before now end crashes first.state first.among f image far is is_far)
      where
        by : RecoversIn (λ t. Is t ⊎ (t ≡ f.next)) image far → RecoversIn (Led Is status l) image far
        by c = record {
          state = c.state;
          among = ⊎_elim
              (λ old. (c.state, old, none_leads l c.state c.state status some refl))
              (λ new. (first.state, first.among, subst (LeadsBy status l first.state) (sym new) (leads (subst IsState new (in_state (λ t. Is t ⊎ (t ≡ f.next)) image far c)))))
              c.among;
          root = c.root;
          repo = c.repo;
        }

  rest_state : (s : State) → RestBoth root_disk repo_disk now s → IsState s
  rest_state s rests = record { root = the_system (root_disk.reads root') s.root rests.root.stored; repository = rests.repo.stored.repository }

  -- one command
  single_call : (c : Command) → AreCall l.words (Ok (call.Single c)) → IsCall root_disk repo_disk (scope_of c) (meaning c) before now err err' status → CrashesTo root_disk repo_disk (Led Is status l) root' repo'
  single_call c are is = by is.end refl
    where
      f : CallFrom root_disk repo_disk (meaning c) is.input first.state before now is.end
      f = is.from root_told repo_told first.state both

      leads : IsState f.next → LeadsBy status l first.state f.next
      leads state = end_leads l c are is.input (λ takes. sym (is.is_input takes)) first.state f.next state is.end err err' status out written is.reports f.ends

      by : (x : End) → is.end ≡ x → CrashesTo root_disk repo_disk (Led Is status l) root' repo'
      by (Ok x) ended =
          let rests = f.rests (subst HasEffect (sym ended) tt) in
          rest_left root_disk repo_disk repo_laws (Led Is status l) now f.next (first.state, first.among, leads (rest_state f.next rests)) rests
      by (Err e) ended = after_call (meaning c) is.input is.end f (never_zero e err err' status (subst (λ (x : End). Reports x err err' status) ended is.reports)) leads

  -- several lines
  module _ (takes : Bool) (AreLines : Making) where
    no_lines : IsCall root_disk repo_disk of_input (before_lines takes AreLines) before now err err' status → CrashesTo root_disk repo_disk (Led Is status l) root' repo'
    no_lines is = after_call (before_lines takes AreLines) is.input is.end f (by is.end refl) (λ state. none_leads l first.state f.next status (by is.end refl) still.1)
      where
        f : CallFrom root_disk repo_disk (before_lines takes AreLines) is.input first.state before now is.end
        f = is.from root_told repo_told first.state both

        still : (is.end ≡ Ok tt → ⊥) × (f.next ≡ first.state)
        still = ends_still takes AreLines first.state is.input f.next out written is.end f.ends

        by : (x : End) → is.end ≡ x → status ≡ 0 → ⊥
        by (Ok x) ended zero_is = still.0 ended
        by (Err e) ended zero_is = never_zero e err err' status (subst (λ (x : End). Reports x err err' status) ended is.reports) zero_is

    were_run : ((c : Command) → AreCall l.words (Ok (call.Single c)) → ⊥) → (run : LinesWereRun root_disk repo_disk takes AreLines before now err err' status) → LinesOf l first.state run.lines → CrashesTo root_disk repo_disk (Led Is status l) root' repo'
    were_run several run has = by run.end refl
      where
        after : CrashesAfter root_disk repo_disk run.lines first.state run.end root' repo'
        after = run_counted root_disk_laws repo_disk_laws repo_laws root_told repo_told takes AreLines before now err err' status run first.state both

        reports : (x : End) → run.end ≡ x → Reports x err err' status
        reports x ended = subst (λ (y : End). Reports y err err' status) ended run.reports

        no_input : (e : Failure) → run.end ≡ Err e → status ≡ 3 → ⊥
        no_input e ended three =
            let fault = input_fault e err err' status (reports (Err e) ended) three in
            subst (λ (f : Failure). LinesCause root_disk repo_disk before now (Err f)) fault (subst (LinesCause root_disk repo_disk before now) ended run.cause)

        some_of : (e : Failure) → run.end ≡ Err e → (count : ℕ) (image far : Tree) → RecoversAfter run.lines first.state count image far → RecoversIn (Led Is status l) image far
        some_of e ended count image far r = record {
          state = r.state;
          among = (first.state, first.among, some_leads l first.state r.state status count (never_zero e err err' status (reports (Err e) ended)) (no_input e ended) (λ low c single. several c single) (several_counted l first.state r.state run.lines count has r.after));
          root = r.root;
          repo = r.repo;
        }

        by : (x : End) → run.end ≡ x → CrashesTo root_disk repo_disk (Led Is status l) root' repo'
        by (Ok x) ended image far is is_far =
            let r = after.all ended image far is is_far in
            record { state = r.state; among = (first.state, first.among, all_leads l first.state r.state status run.lines (reports (Ok x) ended).0 has r.after); root = r.root; repo = r.repo }
        by (Err e) ended image far is is_far = ⊎_elim (some_of e ended after.count image far) (some_of e ended (suc after.count) image far) (after.each image far is is_far)

  program : (expected : Result Call Failure) → AreCall l.words expected → IsProgramCall root_disk repo_disk expected before now err err' status → CrashesTo root_disk repo_disk (Led Is status l) root' repo'
  program (Ok (call.Single c)) are is = single_call c are is.call
  program (Ok call.Batch) are (inl is) = no_lines true AreBatchLines is
  program (Ok call.Batch) are (inr run) = were_run true AreBatchLines (λ c single. absurd (cc (calls l.words (Ok call.Batch) (Ok (call.Single c)) are single))) run
      (batch_lines l first.state (run.from root_told repo_told first.state both).fixed run.bytes run.lines are (subst (λ (i : List ℕ). given true i ≡ Ok run.bytes) (sym (run.is_input refl)) run.gives) run.are)
  program (Ok (call.Demo packages)) are (inl is) = no_lines false (AreDemoLines packages) is
  program (Ok (call.Demo packages)) are (inr run) = were_run false (AreDemoLines packages) (λ c single. absurd (cc (calls l.words (Ok (call.Demo packages)) (Ok (call.Single c)) are single))) run
      (demo_lines l first.state (run.from root_told repo_told first.state both).fixed packages run.bytes run.lines are run.are)
  program (Err e) are is = no_call e is

-- ---- histories

module _ {T P : Type 0} {root_disk : DiskModel T} {repo_disk : DiskModel P} (root_disk_laws : IsDisk root_disk) (repo_disk_laws : IsDisk repo_disk) (repo_laws : IsStore repository_store) (root_told : IsTrue root_disk.tells) (repo_told : IsTrue repo_disk.tells) (calls : (words : List (List ℕ)) → AtMostOne (AreCall words)) where
  pub called_left : (Is : State → Type 0) (l : Line) (status : ℕ) (root root' : T) (repo repo' : P) → CrashesTo root_disk repo_disk Is root repo → WasCalled root_disk repo_disk l status root root' repo repo' → CrashesTo root_disk repo_disk (Led Is status l) root' repo'
  called_left Is l status root root' repo repo' crashes h = ⊎_elim
      (λ some. program root_disk_laws repo_disk_laws repo_laws root_told repo_told Is l root root' repo repo' crashes h.input h.out h.written h.err h.told status calls some.0 some.1 some.2)
      (λ none. no_call root_disk_laws repo_disk_laws repo_laws root_told repo_told Is l root root' repo repo' crashes h.input h.out h.written h.err h.told status calls failure.Memory none)
      h.call

  abbrev LedAll : (State → Type 0) → List Event → List ℕ → State → Type 0
  LedAll Is events statuses u = (t : State) × Is t × Lead events statuses t u

  pub history_left : (events : List Event) (statuses : List ℕ) (Is : State → Type 0) (root root' : T) (repo repo' : P) → CrashesTo root_disk repo_disk Is root repo → Happen root_disk repo_disk events statuses root root' repo repo'
      → CrashesTo root_disk repo_disk (LedAll Is events statuses) root' repo'
  history_left [] [] Is root root' repo repo' crashes h = weaker_left root_disk repo_disk (λ t is. (t, is, refl)) root' repo'
      (subst (λ (d : T). CrashesTo root_disk repo_disk Is d repo') (sym h.0) (subst (λ (d : P). CrashesTo root_disk repo_disk Is root d) (sym h.1) crashes))
  history_left [] (status ∷ statuses) Is root root' repo repo' crashes h = absurd h
  history_left (called l ∷ events) [] Is root root' repo repo' crashes h = absurd h
  history_left (called l ∷ events) (status ∷ statuses) Is root root' repo repo' crashes h =
      weaker_left root_disk repo_disk (λ u led. (led.1.0, led.1.1, (led.0, led.1.2, led.2))) root' repo'
      (history_left events statuses (Led Is status l) h.0 root' h.1 repo' (called_left Is l status root h.0 repo h.1 crashes h.2) h.3)
  history_left (crashed l ∷ events) statuses Is root root' repo repo' crashes h =
      let stop = h.2 in
      weaker_left root_disk repo_disk (λ u led. (led.1.0, led.1.1, (led.0, (led.1.2.0, led.1.2.2), led.2))) root' repo'
      (history_left events statuses (Led Is stop.status l) h.0 root' h.1 repo'
      (crash_left root_disk repo_disk (Led Is stop.status l) stop.mid h.0 stop.far h.1 stop.root_crash stop.repo_crash (called_left Is l stop.status root stop.mid repo stop.far crashes stop.was_called)) h.3)
  history_left (altered e ∷ events) statuses Is root root' repo repo' crashes h =
      weaker_left root_disk repo_disk (λ u led. (led.1.0, led.1.1, (led.0, led.1.2, led.2))) root' repo'
      (history_left events statuses (λ t. (s : State) × Is s × AfterEdit e s t) h.0 root' repo repo'
      (edit_crashes root_disk repo_disk root_disk_laws e root h.0 repo h.1.edit h.1.edited Is crashes h.1.clear) h.2)

-- ---- the fold

-- the states to which events lead are those of the fold, for some cuts
pub lead_folds : (events : List Event) (statuses : List ℕ) (s t : State) → Lead events statuses s t → (cuts : List ℕ) × Folds events cuts s t
lead_folds [] [] s t h = ([], h)
lead_folds [] (status ∷ statuses) s t h = absurd h
lead_folds (called l ∷ events) [] s t h = absurd h
lead_folds (called l ∷ events) (status ∷ statuses) s t h =
    let rest = lead_folds events statuses h.0 t h.2 in
    (h.1.0 ∷ rest.0, (h.0, h.1.2, rest.1))
lead_folds (crashed l ∷ events) statuses s t h =
    let rest = lead_folds events statuses h.0 t h.2 in
    (h.1.0 ∷ rest.0, (h.0, h.1.1, rest.1))
lead_folds (altered e ∷ events) statuses s t h =
    let rest = lead_folds events statuses h.0 t h.2 in
    (rest.0, (h.0, h.1, rest.1))
