-- A call leads to the states that its status and what it wrote tell.
use Rattle.std.proofs.Common.{◌≡◌, ◌⊎◌, inl, inr, ⊎_elim, ℕ, ◌≤◌, Bool, true, false, zero, suc, List, [], ◌∷◌, Contains, Option, Some, Result, Ok, Err, refl, sym, ap, ◌∙◌, subst, append-nil, arith}
use Rattle.std.specs.Prelude.{IsTrue}
use Rattle.std.specs.Io.KnownBytes.{Appends, Keeps}
use Rattle.cny_base.specs.Flow.{SinkState}
use Rattle.conary_cli.specs.cli-call.cny-base.declared.refusal.Refusal.{Refusal}
use Rattle.conary_cli.specs.cli-call.cny-base.declared.stop.Stop.{Stop}
use Rattle.conary_cli.specs.cli-call.cny-base.declared.stop.Stop.TheVariants as stop
use Rattle.conary_cli.specs.cli-call.tree-disk.Tree.{Tree}
use Rattle.conary_cli.specs.cli-call.tree-disk.Confined.{LeavesOnly}
use Rattle.conary_cli.specs.cli-call.tree-disk.Disk.{DiskModel, IsDisk}
use Rattle.conary_cli.specs.cli-call.Command.{disks}
use Rattle.conary_cli.specs.cli-call.cny-laws.declared.failure.Failure.{Failure}
use Rattle.conary_cli.specs.cli-call.cny-laws.declared.failure.Failure.TheVariants as failure
use Rattle.conary_cli.specs.cli-call.cny-laws.declared.opened.Opened.{Opened}
use Rattle.conary_cli.specs.cli-call.cny-laws.Call.{CallState, OpensRepository, OpensRoot, StopsOpening}
use Rattle.conary_cli.specs.cli-call.cny-laws.Report.{status_of, End, Reports}
use Rattle.conary_cli.specs.cli-call.cny-laws.State.{IsNext, Meaning, State, Takes}
use Rattle.conary_cli.specs.cli-call.cny-laws.Stops.{repository_failure, root_failure}
use Rattle.conary_cli.specs.cli-call.cny-laws.Store.{IsStore, OneOf}
use Rattle.conary_cli.specs.cli-call.cny-laws.Stores.{repository_store, root_store}
use Rattle.conary_cli.specs.cli-call.cny-laws.WholeCall.{CallCause, CallFrom, IsCall, IsNoCall, LiveOpened, Outcome, RecoversBoth}
use Rattle.conary_cli.proofs.cli-call.cny-laws.EditedSystems.{the_system}
use Rattle.conary_cli.proofs.cli-call.cny-laws.system-core.CallLaws.{no_rise}
use Rattle.conary_cli.proofs.cli-call.cny-laws.system-core.Opened.{never_blocked}
use Rattle.cny_batch.specs.declared.line.Line.{Line}
use Rattle.conary_cli.specs.cli-words.declared.call_words.Call.{Call}
use Rattle.conary_cli.specs.cli-words.declared.call_words.Call.TheVariants as call
use Rattle.conary_cli.specs.cli-words.declared.words.Command.{Command}
use Rattle.conary_cli.specs.cli-words.Calls.{AreCall}
use Rattle.conary_cli.specs.Commands.{meaning, scope_of}
use Rattle.conary_cli.specs.Lines.{CallLine}
use Rattle.conary_cli.specs.Lives.{last_state}
use Rattle.conary_cli.specs.Program.{line_state, told_source, IsProgramCall, IsSomething}
use Rattle.conary_cli.specs.cli-call.cny-laws.Reading.{given}
use Rattle.conary_cli.specs.Several.{before_lines, of_input, AreBatchLines, AreDemoLines, LinesCause, LinesWereRun, Making}
use Rattle.change_rel.proofs.cny-base.Lists.{contains_cases, nothing_in}
use Rattle.outcome_laws.specs.OneOutcome.{IsState}
use Rattle.outcome_laws.specs.Machine.{none_run, Answers, AnswersCall, HasLines}
use Rattle.outcome_laws.specs.Histories.{lines_done, AfterCall, AfterLines, LinesOf}
use Rattle.outcome_laws.specs.Images.{CrashesTo, RecoversIn}
use Rattle.outcome_laws.specs.Cuts.{CallWrites, CannotOpen, CountsTo, WriteLines}
use Rattle.outcome_laws.specs.Play.{told_sink}
use Rattle.outcome_laws.proofs.Counted.{batch_lines, batch_refused, call_counted, demo_lines, demo_refused, none_refused, outcome_same, several_counted, single_answers, single_refused, single_taken, RefusedAnswer}
use Rattle.outcome_laws.proofs.CountedLines.{run_lines, LinesAnswered, LinesCount, WritesTo}
use Rattle.outcome_laws.proofs.CrashLeft.{left_now, not_opened, one_of_two, reads_in, rest_left, weaker_left}
use Rattle.outcome_laws.proofs.OnDisks.{ends_still, in_state, single_words}

-- ---- statuses

-- a failure's own status, or that of want of memory
pub told_status : (e : Failure) (err err' : SinkState) (status : ℕ) → Reports (Err e) err err' status → (status ≡ status_of (Err e)) ⊎ (status ≡ 7)
told_status e err err' status (inl tells) = inl tells.answered
told_status e err err' status (inr tells) = inr tells.1.answered

-- that of a fault of a disk or of want of memory
abbrev IsCutStatus : ℕ → Type 0
IsCutStatus status = (5 ≤ status) × (status ≤ 7)

seventh : (status : ℕ) → status ≡ 7 → IsCutStatus status
seventh status is = (omega (arith, is), omega (arith, is))

fault_status : (e : Failure) (err err' : SinkState) (status : ℕ) → 5 ≤ status_of (Err e) → status_of (Err e) ≤ 7 → Reports (Err e) err err' status → IsCutStatus status
fault_status e err err' status least most reports = ⊎_elim
    (λ own. (omega (arith, own, least), omega (arith, own, most)))
    (λ memory. seventh status memory)
    (told_status e err err' status reports)

some_status : (e : Failure) (status : ℕ) → status ≡ status_of (Err e) ⊎ (status ≡ 7) → 1 ≤ status_of (Err e) → status ≡ 0 → ⊥
some_status e status (inl own) least is = omega (arith, own, least, is)
some_status e status (inr memory) least is = omega (arith, memory, is)

-- ---- what counts

module _ (tree : Tree) (status : ℕ) (out : List ℕ) (l : Line) where
  -- nothing was done, since the root can't be opened
  pub not_counted : (s : State) → CannotOpen tree → (status ≡ 0 → ⊥) → out ≡ [] → CountsTo tree status out l s s
  not_counted s cannot some silent = (0, inl (record { cannot = cannot; some = some; silent = silent; none = refl }), refl)

  -- the machine answers so
  answer_counts : (s t : State) (all : Answers) → AnswersCall l s all → status ≡ status_of all.end → out ≡ all.out → t ≡ last_state s all.states → CountsTo tree status out l s t
  answer_counts s t all answers same_status same_out leads = (
    lines_done all,
    inr (inl (record { all = all; answers = answers; status_is = same_status; out_is = same_out; counted = refl; leads = leads })),
    subst (λ (x : State). AfterCall l (lines_done all) s x) (sym leads) (call_counted l s all answers.expected answers.are answers.is),
  )

  -- it was cut off behind so many lines, or behind one more
  cut_counts : (s t : State) (before : ℕ) → IsCutStatus status → CallWrites l before s out → AfterCall l before s t → CountsTo tree status out l s t
  cut_counts s t before cut wrote after = (before, inr (inr (record { least = cut.0; most = cut.1; before = before; wrote = wrote; counted = inl refl })), after)

  more_counts : (s t : State) (before : ℕ) → IsCutStatus status → CallWrites l before s out → AfterCall l (suc before) s t → CountsTo tree status out l s t
  more_counts s t before cut wrote after = (suc before, inr (inr (record { least = cut.0; most = cut.1; before = before; wrote = wrote; counted = inr refl })), after)

  -- before its first line was done
  none_counts : (s t : State) → IsCutStatus status → out ≡ [] → t ≡ s → CountsTo tree status out l s t
  none_counts s t cut silent same = cut_counts s t 0 cut silent same

  -- the machine refuses it, or memory ran out for its line
  refused_counts : (s t : State) (r : Refusal) → RefusedAnswer l s r → (status ≡ 1) ⊎ (status ≡ 7) → out ≡ [] → t ≡ s → CountsTo tree status out l s t
  refused_counts s t r a (inl one) silent same = answer_counts s t a.all a.answers (one ∙ sym (ap status_of a.ended)) (silent ∙ sym a.silent) (same ∙ sym a.still)
  refused_counts s t r a (inr seven) silent same = none_counts s t (seventh status seven) silent same

-- ---- lines that write

line_writes : (l : Line) (s t : State) (lines : List CallLine) (count : ℕ) (out : List ℕ) → LinesOf l s lines → WriteLines count lines s t out → CallWrites l count s out
line_writes l s t lines zero out has h = h.1
line_writes l s t lines (suc count) out has h = (lines, has, t, h)

-- ---- a call

-- one of some states, and from it by a call that answered so
abbrev pub LedTo : (State → Type 0) → Tree → ℕ → List ℕ → Line → State → Type 0
LedTo Is tree status out l u = (t : State) × Is t × CountsTo tree status out l t u

module _ {T P : Type 0} {root_disk : DiskModel T} {repo_disk : DiskModel P} (root_disk_laws : IsDisk root_disk) (repo_disk_laws : IsDisk repo_disk) (repo_laws : IsStore repository_store) (root_told : IsTrue root_disk.tells) (repo_told : IsTrue repo_disk.tells)
    (Is : State → Type 0) (l : Line) (root root' : T) (repo repo' : P) (crashes : CrashesTo root_disk repo_disk Is root repo) (left out line : List ℕ) (status : ℕ) where
  abbrev before : CallState T P
  before = line_state (told_source l.input) root repo (told_sink [])

  abbrev now : CallState T P
  now = line_state (told_source left) root' repo' (told_sink out)

  abbrev err : SinkState
  err = told_sink []

  abbrev err' : SinkState
  err' = told_sink line

  abbrev tree : Tree
  tree = root_disk.reads root

  abbrev Leads : State → State → Type 0
  Leads s t = CountsTo tree status out l s t

  first : RecoversIn Is (root_disk.reads root) (repo_disk.reads repo)
  first = reads_in root_disk_laws repo_disk_laws root_told repo_told Is root repo crashes

  abbrev s : State
  s = first.state

  -- nothing was done, or one of the disks wasn't opened
  abbrev Unopened : Type 0
  Unopened = ((root' ≡ root) × (repo' ≡ repo)) ⊎ ((e : Failure) × StopsOpening root_disk repo_disk root root' repo repo' e)

  -- from any of the states
  abbrev FromAny : Type 0
  FromAny = CrashesTo root_disk repo_disk (LedTo Is tree status out l) root' repo'

  -- from the one to which the disks recovered
  abbrev FromOne : Type 0
  FromOne = CrashesTo root_disk repo_disk (LedTo (λ t. t ≡ s) tree status out l) root' repo'

  abbrev Goal : Type 0
  Goal = (Unopened × FromAny) ⊎ FromOne

  from_any : Goal → FromAny
  from_any (inl unopened) = unopened.1
  from_any (inr one) = weaker_left root_disk repo_disk (λ u led. (led.0, subst Is (sym led.1) first.among, led.2)) root' repo' one

  state : IsState s
  state = in_state Is (root_disk.reads root) (repo_disk.reads repo) first

  both : RecoversBoth root_disk repo_disk before s
  both = record { root = first.root; repo = first.repo }

  -- nothing was done
  no_call : (e : Failure) → IsNoCall e before now err err' status → ((status ≡ status_of (Err e)) ⊎ (status ≡ 7) → out ≡ [] → (t : State) → Leads t t) → Goal
  no_call e is leads = inl (
    inl (ap (λ (m : CallState T P). m.root) is.same, ap (λ (m : CallState T P). m.repo) is.same),
    weaker_left root_disk repo_disk (λ t old. (t, old, leads (⊎_elim (λ r. told_status e err err' status r) (λ r. inr (⊎_elim (λ own. own) (λ memory. memory) (told_status failure.Memory err err' status r))) is.reports) silent t)) root' repo'
        (subst (λ (m : CallState T P). CrashesTo root_disk repo_disk Is m.root m.repo) (sym is.same) crashes),
  )
    where
      silent : out ≡ []
      silent = let written : ◌≡◌ {A = Option (List ℕ)} (Some out) (Some []) = ap (λ (m : CallState T P). m.out.written) is.same in cc written

  -- ---- by the state after the call

  module _ (m : Meaning) (bytes : List ℕ) (end : End) (f : CallFrom root_disk repo_disk m bytes s before now end) where
    -- what both disks lived from the moment on at which they were opened
    abbrev Live : Type 0
    Live = LiveOpened root_disk repo_disk before now (λ at. LeavesOnly root_disk at root' (OneOf root_store s.root f.next.root)) (λ at. LeavesOnly repo_disk at repo' (OneOf repository_store s.repository f.next.repository))

    -- the one of the two states or the other
    cut_opened : Leads s s → (IsState f.next → Leads s f.next) → Live → FromOne
    cut_opened still leads live image far is is_far = by (one_of_two (λ t. (t ≡ s) ⊎ (t ≡ f.next)) s f.next (inl refl) (inr refl) image far f.apart
        (left_now root_disk_laws (OneOf root_store s.root f.next.root) live.root root' live.root_lives image is)
        (left_now repo_disk_laws (OneOf repository_store s.repository f.next.repository) live.repo repo' live.repo_lives far is_far))
      where
        by : RecoversIn (λ t. (t ≡ s) ⊎ (t ≡ f.next)) image far → RecoversIn (LedTo (λ t. t ≡ s) tree status out l) image far
        by c = record {
          state = c.state;
          among = ⊎_elim
              (λ old. (s, refl, subst (Leads s) (sym old) still))
              (λ new. (s, refl, subst (Leads s) (sym new) (leads (subst IsState new (in_state (λ t. (t ≡ s) ⊎ (t ≡ f.next)) image far c)))))
              c.among;
          root = c.root;
          repo = c.repo;
        }

    -- for each of the states that a crash leaves
    cut_call : ((t : State) → Leads t t) → (IsState f.next → Leads s f.next) → Goal
    cut_call still leads = ⊎_elim
        (λ stops. inl (
          inr (stops.failure, stops.stops),
          weaker_left root_disk repo_disk (λ t old. (t, old, still t)) root' repo' (not_opened root_disk_laws repo_disk_laws root_told repo_told Is root repo crashes root' repo' stops.failure stops.stops),
        ))
        (λ live. inr (cut_opened (still s) leads live))
        f.pair

    -- where the disks were opened, and nothing has changed
    opened_still : f.next ≡ s → Leads s s → Live → FromOne
    opened_still same leads live image far is is_far = by (one_of_two (λ t. t ≡ s) s f.next refl same image far f.apart
        (left_now root_disk_laws (OneOf root_store s.root f.next.root) live.root root' live.root_lives image is)
        (left_now repo_disk_laws (OneOf repository_store s.repository f.next.repository) live.repo repo' live.repo_lives far is_far))
      where
        by : RecoversIn (λ t. t ≡ s) image far → RecoversIn (LedTo (λ t. t ≡ s) tree status out l) image far
        by c = record { state = c.state; among = (s, refl, subst (Leads s) (sym c.among) leads); root = c.root; repo = c.repo }

  -- ---- a call that is refused

  -- why the root wasn't opened, where that refused the call: a fixed directory isn't one, since each log of a disk that recovers can be put
  root_refused : (r : Refusal) (e : Failure) (st : Stop) → e ≡ failure.Refused r → e ≡ root_failure st → OpensRoot root_disk repo_disk root root' (Err st) → CannotOpen tree
  root_refused r e (stop.Refused why) is from opens = ⊎_elim
      (λ log. absurd (never_blocked log first.root.recovers))
      (λ missing. inr (why, missing))
      (opens.stops.told root_told).cause
  root_refused r e stop.Failed is from opens = absurd (cc (sym is ∙ from))
  root_refused r e stop.Memory is from opens = absurd (cc (sym is ∙ from))
  root_refused r e (stop.Damaged path) is from opens = absurd (cc (sym is ∙ from))
  root_refused r e stop.FarFailed is from opens = absurd opens.stops
  root_refused r e (stop.FarDamaged path) is from opens = absurd opens.stops

  repo_refused : (r : Refusal) (e : Failure) (st : Stop) → e ≡ failure.Refused r → e ≡ repository_failure st → OpensRepository root_disk repo_disk repo repo' (Err st) → ⊥
  repo_refused r e (stop.Refused why) is from opens = ⊎_elim
      (λ log. never_blocked log first.repo.recovers)
      (λ none. absurd (cc none))
      (opens.stops.told repo_told).cause
  repo_refused r e stop.Failed is from opens = absurd (cc (sym is ∙ from))
  repo_refused r e stop.Memory is from opens = absurd (cc (sym is ∙ from))
  repo_refused r e (stop.Damaged path) is from opens = absurd (cc (sym is ∙ from))
  repo_refused r e stop.FarFailed is from opens = absurd opens.stops
  repo_refused r e (stop.FarDamaged path) is from opens = absurd opens.stops

  refused_opening : (r : Refusal) (e : Failure) → e ≡ failure.Refused r → StopsOpening root_disk repo_disk root root' repo repo' e → CannotOpen tree
  refused_opening r e is (inl at) = root_refused r e at.stop is at.is at.opens
  refused_opening r e is (inr at) = absurd (repo_refused r e at.stop is at.is at.opens)

  refused_call : (m : Meaning) (bytes : List ℕ) (r : Refusal) (f : CallFrom root_disk repo_disk m bytes s before now (Err (failure.Refused r))) → Reports (Err (failure.Refused r)) err err' status → Keeps (Some []) (Some out) → RefusedAnswer l s r → Goal
  refused_call m bytes r f reports silent answer = ⊎_elim
      (λ stops.
      let same : stops.failure ≡ failure.Refused r = cc (sym stops.is) in
      let cannot = refused_opening r stops.failure same stops.stops in
      inl (
        inr (stops.failure, stops.stops),
        weaker_left root_disk repo_disk (λ t old. (t, old, not_counted tree status out l t cannot some silent)) root' repo' (not_opened root_disk_laws repo_disk_laws root_told repo_told Is root repo crashes root' repo' stops.failure stops.stops),
      ))
      (λ live. inr (opened_still m bytes (Err (failure.Refused r)) f f.ends.1 (refused_counts tree status out l s s r answer own silent refl) live))
      f.pair
    where
      own : (status ≡ 1) ⊎ (status ≡ 7)
      own = told_status (failure.Refused r) err err' status reports

      some : status ≡ 0 → ⊥
      some = some_status (failure.Refused r) status own (omega arith)

  -- ---- one command

  module _ (c : Command) (are : AreCall l.words (Ok (call.Single c))) (bytes : List ℕ) (same : (meaning c).takes_input ≡ true → bytes ≡ l.input) where
    taken : (next : State) → IsState next → {Bytes : List ℕ → Type 0} → Takes (Outcome (meaning c) s bytes) s next Bytes → AfterCall l 1 s next
    taken next is takes = single_taken l c are (single_words l.words c are) s bytes next same is takes

    done : (next : State) → IsState next → status ≡ 0 → Takes (Outcome (meaning c) s bytes) s next (λ wrote. Appends (Some []) (Some out) wrote) → Leads s next
    done next is ok takes = answer_counts tree status out l s next _
        (single_answers l c are (single_words l.words c are) s takes.effect (outcome_same (meaning c) s bytes l.input (Ok takes.effect) same takes.is) (subst IsState takes.leads is))
        ok (takes.bytes ∙ sym (append-nil takes.effect.out)) takes.leads

    cut_off : (next : State) → IsState next → IsCutStatus status → out ≡ [] → IsNext (Outcome (meaning c) s bytes) s next → Leads s next
    cut_off next is cut silent (inl still) = none_counts tree status out l s next cut silent still
    cut_off next is cut silent (inr takes) = more_counts tree status out l s next 0 cut silent (taken next is takes)

    fault_call : (e : Failure) (f : CallFrom root_disk repo_disk (meaning c) bytes s before now (Err e)) → IsCutStatus status → out ≡ [] → IsNext (Outcome (meaning c) s bytes) s f.next → Goal
    fault_call e f cut silent next = cut_call (meaning c) bytes (Err e) f (λ t. none_counts tree status out l t t cut silent refl) (λ is. cut_off f.next is cut silent next)

    single_ended : (end : End) (f : CallFrom root_disk repo_disk (meaning c) bytes s before now end) → Reports end err err' status → CallCause root_disk repo_disk before now end → Goal
    single_ended (Ok x) f reports cause =
        let rests = f.rests tt in
        let is : IsState f.next = record { root = the_system (root_disk.reads root') f.next.root rests.root.stored; repository = rests.repo.stored.repository } in
        inr (rest_left root_disk repo_disk repo_laws (LedTo (λ t. t ≡ s) tree status out l) now f.next (s, refl, done f.next is reports.0 f.ends) rests)
    single_ended (Err (failure.Refused r)) f reports cause =
        refused_call (meaning c) bytes r f reports cause (single_refused l c are (single_words l.words c are) s r (outcome_same (meaning c) s bytes l.input (Err r) same f.ends.0) state)
    single_ended (Err failure.InputFault) f reports cause = absurd (no_rise cause.0)
    single_ended (Err failure.OutputFault) f reports cause = absurd (no_rise cause)
    single_ended (Err failure.RootFault) f reports cause = fault_call failure.RootFault f (fault_status failure.RootFault err err' status (omega arith) (omega arith) reports) cause.1 f.ends
    single_ended (Err failure.RepositoryFault) f reports cause = fault_call failure.RepositoryFault f (fault_status failure.RepositoryFault err err' status (omega arith) (omega arith) reports) cause.1 f.ends
    single_ended (Err failure.Memory) f reports cause = fault_call failure.Memory f (fault_status failure.Memory err err' status (omega arith) (omega arith) reports) cause f.ends
    single_ended (Err failure.Usage) f reports cause = absurd f.ends
    single_ended (Err (failure.Damaged path)) f reports cause = absurd f.ends

  -- ---- several lines

  module _ (takes : Bool) (AreLines : Making) (k : Call) (are : AreCall l.words (Ok k)) where
    -- none was run
    module _ (bytes : List ℕ) (same : takes ≡ true → bytes ≡ l.input) (refuses : (r : Refusal) → Outcome (before_lines takes AreLines) s l.input (Err r) → HasLines k l s (Err r)) where
      no_lines_fault : (e : Failure) (f : CallFrom root_disk repo_disk (before_lines takes AreLines) bytes s before now (Err e)) → IsCutStatus status → out ≡ [] → Goal
      no_lines_fault e f cut silent = cut_call (before_lines takes AreLines) bytes (Err e) f (λ t. none_counts tree status out l t t cut silent refl)
          (λ is. none_counts tree status out l s f.next cut silent (ends_still takes AreLines s bytes f.next before.out now.out (Err e) f.ends).1)

      no_lines_ended : (end : End) (f : CallFrom root_disk repo_disk (before_lines takes AreLines) bytes s before now end) → Reports end err err' status → CallCause root_disk repo_disk before now end → Goal
      no_lines_ended (Ok x) f reports cause = absurd ((ends_still takes AreLines s bytes f.next before.out now.out (Ok x) f.ends).0 refl)
      no_lines_ended (Err (failure.Refused r)) f reports cause =
          refused_call (before_lines takes AreLines) bytes r f reports cause (none_refused l s k r are (refuses r (outcome_same (before_lines takes AreLines) s bytes l.input (Err r) same f.ends.0)))
      no_lines_ended (Err failure.InputFault) f reports cause = absurd (no_rise cause.0)
      no_lines_ended (Err failure.OutputFault) f reports cause = absurd (no_rise cause)
      no_lines_ended (Err failure.RootFault) f reports cause = no_lines_fault failure.RootFault f (fault_status failure.RootFault err err' status (omega arith) (omega arith) reports) cause.1
      no_lines_ended (Err failure.RepositoryFault) f reports cause = no_lines_fault failure.RepositoryFault f (fault_status failure.RepositoryFault err err' status (omega arith) (omega arith) reports) cause.1
      no_lines_ended (Err failure.Memory) f reports cause = no_lines_fault failure.Memory f (fault_status failure.Memory err err' status (omega arith) (omega arith) reports) cause
      no_lines_ended (Err failure.Usage) f reports cause = absurd f.ends
      no_lines_ended (Err (failure.Damaged path)) f reports cause = absurd f.ends

  -- they were run
  module _ (lines : List CallLine) (has : LinesOf l s lines) (opened : Opened) (end : End) (h : LinesCount root_disk repo_disk lines s (told_sink []) (record { at = disks root' repo' opened; out = told_sink out }) end) where
    each_state : ((t : State) → (t ≡ h.before) ⊎ (t ≡ h.last) → IsState t → Leads s t) → Goal
    each_state leads = inr (λ image far is is_far. by image far (h.crashes image far is is_far))
      where
        among : (t : State) → Contains (h.before ∷ h.last ∷ []) t → (t ≡ h.before) ⊎ (t ≡ h.last)
        among t in' = ⊎_elim (λ one. inl (sym one)) (λ later. ⊎_elim (λ two. inr (sym two)) (λ none. absurd (nothing_in t none)) (contains_cases h.last t [] later)) (contains_cases h.before t (h.last ∷ []) in')

        by : (image far : Tree) → RecoversIn (Contains (h.before ∷ h.last ∷ [])) image far → RecoversIn (LedTo (λ t. t ≡ s) tree status out l) image far
        by image far c = record {
          state = c.state;
          among = (s, refl, leads c.state (among c.state c.among) (in_state (Contains (h.before ∷ h.last ∷ [])) image far c));
          root = c.root;
          repo = c.repo;
        }

    -- so many were written
    module _ (wrote : out ≡ h.outs) where
      writes : CallWrites l h.count s out
      writes = line_writes l s h.before lines h.count out has (subst (λ (o : List ℕ). WriteLines h.count lines s h.before o) (sym wrote) h.wrote)

      before_counts : (t : State) → IsCutStatus status → t ≡ h.before → Leads s t
      before_counts t cut same = cut_counts tree status out l s t h.count cut writes (several_counted l s t lines h.count has (subst (λ (x : State). AfterLines h.count lines s x) (sym same) h.counted))

      last_counts : (t : State) → IsCutStatus status → t ≡ h.last → IsState t → Leads s t
      last_counts t cut same is = ⊎_elim
          (λ still. before_counts t cut (same ∙ still))
          (λ one. more_counts tree status out l s t h.count cut writes (several_counted l s t lines (suc h.count) has
          (subst (λ (x : State). AfterLines (suc h.count) lines s x) (sym same) (one (subst IsState same is)))))
          h.further

      lines_cut : IsCutStatus status → Goal
      lines_cut cut = each_state (λ t among is. ⊎_elim (λ one. before_counts t cut one) (λ two. last_counts t cut two is) among)

    lines_answered : LinesAnswered lines s h.before (told_sink []) (told_sink out) h.outs end → h.last ≡ h.before → (status ≡ status_of end) ⊎ (status ≡ 7) → Goal
    lines_answered a still told = each_state (λ t among is. leads t (⊎_elim (λ one. one) (λ two. two ∙ still) among) told)
      where
        leads : (t : State) → t ≡ h.before → (status ≡ status_of end) ⊎ (status ≡ 7) → Leads s t
        leads t same (inl own) = answer_counts tree status out l s t a.all (record { expected = Ok has.calls; are = has.are; is = (Ok lines, has.has, a.answers) }) (own ∙ sym (ap status_of a.ended)) (a.appends ∙ sym a.out_is) (same ∙ a.leads)
        leads t same (inr seven) = before_counts a.appends t (seventh status seven) same

  lines_fault : (lines : List CallLine) (has : LinesOf l s lines) (opened : Opened) (end : End) (h : LinesCount root_disk repo_disk lines s (told_sink []) (record { at = disks root' repo' opened; out = told_sink out }) end)
      → Reports end err err' status → LinesCause root_disk repo_disk before now end → WritesTo end (told_sink []) (told_sink out) h.outs → Goal
  lines_fault lines has opened (Err failure.OutputFault) h reports cause w = absurd (no_rise cause)
  lines_fault lines has opened (Err failure.RootFault) h reports cause w = lines_cut lines has opened (Err failure.RootFault) h w (fault_status failure.RootFault err err' status (omega arith) (omega arith) reports)
  lines_fault lines has opened (Err failure.RepositoryFault) h reports cause w = lines_cut lines has opened (Err failure.RepositoryFault) h w (fault_status failure.RepositoryFault err err' status (omega arith) (omega arith) reports)
  lines_fault lines has opened (Err failure.Memory) h reports cause w = lines_cut lines has opened (Err failure.Memory) h w (fault_status failure.Memory err err' status (omega arith) (omega arith) reports)
  lines_fault lines has opened (Ok x) h reports cause w = absurd w
  lines_fault lines has opened (Err (failure.Refused r)) h reports cause w = absurd w
  lines_fault lines has opened (Err failure.Usage) h reports cause w = absurd w
  lines_fault lines has opened (Err failure.InputFault) h reports cause w = absurd w
  lines_fault lines has opened (Err (failure.Damaged path)) h reports cause w = absurd w

  status_told : (end : End) → Reports end err err' status → (status ≡ status_of end) ⊎ (status ≡ 7)
  status_told (Ok x) reports = inl reports.0
  status_told (Err e) reports = told_status e err err' status reports

  were_run : (takes : Bool) (AreLines : Making) (run : LinesWereRun root_disk repo_disk takes AreLines before now err err' status) → LinesOf l s run.lines → Goal
  were_run takes AreLines run has =
      let h = run_lines root_disk_laws repo_disk_laws repo_laws root_told repo_told takes AreLines before now err err' status run s both in
      ⊎_elim
      (λ a. lines_answered run.lines has run.last run.end h a.0 a.1 (status_told run.end run.reports))
      (λ w. lines_fault run.lines has run.last run.end h run.reports run.cause w)
      h.told

  -- ---- the whole

  single_call : (c : Command) → AreCall l.words (Ok (call.Single c)) → IsCall root_disk repo_disk (scope_of c) (meaning c) before now err err' status → Goal
  single_call c are is = single_ended c are is.input (λ takes. sym (is.is_input takes)) is.end (is.from root_told repo_told s both) is.reports is.facts.cause

  no_lines : (takes : Bool) (AreLines : Making) (k : Call) → AreCall l.words (Ok k) → ((r : Refusal) → Outcome (before_lines takes AreLines) s l.input (Err r) → HasLines k l s (Err r))
      → IsCall root_disk repo_disk of_input (before_lines takes AreLines) before now err err' status → Goal
  no_lines takes AreLines k are refuses is = no_lines_ended takes AreLines k are is.input (λ t. sym (is.is_input t)) refuses is.end (is.from root_told repo_told s both) is.reports is.facts.cause

  program : (expected : Result Call Failure) → AreCall l.words expected → IsProgramCall root_disk repo_disk expected before now err err' status → Goal
  program (Ok (call.Single c)) are is = single_call c are is.call
  program (Ok call.Batch) are (inl is) = no_lines true AreBatchLines call.Batch are (λ r h. batch_refused l s r h) is
  program (Ok call.Batch) are (inr run) = were_run true AreBatchLines run
      (batch_lines l s (run.from root_told repo_told s both).fixed run.bytes run.lines are (subst (λ (i : List ℕ). given true i ≡ Ok run.bytes) (sym (run.is_input refl)) run.gives) run.are)
  program (Ok (call.Demo packages)) are (inl is) = no_lines false (AreDemoLines packages) (call.Demo packages) are (λ r h. demo_refused packages l s r h) is
  program (Ok (call.Demo packages)) are (inr run) = were_run false (AreDemoLines packages) run
      (demo_lines l s (run.from root_told repo_told s both).fixed packages run.bytes run.lines are run.are)
  program (Err e) are is = no_call e is
      (λ told silent t. ⊎_elim
      (λ own. answer_counts tree status out l t t (none_run (Err e)) (record { expected = Err e; are = are; is = refl }) own silent refl)
      (λ seven. none_counts tree status out l t t (seventh status seven) silent refl)
      told)

  ends_so : IsSomething root_disk repo_disk l.words before now err err' status → Goal
  ends_so (inl some) = program some.0 some.1 some.2
  ends_so (inr none) = no_call failure.Memory none (λ told silent t. none_counts tree status out l t t (seventh status (⊎_elim (λ own. own) (λ seven. seven) told)) silent refl)

  pub something : IsSomething root_disk repo_disk l.words before now err err' status → FromAny
  something h = from_any (ends_so h)

  -- where both disks were opened, from one state
  pub from_opened : IsSomething root_disk repo_disk l.words before now err err' status → Unopened ⊎ ((t : State) × Is t × CrashesTo root_disk repo_disk (LedTo (λ u. u ≡ t) tree status out l) root' repo')
  from_opened h = ⊎_elim (λ unopened. inl unopened.0) (λ one. inr (s, first.among, one)) (ends_so h)
