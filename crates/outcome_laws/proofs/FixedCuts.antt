-- Once nothing is unsynced on either disk, the cuts are fixed, and when that is so; and so they are once a call opened both.
use Rattle.std.proofs.Common.{◌≡◌, ◌⊎◌, inl, inr, ⊎_elim, ℕ, ◌≤◌, Bool, true, false, List, [], ◌∷◌, Result, Ok, Err, refl, sym, ap, subst, arith}
use Rattle.conary_cli.specs.cli-call.cny-base.declared.text.OutOfMemory.{OutOfMemory}
use Rattle.conary_cli.specs.cli-call.tree-disk.Confined.{IsSynced}
use Rattle.conary_cli.specs.cli-call.tree-disk.Tree.{Tree}
use Rattle.conary_cli.proofs.cli-call.tree-disk.Laws.{reads_image}
use Rattle.conary_cli.specs.cli-call.cny-laws.declared.failure.Failure.{Failure}
use Rattle.conary_cli.specs.cli-call.cny-laws.declared.failure.Failure.TheVariants as failure
use Rattle.conary_cli.specs.cli-call.cny-laws.Call.{CallState, StopsAtRepository}
use Rattle.conary_cli.specs.cli-call.cny-laws.Report.{status_of, End, Reports}
use Rattle.conary_cli.specs.cli-call.cny-laws.RootOpening.{IsRootOpen}
use Rattle.conary_cli.specs.cli-call.cny-laws.State.{Meaning, Scope, State}
use Rattle.conary_cli.specs.cli-call.cny-laws.Store.{IsStore, Recovers}
use Rattle.conary_cli.specs.cli-call.cny-laws.Stores.{repository_store, root_store}
use Rattle.conary_cli.specs.cli-call.cny-laws.WholeCall.{IsCall, IsNoCall}
use Rattle.cny_batch.specs.declared.line.Line.{Line}
use Rattle.conary_cli.specs.cli-words.declared.call_words.Call.{Call}
use Rattle.conary_cli.specs.cli-words.declared.call_words.Call.TheVariants as call
use Rattle.conary_cli.specs.Commands.{meaning, scope_of}
use Rattle.conary_cli.specs.Program.{IsProgramCall, IsSomething}
use Rattle.conary_cli.specs.Several.{before_lines, of_input, AreBatchLines, AreDemoLines, LinesWereRun, Making}
use Rattle.tree_memory.specs.declared.memory.MemoryTree.{MemoryTree}
use Rattle.tree_memory.specs.Memory.{memory_disk, memory_laws, state}
use Rattle.outcome_laws.specs.declared.playing.Event.{Event}
use Rattle.outcome_laws.specs.declared.playing.Event.TheVariants as event
use Rattle.outcome_laws.specs.Images.{CrashesTo, RecoversIn}
use Rattle.outcome_laws.specs.OneOutcome.{IsState}
use Rattle.outcome_laws.specs.Play.{answered, at_end, at_entry, told_sink, AreLeft, EventEnd, MakesAll, MakesBy, WasMade}
use Rattle.outcome_laws.specs.Played.{FoldsTo, LeaveRoom, NotBothOpened, Stands}
use Rattle.outcome_laws.proofs.CrashLeft.{left_synced, not_opened}
use Rattle.outcome_laws.proofs.ExactCuts.{told_status, LedTo}
use Rattle.outcome_laws.proofs.OnDisks.{in_state}
use Rattle.outcome_laws.proofs.PlayedStates.{by_folds, by_stand, call_opened, first_folds, from_one, is_synced, one_then, promised, weaker_stands, HasLogState, IsStuck, StandsSo}

-- ---- one state

-- it keeps the rules
pub told_state : (root repo : MemoryTree) (s : State) → CrashesTo memory_disk memory_disk (λ t. t ≡ s) root repo → IsState s
told_state root repo s crashes =
    let c = crashes (state root).reads (state repo).reads (reads_image memory_laws root) (reads_image memory_laws repo) in
    subst IsState c.among (in_state (λ t. t ≡ s) (state root).reads (state repo).reads c)

-- all that is left of two disks of which nothing is unsynced recovers to one of the states
module _ (HasRoom : Type 0) (Is : State → Type 0) (root repo : MemoryTree) (synced : IsSynced memory_disk root) (far_synced : IsSynced memory_disk repo) where
  abbrev OneState : Type 0
  OneState = (t : State) × Is t × StandsSo HasRoom (λ u. u ≡ t) root repo

  one_left : CrashesTo memory_disk memory_disk Is root repo → OneState
  one_left crashes = (c.state, c.among, inl one)
    where
      c : RecoversIn Is (state root).reads (state repo).reads
      c = crashes (state root).reads (state repo).reads (reads_image memory_laws root) (reads_image memory_laws repo)

      one : CrashesTo memory_disk memory_disk (λ u. u ≡ c.state) root repo
      one image far is is_far = record {
        state = c.state;
        among = refl;
        root = subst (λ (t : Tree). Recovers root_store t c.state.root) (sym (left_synced memory_disk root synced image is)) c.root;
        repo = subst (λ (t : Tree). Recovers repository_store t c.state.repository) (sym (left_synced memory_disk repo far_synced far is_far)) c.repo;
      }

  one_stuck : (HasRoom → ⊥) → IsStuck Is root repo → OneState
  one_stuck none stuck = (
    b.state,
    b.among,
    inr (
      none,
      (
        record {
          puts = stuck.0.puts;
          synced = stuck.0.synced;
          set = stuck.0.set;
          holds = stuck.0.holds;
          behind = λ far is. record {
            state = b.state;
            among = refl;
            root = b.root;
            repo = subst (λ (t : Tree). Recovers repository_store t b.state.repository) (sym (left_synced memory_disk repo far_synced far is)) b.repo;
          };
        },
        stuck.1,
      ),
    ),
  )
    where
      b : HasLogState Is stuck.0.puts (state root).reads (state repo).reads
      b = stuck.0.behind (state repo).reads (reads_image memory_laws repo)

  one_state : StandsSo HasRoom Is root repo → OneState
  one_state (inl crashes) = one_left crashes
  one_state (inr way) = one_stuck way.0 way.1

-- the later events lead from it
pub cuts_fixed : IsStore repository_store → (events rest : List Event) (ends later : List EventEnd) (result : Result (Unit {0}) OutOfMemory) (root mid root' repo far repo' : MemoryTree) (s : State) → CrashesTo memory_disk memory_disk (λ t. t ≡ s) root repo
    → MakesAll events ends root mid repo far → IsSynced memory_disk mid → IsSynced memory_disk far → MakesBy result rest later mid root' far repo'
    → (t : State) × FoldsTo events ends s t × Stands (LeaveRoom events ends × LeaveRoom rest later) (FoldsTo rest later t) root' repo'
cuts_fixed repo_laws events rest ends later result root mid root' repo far repo' s crashes made synced far_synced more =
    let one = one_state (LeaveRoom events ends) (FoldsTo events ends s) mid far synced far_synced (first_folds repo_laws (Ok tt) events ends root mid repo far s crashes made) in
    (one.0, one.1, promised (LeaveRoom events ends × LeaveRoom rest later) (FoldsTo rest later one.0) root' repo' (by_folds repo_laws result (LeaveRoom events ends) rest later mid root' far repo' one.0 one.2 more))

-- ---- a call that opens both disks

-- It and the later events lead from one state.
pub cuts_opened : IsStore repository_store → (events rest : List Event) (l : Line) (ends later : List EventEnd) (status : ℕ) (out : List ℕ) (result : Result (Unit {0}) OutOfMemory) (root mid here root' repo far there repo' : MemoryTree) (s : State)
    → CrashesTo memory_disk memory_disk (λ t. t ≡ s) root repo → MakesAll events ends root mid repo far → WasMade l status out mid here far there → MakesBy result rest later here root' there repo'
    → NotBothOpened mid here far there ⊎ ((t : State) × FoldsTo events ends s t × Stands (LeaveRoom rest later) (FoldsTo (event.Call l ∷ rest) (answered (state mid).reads status out ∷ later) t) root' repo')
cuts_opened repo_laws events rest l ends later status out result root mid here root' repo far there repo' s crashes made call more = ⊎_elim
    (λ unopened. inl unopened)
    (λ one. inr (one.0, one.1, from one.0 one.2))
    (call_opened repo_laws (LeaveRoom events ends) (FoldsTo events ends s) l status out mid here far there (first_folds repo_laws (Ok tt) events ends root mid repo far s crashes made) call)
  where
    from : (t : State) → CrashesTo memory_disk memory_disk (LedTo (λ u. u ≡ t) (state mid).reads status out l) here there
        → Stands (LeaveRoom rest later) (FoldsTo (event.Call l ∷ rest) (answered (state mid).reads status out ∷ later) t) root' repo'
    from t left =
        let end = answered (state mid).reads status out in
        promised (LeaveRoom rest later) (FoldsTo (event.Call l ∷ rest) (end ∷ later) t) root' repo'
        (weaker_stands (Unit {0} × LeaveRoom (event.Call l ∷ rest) (end ∷ later)) (LeaveRoom rest later) (λ room. (tt, (tt, room))) (λ u is. is) root' repo'
        (from_one repo_laws (Unit {0}) (event.Call l ∷ rest) (end ∷ later) t root' repo'
        (one_then repo_laws (Unit {0}) (λ u. u ≡ t) (event.Call l) end rest later root' repo'
        (by_stand repo_laws result rest later (Unit {0} × Unit {0}) (LedTo (λ u. u ≡ t) (state mid).reads status out l) here root' there repo' (inl left) more))))

-- ---- when nothing is unsynced

pub crash_synced : (pick : ℕ) (root root' repo repo' : MemoryTree) → AreLeft pick root root' repo repo' → IsSynced memory_disk root' × IsSynced memory_disk repo'
crash_synced pick root root' repo repo' left = (is_synced root' (state root').reads left.on_root.begins.state, is_synced repo' (state repo').reads left.on_repo.begins.state)

module _ (l : Line) (status : ℕ) (out left line : List ℕ) (root root' repo repo' : MemoryTree) (small : status ≤ 4) where
  abbrev Settles : Type 0
  Settles = NotBothOpened root root' repo repo' ⊎ (IsSynced memory_disk root' × IsSynced memory_disk repo')

  low_end : (end : End) → Reports end (told_sink []) (told_sink line) status → status_of end ≤ 4
  low_end (Ok x) reports = omega arith
  low_end (Err e) reports = ⊎_elim
      (λ own. omega (arith, own, small))
      (λ seven. absurd (omega (arith, seven, small)))
      (told_status e (told_sink []) (told_sink line) status reports)

  no_call : (e : Failure) → IsNoCall e (at_entry l root repo) (at_end left out root' repo') (told_sink []) (told_sink line) status → Settles
  no_call e is = inl (inl (ap (λ (m : CallState MemoryTree MemoryTree). m.root) is.same, ap (λ (m : CallState MemoryTree MemoryTree). m.repo) is.same))

  one_call : (scope : Scope) (m : Meaning) → IsCall memory_disk memory_disk scope m (at_entry l root repo) (at_end left out root' repo') (told_sink []) (told_sink line) status → Settles
  one_call scope m is = ⊎_elim
      (λ stops. inl (inr (stops.failure, stops.stops)))
      (λ opened. inr ((opened.root_rests (low_end is.end is.reports) refl).synced, (opened.repo_rests (low_end is.end is.reports) refl).synced))
      is.reaches

  lines_call : (takes : Bool) (AreLines : Making) → LinesWereRun memory_disk memory_disk takes AreLines (at_entry l root repo) (at_end left out root' repo') (told_sink []) (told_sink line) status → Settles
  lines_call takes AreLines run = let rest = run.rest (low_end run.end run.reports) in inr ((rest.root refl).synced, (rest.repo refl).synced)

  program : (expected : Result Call Failure) → IsProgramCall memory_disk memory_disk expected (at_entry l root repo) (at_end left out root' repo') (told_sink []) (told_sink line) status → Settles
  program (Ok (call.Single c)) is = one_call (scope_of c) (meaning c) is.call
  program (Ok call.Batch) (inl is) = one_call of_input (before_lines true AreBatchLines) is
  program (Ok call.Batch) (inr run) = lines_call true AreBatchLines run
  program (Ok (call.Demo packages)) (inl is) = one_call of_input (before_lines false (AreDemoLines packages)) is
  program (Ok (call.Demo packages)) (inr run) = lines_call false (AreDemoLines packages) run
  program (Err e) is = no_call e is

  something_settles : IsSomething memory_disk memory_disk l.words (at_entry l root repo) (at_end left out root' repo') (told_sink []) (told_sink line) status → Settles
  something_settles (inl some) = program some.0 some.2
  something_settles (inr none) = no_call failure.Memory none

pub call_synced : (l : Line) (status : ℕ) (out : List ℕ) (root root' repo repo' : MemoryTree) → WasMade l status out root root' repo repo' → status ≤ 4 → NotBothOpened root root' repo repo' ⊎ (IsSynced memory_disk root' × IsSynced memory_disk repo')
call_synced l status out root root' repo repo' h small = something_settles l status out h.left h.line root root' repo repo' small h.call

-- ---- a call that doesn't open both disks

-- nothing of it counts
pub unopened_left : (events : List Event) (ends : List EventEnd) (root root' repo repo' : MemoryTree) (s : State) → NotBothOpened root root' repo repo' → CrashesTo memory_disk memory_disk (FoldsTo events ends s) root repo
    → CrashesTo memory_disk memory_disk (FoldsTo events ends s) root' repo'
unopened_left events ends root root' repo repo' s (inl none) crashes =
    subst (λ (d : MemoryTree). CrashesTo memory_disk memory_disk (FoldsTo events ends s) d repo') (sym none.0)
    (subst (λ (d : MemoryTree). CrashesTo memory_disk memory_disk (FoldsTo events ends s) root d) (sym none.1) crashes)
unopened_left events ends root root' repo repo' s (inr stops) crashes = not_opened memory_laws memory_laws refl refl (FoldsTo events ends s) root repo crashes root' repo' stops.0 stops.1

-- the root alone was opened
pub root_synced : (root root' repo repo' : MemoryTree) (e : Failure) → StopsAtRepository memory_disk memory_disk root root' repo repo' e → IsSynced memory_disk root'
root_synced root root' repo repo' e stops =
    let is : IsRootOpen memory_disk root root' stops.db = stops.opens_root.opened refl in
    is.settled.synced
