-- What the events that `play` makes leave recovers to the states to which they lead.
use Rattle.std.proofs.Common.{◌≡◌, ◌⊎◌, inl, inr, ⊎_elim, ℕ, true, false, List, [], ◌∷◌, Result, Ok, Err, refl, sym, ap, ◌∙◌, subst}
use Rattle.std.specs.Prelude.{IsTrue}
use Rattle.std.proofs.lemmas.Bool.{cases_Bool}
use Rattle.conary_cli.specs.cli-call.cny-base.Reserved.{private_directory}
use Rattle.conary_cli.specs.cli-call.cny-base.declared.text.OutOfMemory.{OutOfMemory}
use Rattle.conary_cli.specs.cli-call.tree-disk.Disk.{IsCrashImage, IsImageOf}
use Rattle.conary_cli.specs.cli-call.tree-disk.Confined.{IsSynced}
use Rattle.conary_cli.specs.cli-call.tree-disk.Tree.{Tree}
use Rattle.conary_cli.proofs.cli-call.tree-disk.Laws.{reads_image}
use Rattle.conary_cli.specs.cli-call.journal-log.declared.put.Put.{Put}
use Rattle.conary_cli.specs.cli-call.tree-journal.CanBePut.{AllCanBePut}
use Rattle.conary_cli.specs.cli-call.tree-journal.Recovery.{at_rest, by_log, is_committed, HoldsLog, RecoversTo}
use Rattle.conary_cli.specs.cli-call.cny-laws.Edits.{edited_tree, Edit, HasEdited, IsEdit}
use Rattle.conary_cli.specs.cli-call.cny-laws.State.{State}
use Rattle.conary_cli.specs.cli-call.cny-laws.Store.{IsStore, Recovers}
use Rattle.conary_cli.specs.cli-call.cny-laws.Stores.{repository_store, root_store}
use Rattle.conary_cli.specs.cli-call.cny-laws.WholeCall.{after_edits}
use Rattle.conary_cli.proofs.cli-call.cny-laws.EditedSystems.{flag_kept, log_kept, recovers_at_rest, the_system}
use Rattle.cny_batch.specs.declared.line.Line.{Line}
use Rattle.repo_load.specs.State.{RepositoryState}
use Rattle.tree_memory.specs.declared.memory.MemoryTree.{MemoryTree}
use Rattle.tree_memory.specs.Memory.{memory_disk, memory_laws, state, IsEdited}
use Rattle.tree_memory.specs.State.{State as DiskState}
use Rattle.outcome_laws.specs.declared.playing.Event.{Event}
use Rattle.outcome_laws.specs.declared.playing.Event.TheVariants as event
use Rattle.outcome_laws.specs.Images.{CrashesTo, HasCrashed, RecoversIn}
use Rattle.outcome_laws.specs.Cuts.{CannotOpen}
use Rattle.outcome_laws.specs.Play.{answered, edit_of, met, stopped, AreLeft, EventEnd, HasPlayed, IsLeft, Makes, MakesAll, MakesBy, MakesSome, MeetsEdit, RanStopped, StaysStopped, WasMade}
use Rattle.outcome_laws.specs.Played.{Alters, BlocksLog, EventLeavesRoom, FoldsTo, IsCounted, IsLeftBlocked, IsLost, LeaveRoom, LeavesRoom, NotBothOpened, Stands}
use Rattle.outcome_laws.proofs.CanDecide.{can_or_not, Decides}
use Rattle.outcome_laws.proofs.CrashLeft.{crash_left, left_synced, weaker_left}
use Rattle.outcome_laws.proofs.LogStates.{log_itself, log_recovers, next_log, of_log, IsLogState}
use Rattle.outcome_laws.proofs.ToldFolds.{lead_told, LeadsFrom, LeadThrough}
use Rattle.outcome_laws.proofs.BlockedLogs.{does_nothing}
use Rattle.outcome_laws.proofs.ExactCuts.{from_opened, not_counted, something, LedTo}

-- ---- disks in memory

told : IsTrue memory_disk.tells
told = refl

-- what a crash leaves is a matter of the disks' states alone
abbrev LeftOf : (State → Type 0) → DiskState → DiskState → Type 0
LeftOf Is x y = (image far : Tree) → IsCrashImage x.reads x.unsynced image → IsCrashImage y.reads y.unsynced far → RecoversIn Is image far

same_left : (Is : State → Type 0) (root root' repo repo' : MemoryTree) → state root' ≡ state root → state repo' ≡ state repo → CrashesTo memory_disk memory_disk Is root repo → CrashesTo memory_disk memory_disk Is root' repo'
same_left Is root root' repo repo' a b crashes =
    subst (λ (x : DiskState). LeftOf Is x (state repo')) (sym a) (subst (λ (y : DiskState). LeftOf Is (state root) y) (sym b) crashes)

pub is_synced : (d : MemoryTree) (t : Tree) → state d ≡ record { reads = t; synced = t; unsynced = λ p. false } → IsSynced memory_disk d
is_synced d t settled p = ap (λ (x : DiskState). x.unsynced p) settled

crashed_by : (pick : ℕ) (old new : MemoryTree) → IsLeft pick old new → HasCrashed memory_disk old new
crashed_by pick old new is = record { left = is.image; synced = is_synced new (state new).reads is.begins.state }

edited_by : (e : Edit) (old new : MemoryTree) → IsEdited (edited_tree (state old).reads e) old new → HasEdited memory_disk e old new
edited_by e old new is = record { reads = ap (λ (x : DiskState). x.reads) is.state; synced = is_synced new (edited_tree (state old).reads e) is.state }

-- ---- edits that block a log

-- one of some states is a state of the log, and the repository recovers to it
pub record HasLogState (Is : State → Type 0) (puts : List Put) (tree far : Tree) : Type 0 where
  pub state : State
  pub among : Is state
  pub root : IsLogState puts tree state
  pub repo : Recovers repository_store far state.repository

-- The log that stands behind a commit flag that is set: a crash leaves it, and the states are of it.
pub record HasLog (Is : State → Type 0) (root repo : MemoryTree) : Type 0 where
  pub puts : List Put
  pub synced : IsSynced memory_disk root
  pub set : is_committed private_directory (state root).reads ≡ true
  pub holds : HoldsLog private_directory puts (state root).reads
  pub behind : (far : Tree) → IsImageOf memory_disk repo far → HasLogState Is puts (state root).reads far

-- it can't be put
abbrev pub IsStuck : (State → Type 0) → MemoryTree → MemoryTree → Type 0
IsStuck Is root repo = (l : HasLog Is root repo) × (AllCanBePut l.puts (state root).reads → ⊥)

-- as is promised, but that more is known of a log that can't be put
abbrev pub StandsSo : Type 0 → (State → Type 0) → MemoryTree → MemoryTree → Type 0
StandsSo HasRoom Is root repo = CrashesTo memory_disk memory_disk Is root repo ⊎ ((HasRoom → ⊥) × IsStuck Is root repo)

block_of : (Is : State → Type 0) (root repo : MemoryTree) (l : HasLog Is root repo) → (AllCanBePut l.puts (state root).reads → ⊥) → BlocksLog Is root repo
block_of Is root repo l cannot = record {
  log = record { set = l.set; puts = l.puts; holds = l.holds; cannot = cannot };
  synced = l.synced;
  behind = λ far is. let b = l.behind far is in record { state = b.state; among = b.among; root = of_log l.puts (state root).reads b.state b.root; repo = b.repo };
}

pub promised : (HasRoom : Type 0) (Is : State → Type 0) (root repo : MemoryTree) → StandsSo HasRoom Is root repo → Stands HasRoom Is root repo
promised HasRoom Is root repo (inl crashes) = inl crashes
promised HasRoom Is root repo (inr way) = inr (way.0, block_of Is root repo way.1.0 way.1.1)

-- ---- fewer states are some of more

weaker_stuck : {Is More : State → Type 0} → ((t : State) → Is t → More t) → (root repo : MemoryTree) → IsStuck Is root repo → IsStuck More root repo
weaker_stuck more root repo stuck =
    let l = stuck.0 in (
      record {
        puts = l.puts;
        synced = l.synced;
        set = l.set;
        holds = l.holds;
        behind = λ far is. let b = l.behind far is in record { state = b.state; among = more b.state b.among; root = b.root; repo = b.repo };
      },
      stuck.1,
    )

-- and where there is more room, there is less
pub weaker_stands : (HasRoom HasMore : Type 0) {Is More : State → Type 0} → (HasMore → HasRoom) → ((t : State) → Is t → More t) → (root repo : MemoryTree) → StandsSo HasRoom Is root repo → StandsSo HasMore More root repo
weaker_stands HasRoom HasMore room more root repo (inl crashes) = inl (weaker_left memory_disk memory_disk more root repo crashes)
weaker_stands HasRoom HasMore room more root repo (inr way) = inr (λ all. way.0 (room all), weaker_stuck more root repo way.1)

-- ---- disks of the same states

same_log : (Is : State → Type 0) (root root' repo repo' : MemoryTree) → state root' ≡ state root → state repo' ≡ state repo → IsStuck Is root repo → IsStuck Is root' repo'
same_log Is root root' repo repo' a b stuck =
    let l = stuck.0 in (
      record {
        puts = l.puts;
        synced = λ p. ap (λ (x : DiskState). x.unsynced p) a ∙ l.synced p;
        set = ap (λ (x : DiskState). is_committed private_directory x.reads) a ∙ l.set;
        holds = subst (λ (x : DiskState). HoldsLog private_directory l.puts x.reads) (sym a) l.holds;
        behind = λ far is. subst (λ (x : DiskState). HasLogState Is l.puts x.reads far) (sym a) (l.behind far (subst (λ (y : DiskState). IsCrashImage y.reads y.unsynced far) b is));
      },
      λ can. stuck.1 (subst (λ (x : DiskState). AllCanBePut l.puts x.reads) a can),
    )

same_stands : (HasRoom : Type 0) (Is : State → Type 0) (root root' repo repo' : MemoryTree) → state root' ≡ state root → state repo' ≡ state repo → StandsSo HasRoom Is root repo → StandsSo HasRoom Is root' repo'
same_stands HasRoom Is root root' repo repo' a b (inl crashes) = inl (same_left Is root root' repo repo' a b crashes)
same_stands HasRoom Is root root' repo repo' a b (inr way) = inr (way.0, same_log Is root root' repo repo' a b way.1)

-- ---- the log can be put, or it can't

module _ (Is : State → Type 0) (root repo : MemoryTree) (l : HasLog Is root repo) (HasRoom : Type 0) (room : HasRoom → AllCanBePut l.puts (state root).reads) where
  put_back : AllCanBePut l.puts (state root).reads → CrashesTo memory_disk memory_disk Is root repo
  put_back can image far is is_far =
      let b = l.behind far is_far in
      record {
        state = b.state;
        among = b.among;
        root = subst (λ (t : Tree). Recovers root_store t b.state.root) (sym (left_synced memory_disk root l.synced image is)) (log_recovers l.puts (state root).reads b.state b.root can);
        repo = b.repo;
      }

  settles : Decides (AllCanBePut l.puts (state root).reads) → StandsSo HasRoom Is root repo
  settles (inl can) = inl (put_back can)
  settles (inr cannot) = inr (λ all. cannot (room all), (l, cannot))

  stands_by_log : StandsSo HasRoom Is root repo
  stands_by_log = settles (can_or_not l.puts (state root).reads)

-- ---- an edit

module _ (e : Edit) (root root' repo : MemoryTree) (edit : IsEdit (state root).reads e) (is : IsEdited (edited_tree (state root).reads e) root root') where
  has : HasEdited memory_disk e root root'
  has = edited_by e root root' is

  -- a state of these, with what the edit makes of it
  abbrev Altered : (State → Type 0) → State → Type 0
  Altered Is u = (t : State) × Is t × Alters (state root).reads e t u

  -- ---- while the commit flag isn't set

  -- no edit is lost then
  never_lost : is_committed private_directory (state root).reads ≡ false → IsLost (state root).reads e → ⊥
  never_lost clear (inl over) = over edit
  never_lost clear (inr logged) = let set = logged.0 in absurd (cc (sym clear ∙ set))

  edit_kept : (Is : State → Type 0) → CrashesTo memory_disk memory_disk Is root repo → is_committed private_directory (state root).reads ≡ false → CrashesTo memory_disk memory_disk (Altered Is) root' repo
  edit_kept Is crashes clear image far is_image is_far =
      let c = crashes (state root).reads far (reads_image memory_laws root) is_far in
      let to = recovers_at_rest (state root).reads c.state.root e edit.not_reserved edit.leaves_tree clear (c.root.tree, c.root.recovers, c.root.stored) in
      let next = after_edits c.state (e ∷ []) in
      let allowed : IsEdit c.state.root.tree e = record { not_reserved = edit.not_reserved; not_pinned = edit.not_pinned; leaves_tree = (the_system to.0 next.root to.2).tree } in
      record {
        state = next;
        among = (c.state, c.among, (λ also. inl (clear, c.root), inl (never_lost clear, inl (allowed, refl))));
        root = subst (λ (t : Tree). Recovers root_store t next.root) (sym (left_synced memory_disk root' has.synced image is_image ∙ has.reads)) (record { tree = to.0; recovers = to.1; stored = to.2 });
        repo = c.repo;
      }

  -- ---- while it is set

  module _ (HasRoom : Type 0) (Is : State → Type 0) (puts : List Put) (set : is_committed private_directory (state root).reads ≡ true) (holds : HoldsLog private_directory puts (state root).reads) where
    log_altered : (far : Tree) → HasLogState Is puts (state root).reads far → HasLogState (Altered Is) puts (state root').reads far
    log_altered far b =
        let next = next_log puts (state root).reads (state root').reads e edit has.reads set holds b.state b.root in
        record {
          state = next.0;
          among = (b.state, b.among, (λ also. inr (set, puts, holds, of_log puts (state root).reads b.state b.root), next.1));
          root = next.2;
          repo = subst (λ (r : RepositoryState). Recovers repository_store far r) (same_repository next.0 next.1) b.repo;
        }
      where
        -- an edit changes nothing of the repository
        same_repository : (t : State) → IsCounted (state root).reads e b.state t → b.state.repository ≡ t.repository
        same_repository t (inl own) = ⊎_elim (λ kept. ap (λ (s : State). s.repository) (sym kept.1)) (λ over. ap (λ (s : State). s.repository) (sym over.1)) own.1
        same_repository t (inr lost) = ap (λ (s : State). s.repository) (sym lost.1)

    -- there is room where the edit leaves it
    log_stands : ((far : Tree) → IsImageOf memory_disk repo far → HasLogState Is puts (state root).reads far) → StandsSo (HasRoom × LeavesRoom (state root).reads e) (Altered Is) root' repo
    log_stands each = stands_by_log (Altered Is) root' repo
        (record {
          puts = puts;
          synced = has.synced;
          set = ap (is_committed private_directory) has.reads ∙ flag_kept (state root).reads e edit.not_reserved ∙ set;
          holds = subst (HoldsLog private_directory puts) (sym has.reads) (log_kept (state root).reads e edit.not_reserved puts holds);
          behind = λ far is_far. log_altered far (each far is_far);
        })
        (HasRoom × LeavesRoom (state root).reads e)
        (λ room. subst (AllCanBePut puts) (sym has.reads) (room.1 edit puts set holds))

  -- of the log that stands there
  edit_beside : (HasRoom : Type 0) (Is : State → Type 0) → CrashesTo memory_disk memory_disk Is root repo → is_committed private_directory (state root).reads ≡ true → StandsSo (HasRoom × LeavesRoom (state root).reads e) (Altered Is) root' repo
  edit_beside HasRoom Is crashes set = by c.root.recovers
    where
      then_in : (far : Tree) → IsImageOf memory_disk repo far → RecoversIn Is (state root).reads far
      then_in far is_far = crashes (state root).reads far (reads_image memory_laws root) is_far

      c : RecoversIn Is (state root).reads (state repo).reads
      c = then_in (state repo).reads (reads_image memory_laws repo)

      by : RecoversTo private_directory (state root).reads c.root.tree → StandsSo (HasRoom × LeavesRoom (state root).reads e) (Altered Is) root' repo
      by (at_rest clear same) = absurd (cc (sym set ∙ clear))
      by (by_log also puts holds stand can same) = log_stands HasRoom Is puts set holds (λ far is_far.
          let at = then_in far is_far in
          record { state = at.state; among = at.among; root = log_itself puts (state root).reads at.state (memory_laws.reads_well_formed root) set holds at.root; repo = at.repo })

  edit_stands : (HasRoom : Type 0) (Is : State → Type 0) → StandsSo HasRoom Is root repo → StandsSo (HasRoom × LeavesRoom (state root).reads e) (Altered Is) root' repo
  edit_stands HasRoom Is (inl crashes) = ⊎_elim (λ set. edit_beside HasRoom Is crashes set) (λ clear. inl (edit_kept Is crashes clear)) (cases_Bool (is_committed private_directory (state root).reads))
  edit_stands HasRoom Is (inr way) = let l = way.1.0 in log_stands HasRoom Is l.puts l.set l.holds l.behind

-- ---- a call of a root whose log can't be put

module _ (Is : State → Type 0) (l : Line) (status : ℕ) (out : List ℕ) (root root' repo repo' : MemoryTree) (stuck : IsStuck Is root repo) (h : WasMade l status out root root' repo repo') where
  stuck_call : IsLeftBlocked status out root root' repo repo'
  stuck_call = let log = stuck.0 in does_nothing l status root root' repo repo' h.left out h.line log.puts log.synced log.set log.holds stuck.1 h.call

  -- it still can't
  called_stuck : IsStuck (LedTo Is (state root).reads status out l) root' repo'
  called_stuck =
      let log = stuck.0 in
      let n = stuck_call in (
        record {
          puts = log.puts;
          synced = n.synced;
          set = ap (is_committed private_directory) n.reads ∙ log.set;
          holds = subst (HoldsLog private_directory log.puts) (sym n.reads) log.holds;
          behind = λ far is.
              let b = log.behind far (subst (λ (d : MemoryTree). IsImageOf memory_disk d far) n.same is) in
              let cannot : CannotOpen (state root).reads = inl (record { set = log.set; puts = log.puts; holds = log.holds; cannot = stuck.1 }) in
              record {
                state = b.state;
                among = (b.state, b.among, not_counted (state root).reads status out l b.state cannot n.some n.silent);
                root = subst (λ (t : Tree). IsLogState log.puts t b.state) (sym n.reads) b.root;
                repo = b.repo;
              };
        },
        λ can. stuck.1 (subst (AllCanBePut log.puts) n.reads can),
      )

-- ---- the events

module _ (repo_laws : IsStore repository_store) where
  call_stands : (HasRoom : Type 0) (Is : State → Type 0) (l : Line) (status : ℕ) (out : List ℕ) (root root' repo repo' : MemoryTree) → StandsSo HasRoom Is root repo → WasMade l status out root root' repo repo'
      → StandsSo HasRoom (LedTo Is (state root).reads status out l) root' repo'
  call_stands HasRoom Is l status out root root' repo repo' (inl crashes) h = inl (something memory_laws memory_laws repo_laws told told Is l root root' repo repo' crashes h.left out h.line status h.call)
  call_stands HasRoom Is l status out root root' repo repo' (inr way) h = inr (way.0, called_stuck Is l status out root root' repo repo' way.1 h)

  -- where it opened both disks, from one state
  pub call_opened : (HasRoom : Type 0) (Is : State → Type 0) (l : Line) (status : ℕ) (out : List ℕ) (root root' repo repo' : MemoryTree) → StandsSo HasRoom Is root repo → WasMade l status out root root' repo repo'
      → NotBothOpened root root' repo repo' ⊎ ((t : State) × Is t × CrashesTo memory_disk memory_disk (LedTo (λ u. u ≡ t) (state root).reads status out l) root' repo')
  call_opened HasRoom Is l status out root root' repo repo' (inl crashes) h = from_opened memory_laws memory_laws repo_laws told told Is l root root' repo repo' crashes h.left out h.line status h.call
  call_opened HasRoom Is l status out root root' repo repo' (inr way) h = inl (stuck_call Is l status out root root' repo repo' way.1 h).unopened

  stopped_stands : (HasRoom : Type 0) (Is : State → Type 0) (l : Line) (repo_calls root_calls status : ℕ) (out : List ℕ) (root root' repo repo' : MemoryTree) → StandsSo HasRoom Is root repo → RanStopped l repo_calls root_calls status out root root' repo repo'
      → StandsSo HasRoom (LedTo Is (state root).reads status out l) root' repo'
  stopped_stands HasRoom Is l repo_calls root_calls status out root root' repo repo' stands h = subst (λ (x : DiskState). StandsSo HasRoom (LedTo Is x.reads status out l) root' repo') h.root_stop.state
      (call_stands HasRoom Is l status out h.begun root' h.far repo' (same_stands HasRoom Is root h.begun repo h.far h.root_stop.state h.repo_stop.state stands) h.was_made)

  crash_stands : (HasRoom : Type 0) (Is : State → Type 0) (pick : ℕ) (root root' repo repo' : MemoryTree) → AreLeft pick root root' repo repo' → StandsSo HasRoom Is root repo → StandsSo HasRoom Is root' repo'
  crash_stands HasRoom Is pick root root' repo repo' left (inl crashes) = inl (crash_left memory_disk memory_disk Is root root' repo repo' (crashed_by pick root root' left.on_root) (crashed_by pick repo repo' left.on_repo) crashes)
  crash_stands HasRoom Is pick root root' repo repo' left (inr way) =
      let log = way.1.0 in
      let reads : (state root').reads ≡ (state root).reads = left_synced memory_disk root log.synced (state root').reads left.on_root.image in
      inr (
        way.0,
        (
          record {
            puts = log.puts;
            synced = is_synced root' (state root').reads left.on_root.begins.state;
            set = ap (is_committed private_directory) reads ∙ log.set;
            holds = subst (HoldsLog private_directory log.puts) (sym reads) log.holds;
            behind = λ far is. subst (λ (t : Tree). HasLogState Is log.puts t far) (sym reads) (log.behind far (subst (λ (t : Tree). IsImageOf memory_disk repo t)
                (sym (left_synced memory_disk repo' (is_synced repo' (state repo').reads left.on_repo.begins.state) far is)) left.on_repo.image));
          },
          λ can. way.1.1 (subst (AllCanBePut log.puts) reads can),
        ),
      )

  -- one of some states, and from it by an event
  abbrev pub After : (State → Type 0) → Event → EventEnd → State → Type 0
  After Is e end u = (t : State) × Is t × LeadsFrom e end t u

  -- the room is that before, and what the event leaves
  abbrev StandsAfter : Type 0 → (State → Type 0) → Event → EventEnd → MemoryTree → MemoryTree → Type 0
  StandsAfter HasRoom Is e end root repo = StandsSo (HasRoom × EventLeavesRoom e end) (After Is e end) root repo

  same_room : (HasRoom : Type 0) (Is : State → Type 0) (root repo : MemoryTree) → StandsSo HasRoom Is root repo → StandsSo (HasRoom × Unit {0}) Is root repo
  same_room HasRoom Is root repo stands = weaker_stands HasRoom (HasRoom × Unit {0}) (λ room. room.0) (λ t is. is) root repo stands

  meets_stands : (HasRoom : Type 0) (Is : State → Type 0) (e : Edit) (root root' repo : MemoryTree) → StandsSo HasRoom Is root repo → MeetsEdit e root root'
      → StandsSo (HasRoom × LeavesRoom (state root).reads e) (λ u. (t : State) × Is t × Alters (state root).reads e t u) root' repo
  meets_stands HasRoom Is e root root' repo stands (inl made) = edit_stands e root root' repo made.0 made.1 HasRoom Is stands
  meets_stands HasRoom Is e root root' repo stands (inr over) = weaker_stands HasRoom (HasRoom × LeavesRoom (state root).reads e) (λ room. room.0) (λ t is. (t, is, (λ edit. absurd (over.0 edit), inr (inl over.0, refl)))) root' repo
      (same_stands HasRoom Is root root' repo repo over.1.state refl stands)

  event_stands : (HasRoom : Type 0) (Is : State → Type 0) (e : Event) (end : EventEnd) (root root' repo repo' : MemoryTree) → StandsSo HasRoom Is root repo → Makes e end root root' repo repo' → StandsAfter HasRoom Is e end root' repo'
  event_stands HasRoom Is (event.Call l) (answered tree status out) root root' repo repo' stands h =
      subst (λ (x : Tree). StandsAfter HasRoom Is (event.Call l) (answered x status out) root' repo') (sym h.0)
      (same_room HasRoom (LedTo Is (state root).reads status out l) root' repo' (call_stands HasRoom Is l status out root root' repo repo' stands h.1))
  event_stands HasRoom Is (event.Call l) (stopped tree status out) root root' repo repo' stands h = absurd h
  event_stands HasRoom Is (event.Call l) (met tree) root root' repo repo' stands h = absurd h
  event_stands HasRoom Is (event.Stopped l repo_calls root_calls pick) (answered tree status out) root root' repo repo' stands h = absurd h
  event_stands HasRoom Is (event.Stopped l repo_calls root_calls pick) (stopped tree status out) root root' repo repo' stands h =
      subst (λ (x : Tree). StandsAfter HasRoom Is (event.Stopped l repo_calls root_calls pick) (stopped x status out) root' repo') (sym h.0)
      (same_room HasRoom (LedTo Is (state root).reads status out l) root' repo'
      (crash_stands HasRoom (LedTo Is (state root).reads status out l) pick h.1 root' h.2 repo' h.4 (stopped_stands HasRoom Is l repo_calls root_calls status out root h.1 repo h.2 stands h.3)))
  event_stands HasRoom Is (event.Stopped l repo_calls root_calls pick) (met tree) root root' repo repo' stands h = absurd h
  event_stands HasRoom Is (event.Edit path _) (answered tree status out) root root' repo repo' stands h = absurd h
  event_stands HasRoom Is (event.Edit path _) (stopped tree status out) root root' repo repo' stands h = absurd h
  event_stands HasRoom Is (event.Edit path node) (met tree) root root' repo repo' stands h =
      subst (λ (d : MemoryTree). StandsAfter HasRoom Is (event.Edit path node) (met tree) root' d) (sym h.2)
      (subst (λ (x : Tree). StandsAfter HasRoom Is (event.Edit path node) (met x) root' repo) (sym h.0) (meets_stands HasRoom Is (edit_of path node) root root' repo stands h.1))

  -- one of some states, and from it by the first of these events
  abbrev pub Through : (State → Type 0) → List Event → List EventEnd → State → Type 0
  Through Is events ends u = (t : State) × Is t × LeadThrough events ends t u

  abbrev pub StandsThrough : Type 0 → (State → Type 0) → List Event → List EventEnd → MemoryTree → MemoryTree → Type 0
  StandsThrough HasRoom Is events ends root repo = StandsSo (HasRoom × LeaveRoom events ends) (Through Is events ends) root repo

  none_through : (events : List Event) (s t : State) → t ≡ s → LeadThrough events [] s t
  none_through [] s t same = same
  none_through (e ∷ events) s t same = same

  -- first by one, then by the others
  pub one_then : (HasRoom : Type 0) (Is : State → Type 0) (e : Event) (end : EventEnd) (events : List Event) (ends : List EventEnd) (root repo : MemoryTree) → StandsThrough (HasRoom × EventLeavesRoom e end) (After Is e end) events ends root repo
      → StandsThrough HasRoom Is (e ∷ events) (end ∷ ends) root repo
  one_then HasRoom Is e end events ends root repo stands = weaker_stands ((HasRoom × EventLeavesRoom e end) × LeaveRoom events ends) (HasRoom × LeaveRoom (e ∷ events) (end ∷ ends)) (λ room. ((room.0, room.1.0), room.1.1))
      (λ u led. (led.1.0, led.1.1, (led.0, led.1.2, led.2))) root repo stands

  pub all_stand : (events : List Event) (ends : List EventEnd) (HasRoom : Type 0) (Is : State → Type 0) (root root' repo repo' : MemoryTree) → StandsSo HasRoom Is root repo → MakesAll events ends root root' repo repo' → StandsThrough HasRoom Is events ends root' repo'
  all_stand [] [] HasRoom Is root root' repo repo' stands h = weaker_stands HasRoom (HasRoom × Unit {0}) (λ room. room.0) (λ t is. (t, is, refl)) root' repo'
      (subst (λ (d : MemoryTree). StandsSo HasRoom Is d repo') (sym h.0) (subst (λ (d : MemoryTree). StandsSo HasRoom Is root d) (sym h.1) stands))
  all_stand [] (end ∷ ends) HasRoom Is root root' repo repo' stands h = absurd h
  all_stand (e ∷ events) [] HasRoom Is root root' repo repo' stands h = absurd h
  all_stand (e ∷ events) (end ∷ ends) HasRoom Is root root' repo repo' stands h = one_then HasRoom Is e end events ends root' repo'
      (all_stand events ends (HasRoom × EventLeavesRoom e end) (After Is e end) h.0 root' h.1 repo' (event_stands HasRoom Is e end root h.0 repo h.1 stands h.2) h.3)

  -- the last one made, whose disks stay stopped
  stays_stand : (HasRoom : Type 0) (Is : State → Type 0) (e : Event) (end : EventEnd) (root root' repo repo' : MemoryTree) → StandsSo HasRoom Is root repo → StaysStopped e end root root' repo repo' → StandsAfter HasRoom Is e end root' repo'
  stays_stand HasRoom Is (event.Call l) end root root' repo repo' stands h = absurd h
  stays_stand HasRoom Is (event.Stopped l repo_calls root_calls pick) (answered tree status out) root root' repo repo' stands h = absurd h
  stays_stand HasRoom Is (event.Stopped l repo_calls root_calls pick) (stopped tree status out) root root' repo repo' stands h =
      subst (λ (x : Tree). StandsAfter HasRoom Is (event.Stopped l repo_calls root_calls pick) (stopped x status out) root' repo') (sym h.0)
      (same_room HasRoom (LedTo Is (state root).reads status out l) root' repo' (stopped_stands HasRoom Is l repo_calls root_calls status out root root' repo repo' stands h.1))
  stays_stand HasRoom Is (event.Stopped l repo_calls root_calls pick) (met tree) root root' repo repo' stands h = absurd h
  stays_stand HasRoom Is (event.Edit path _) end root root' repo repo' stands h = absurd h

  some_stand : (events : List Event) (ends : List EventEnd) (HasRoom : Type 0) (Is : State → Type 0) (root root' repo repo' : MemoryTree) → StandsSo HasRoom Is root repo → MakesSome events ends root root' repo repo' → StandsThrough HasRoom Is events ends root' repo'
  some_stand [] ends HasRoom Is root root' repo repo' stands h = absurd h
  some_stand (e ∷ events) [] HasRoom Is root root' repo repo' stands h = weaker_stands HasRoom (HasRoom × Unit {0}) (λ room. room.0) (λ t is. (t, is, refl)) root' repo'
      (subst (λ (d : MemoryTree). StandsSo HasRoom Is root' d) (sym h.1) (same_stands HasRoom Is root root' repo repo h.0.state refl stands))
  some_stand (e ∷ events) (end ∷ ends) HasRoom Is root root' repo repo' stands (inl last) =
      subst (λ (l : List EventEnd). StandsThrough HasRoom Is (e ∷ events) (end ∷ l) root' repo') (sym last.0)
      (weaker_stands (HasRoom × EventLeavesRoom e end) (HasRoom × LeaveRoom (e ∷ events) (end ∷ [])) (λ room. (room.0, room.1.0)) (λ u led. (led.0, led.1, (u, led.2, none_through events u u refl))) root' repo'
      (stays_stand HasRoom Is e end root root' repo repo' stands last.1))
  some_stand (e ∷ events) (end ∷ ends) HasRoom Is root root' repo repo' stands (inr h) = one_then HasRoom Is e end events ends root' repo'
      (some_stand events ends (HasRoom × EventLeavesRoom e end) (After Is e end) h.0 root' h.1 repo' (event_stands HasRoom Is e end root h.0 repo h.1 stands h.2) h.3)

  pub by_stand : (r : Result (Unit {0}) OutOfMemory) (events : List Event) (ends : List EventEnd) (HasRoom : Type 0) (Is : State → Type 0) (root root' repo repo' : MemoryTree) → StandsSo HasRoom Is root repo → MakesBy r events ends root root' repo repo'
      → StandsThrough HasRoom Is events ends root' repo'
  by_stand (Ok x) events ends HasRoom Is root root' repo repo' stands h = all_stand events ends HasRoom Is root root' repo repo' stands h
  by_stand (Err x) events ends HasRoom Is root root' repo repo' stands h = some_stand events ends HasRoom Is root root' repo repo' stands h

  -- ---- the whole

  -- from one state, to the fold
  pub from_one : (HasRoom : Type 0) (events : List Event) (ends : List EventEnd) (s : State) (root repo : MemoryTree) → StandsThrough HasRoom (λ t. t ≡ s) events ends root repo → StandsSo (HasRoom × LeaveRoom events ends) (FoldsTo events ends s) root repo
  from_one HasRoom events ends s root repo stands = weaker_stands (HasRoom × LeaveRoom events ends) (HasRoom × LeaveRoom events ends) (λ room. room)
      (λ u led. lead_told events ends s u (subst (λ (t : State). LeadThrough events ends t u) led.1 led.2)) root repo stands

  pub by_folds : (r : Result (Unit {0}) OutOfMemory) (HasRoom : Type 0) (events : List Event) (ends : List EventEnd) (root root' repo repo' : MemoryTree) (s : State) → StandsSo HasRoom (λ t. t ≡ s) root repo → MakesBy r events ends root root' repo repo'
      → StandsSo (HasRoom × LeaveRoom events ends) (FoldsTo events ends s) root' repo'
  by_folds r HasRoom events ends root root' repo repo' s stands h = from_one HasRoom events ends s root' repo' (by_stand r events ends HasRoom (λ t. t ≡ s) root root' repo repo' stands h)

  -- where a crash leaves only what recovers to it
  pub first_folds : (r : Result (Unit {0}) OutOfMemory) (events : List Event) (ends : List EventEnd) (root root' repo repo' : MemoryTree) (s : State) → CrashesTo memory_disk memory_disk (λ t. t ≡ s) root repo → MakesBy r events ends root root' repo repo'
      → StandsSo (LeaveRoom events ends) (FoldsTo events ends s) root' repo'
  first_folds r events ends root root' repo repo' s crashes h = weaker_stands (Unit {0} × LeaveRoom events ends) (LeaveRoom events ends) (λ room. (tt, room)) (λ t is. is) root' repo'
      (by_folds r (Unit {0}) events ends root root' repo repo' s (inl crashes) h)

  pub played_folds : (events : List Event) (r : Result (Unit {0}) OutOfMemory) (statuses statuses' : List ℕ) (root root' repo repo' : MemoryTree) → (made : HasPlayed events r statuses statuses' root root' repo repo')
      → (s : State) → CrashesTo memory_disk memory_disk (λ t. t ≡ s) root repo → Stands (LeaveRoom events made.ends) (FoldsTo events made.ends s) root' repo'
  played_folds events r statuses statuses' root root' repo repo' made s crashes = promised (LeaveRoom events made.ends) (FoldsTo events made.ends s) root' repo' (first_folds r events made.ends root root' repo repo' s crashes made.makes)
