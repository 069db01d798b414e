-- What a crash leaves of both disks after a call, after several lines, after a crash and after an edit.
use Rattle.std.proofs.Common.{◌≡◌, ◌⊎◌, inl, inr, ⊎_elim, ℕ, ◌≤◌, true, false, List, [], ◌∷◌, map, Contains, Result, Ok, Err, refl, sym, ◌∙◌, ap, subst, arith}
use Rattle.std.specs.Prelude.{IsTrue}
use Rattle.conary_cli.specs.cli-call.cny-base.Reserved.{private_directory}
use Rattle.conary_cli.specs.cli-call.tree-disk.Tree.{Tree}
use Rattle.conary_cli.specs.cli-call.tree-disk.Disk.{DiskModel, IsDisk, IsImageOf}
use Rattle.conary_cli.specs.cli-call.tree-disk.Confined.{IsSynced, LeavesOnly}
use Rattle.conary_cli.proofs.cli-call.tree-disk.Laws.{reads_image, same_tree}
use Rattle.conary_cli.specs.cli-call.tree-journal.Recovery.{at_rest, by_log, is_committed, HoldsLog, RecoversAsThen, RecoversTo}
use Rattle.conary_cli.specs.cli-call.tree-journal.CanBePut.{AllCanBePut}
use Rattle.conary_cli.specs.cli-call.journal-log.declared.put.Put.{Put}
use Rattle.repo_load.specs.State.{RepositoryState}
use Rattle.cny_base.specs.Flow.{SinkState}
use Rattle.conary_cli.specs.cli-call.cny-laws.declared.failure.Failure.{Failure}
use Rattle.conary_cli.specs.cli-call.cny-laws.declared.failure.Failure.TheVariants as failure
use Rattle.conary_cli.specs.cli-call.cny-base.declared.refusal.Refusal.{Refusal}
use Rattle.conary_cli.specs.cli-call.cny-laws.Call.{CallState, NotOpened, StopsAtRepository, StopsAtRoot, StopsOpening}
use Rattle.conary_cli.specs.cli-call.cny-laws.Edits.{edits_beside, Edit, HasEdited, IsEdit}
use Rattle.conary_cli.specs.cli-call.cny-laws.Report.{status_of, End}
use Rattle.conary_cli.specs.cli-call.cny-laws.State.{Effect, Meaning, OneDisk, RootState, Scope, State}
use Rattle.conary_cli.specs.cli-call.cny-laws.Store.{IsEntryOr, IsSettled, IsStore, OneOf, Recovers, RestsAt, Store}
use Rattle.conary_cli.specs.cli-call.cny-laws.Stores.{repository_store, root_store}
use Rattle.conary_cli.specs.cli-call.cny-laws.WholeCall.{after_edits, CallEnds, CallFrom, HasEffect, LivePair, Outcome, CallReaches, RecoversBoth, RestBoth}
use Rattle.conary_cli.proofs.cli-call.RootLaws.{opened_root_rests, root_laws}
use Rattle.conary_cli.proofs.cli-call.StoreLaws.{rest_image, same_stores, settled_rests}
use Rattle.conary_cli.proofs.cli-call.cny-laws.EditedSystems.{recovers_at_rest, the_system}
use Rattle.conary_cli.proofs.cli-call.cny-laws.SeveralEdits.{kept_beside}
use Rattle.conary_cli.specs.Lives.{LiveStep}
use Rattle.change_rel.proofs.cny-base.Lists.{contains_cases, contains_first, contains_rest, nothing_in}
use Rattle.outcome_laws.specs.Histories.{AfterEdit}
use Rattle.outcome_laws.specs.Images.{CrashesTo, HasCrashed, RecoversIn}

-- ---- one disk

module _ {D : Type 0} {disk : DiskModel D} (laws : IsDisk disk) where
  -- what a crash now leaves of a disk, where it left only such trees since
  pub left_now : (Is : Tree → Type 0) (old new : D) → LeavesOnly disk old new Is → (image : Tree) → IsImageOf disk new image → Is image
  left_now Is old new leaves image is = leaves.each image (laws.counts_now new (disk.now old) image leaves.later is)

-- of a synced disk a crash leaves just what it reads
pub left_synced : {D : Type 0} (disk : DiskModel D) (d : D) → IsSynced disk d → (image : Tree) → IsImageOf disk d image → image ≡ disk.reads d
left_synced disk d synced image is = same_tree image (disk.reads d) (λ q. is.synced q (synced q))

-- ---- states

-- one of fewer states is one of more
pub weaker_in : {Is More : State → Type 0} → ((t : State) → Is t → More t) → (image far : Tree) → RecoversIn Is image far → RecoversIn More image far
weaker_in more image far h = record { state = h.state; among = more h.state h.among; root = h.root; repo = h.repo }

pub weaker_left : {T P : Type 0} (root_disk : DiskModel T) (repo_disk : DiskModel P) {Is More : State → Type 0} → ((t : State) → Is t → More t) → (root : T) (repo : P) → CrashesTo root_disk repo_disk Is root repo → CrashesTo root_disk repo_disk More root repo
weaker_left root_disk repo_disk more root repo crashes image far is is_far = weaker_in more image far (crashes image far is is_far)

-- two trees, each of which recovers to what its disk has in one of two states that differ on one disk at most, recover to one of them
module _ (Is : State → Type 0) (s t : State) (first : Is s) (second : Is t) (image far : Tree) where
  as_first : Recovers root_store image s.root → Recovers repository_store far s.repository → RecoversIn Is image far
  as_first a b = record { state = s; among = first; root = a; repo = b }

  as_second : Recovers root_store image t.root → Recovers repository_store far t.repository → RecoversIn Is image far
  as_second a b = record { state = t; among = second; root = a; repo = b }

  pub one_of_two : OneDisk s t → OneOf root_store s.root t.root image → OneOf repository_store s.repository t.repository far → RecoversIn Is image far
  one_of_two apart (inl a) (inl b) = as_first a b
  one_of_two apart (inr a) (inr b) = as_second a b
  one_of_two (inl same) (inl a) (inr b) = as_second (subst (λ (x : RootState). Recovers root_store image x) (sym same) a) b
  one_of_two (inr same) (inl a) (inr b) = as_first a (subst (λ (r : RepositoryState). Recovers repository_store far r) same b)
  one_of_two (inl same) (inr a) (inl b) = as_first (subst (λ (x : RootState). Recovers root_store image x) same a) b
  one_of_two (inr same) (inr a) (inl b) = as_second a (subst (λ (r : RepositoryState). Recovers repository_store far r) (sym same) b)

-- ---- a call

module _ {T P : Type 0} {root_disk : DiskModel T} {repo_disk : DiskModel P} (root_disk_laws : IsDisk root_disk) (repo_disk_laws : IsDisk repo_disk) (root_told : IsTrue root_disk.tells) (repo_told : IsTrue repo_disk.tells) (Is : State → Type 0) where
  module _ (root : T) (repo : P) (crashes : CrashesTo root_disk repo_disk Is root repo) where
    -- as they read
    pub reads_in : RecoversIn Is (root_disk.reads root) (repo_disk.reads repo)
    reads_in = crashes (root_disk.reads root) (repo_disk.reads repo) (reads_image root_disk_laws root) (reads_image repo_disk_laws repo)

    -- the root wasn't opened
    stopped_root : (root' : T) (repo' : P) (e : Failure) → StopsAtRoot root_disk repo_disk root root' repo repo' e → CrashesTo root_disk repo_disk Is root' repo'
    stopped_root root' repo' e stops image far is is_far = ⊎_elim
        (λ entry. crashes image far entry far_then)
        (λ rec. record { state = c.state; among = c.among; root = rec; repo = c.repo })
        (left_now root_disk_laws (IsEntryOr root_store root_disk root c.state.root) root root' (stops.opens.from root_told c.state.root c.root).images image is)
      where
        far_then : IsImageOf repo_disk repo far
        far_then = subst (λ (d : P). IsImageOf repo_disk d far) stops.same is_far

        c : RecoversIn Is (root_disk.reads root) far
        c = crashes (root_disk.reads root) far (reads_image root_disk_laws root) far_then

    -- the repository wasn't
    stopped_repository : (root' : T) (repo' : P) (e : Failure) → StopsAtRepository root_disk repo_disk root root' repo repo' e → CrashesTo root_disk repo_disk Is root' repo'
    stopped_repository root' repo' e stops image far is is_far = ⊎_elim
        (λ entry.
        let c = crashes (root_disk.reads root) far (reads_image root_disk_laws root) entry in
        record { state = c.state; among = c.among; root = at c.state.root c.root; repo = c.repo })
        (λ all.
        let c = reads_in in
        record { state = c.state; among = c.among; root = at c.state.root c.root; repo = record { tree = c.repo.tree; recovers = all c.repo.tree c.repo.recovers; stored = c.repo.stored } })
        (left_now repo_disk_laws (RecoversAsThen repo_disk repository_store.base repo) repo repo' (stops.opens.images repo_told) far is_far)
      where
        at : (x : RootState) → Recovers root_store (root_disk.reads root) x → Recovers root_store image x
        at x rec = rest_image root_laws root' x (opened_root_rests root root' stops.db x (stops.opens_root.opened root_told) rec) image is

    pub not_opened : (root' : T) (repo' : P) (e : Failure) → StopsOpening root_disk repo_disk root root' repo repo' e → CrashesTo root_disk repo_disk Is root' repo'
    not_opened root' repo' e (inl stops) = stopped_root root' repo' e stops
    not_opened root' repo' e (inr stops) = stopped_repository root' repo' e stops

  -- one of the states, or this one
  abbrev pub OrNext : State → State → Type 0
  OrNext next t = Is t ⊎ (t ≡ next)

  -- from the one state of both disks, as they read, to the next one
  pub call_crashes : (m : Meaning) (input : List ℕ) (before now : CallState T P) (end : End) → CrashesTo root_disk repo_disk Is before.root before.repo
      → (s : State) → Is s → (f : CallFrom root_disk repo_disk m input s before now end) → CrashesTo root_disk repo_disk (OrNext f.next) now.root now.repo
  call_crashes m input before now end crashes s among f image far is is_far = by f.pair
    where
      by : LivePair root_disk repo_disk before now end (λ root. LeavesOnly root_disk root now.root (OneOf root_store s.root f.next.root)) (λ repo. LeavesOnly repo_disk repo now.repo (OneOf repository_store s.repository f.next.repository)) → RecoversIn (OrNext f.next) image far
      by (inl stops) = weaker_in (λ t is. inl is) image far (not_opened before.root before.repo crashes now.root now.repo stops.failure stops.stops image far is is_far)
      by (inr live) = one_of_two (OrNext f.next) s f.next (inl among) (inr refl) image far f.apart
          (left_now root_disk_laws (OneOf root_store s.root f.next.root) live.root now.root live.root_lives image is)
          (left_now repo_disk_laws (OneOf repository_store s.repository f.next.repository) live.repo now.repo live.repo_lives far is_far)

module _ {T P : Type 0} {root_disk : DiskModel T} {repo_disk : DiskModel P} (root_disk_laws : IsDisk root_disk) (repo_disk_laws : IsDisk repo_disk) where
  pub call_left : IsTrue root_disk.tells → IsTrue repo_disk.tells → (states : List State) (m : Meaning) (input : List ℕ) (before now : CallState T P) (end : End) → CrashesTo root_disk repo_disk (Contains states) before.root before.repo
      → ((s : State) → RecoversBoth root_disk repo_disk before s → CallFrom root_disk repo_disk m input s before now end)
      → (s : State) × Contains states s × (f : CallFrom root_disk repo_disk m input s before now end) × CrashesTo root_disk repo_disk (Contains (f.next ∷ states)) now.root now.repo
  call_left told far_told states m input before now end crashes from =
      let c = reads_in root_disk_laws repo_disk_laws told far_told (Contains states) before.root before.repo crashes in
      let f = from c.state (record { root = c.root; repo = c.repo }) in (
        c.state,
        c.among,
        f,
        weaker_left root_disk repo_disk (λ t is. ⊎_elim (λ old. contains_rest f.next t states old) (λ new. subst (Contains (f.next ∷ states)) (sym new) (contains_first f.next states)) is) now.root now.repo
            (call_crashes root_disk_laws repo_disk_laws told far_told (Contains states) m input before now end crashes c.state c.among f),
      )

  -- ---- several lines

  pub step_left : (s t : State) (root root' : T) (repo repo' : P) → LiveStep root_disk repo_disk s t root root' repo repo' → CrashesTo root_disk repo_disk (Contains (s ∷ t ∷ [])) root' repo'
  step_left s t root root' repo repo' step image far is is_far = one_of_two (Contains (s ∷ t ∷ [])) s t (contains_first s (t ∷ [])) (contains_rest s t (t ∷ []) (contains_first t [])) image far step.apart
      (left_now root_disk_laws (OneOf root_store s.root t.root) root root' step.on_root image is)
      (left_now repo_disk_laws (OneOf repository_store s.repository t.repository) repo repo' step.on_repo far is_far)

-- ---- at rest

pub rest_left : {T P : Type 0} (root_disk : DiskModel T) (repo_disk : DiskModel P) → IsStore repository_store → (Is : State → Type 0) (m : CallState T P) (s : State) → Is s → RestBoth root_disk repo_disk m s → CrashesTo root_disk repo_disk Is m.root m.repo
rest_left root_disk repo_disk repo_laws Is m s among rests image far is is_far = record {
  state = s;
  among = among;
  root = rest_image root_laws m.root s.root rests.root image is;
  repo = rest_image repo_laws m.repo s.repository rests.repo far is_far;
}

-- ---- at rest after a call

-- a settled disk rests at each state to which it recovers as it reads
settled_at : {D X : Type 0} {store : Store X} (laws : IsStore store) (disk : DiskModel D) (d : D) (x : X) → IsSettled disk store.base d → Recovers store (disk.reads d) x → RestsAt store disk d x
settled_at {store = store} laws disk d x settled rec = by rec.recovers
  where
    by : RecoversTo store.base (disk.reads d) rec.tree → RestsAt store disk d x
    by (at_rest clear stores) = settled_rests laws d x settled (same_stores laws rec.tree (disk.reads d) x (λ p out. sym (stores p out)) rec.stored)
    by (by_log set puts holds stand can stores) = let clear = settled.flag_clear in absurd (cc (set, clear))

-- the one of two equal states
either_of : {X : Type 0} (store : Store X) (x y : X) (image : Tree) → y ≡ x → OneOf store x y image → Recovers store image y
either_of store x y image same (inl a) = subst (Recovers store image) (sym same) a
either_of store x y image same (inr b) = b

module _ {T P : Type 0} (root_disk : DiskModel T) (repo_disk : DiskModel P) (repo_laws : IsStore repository_store) (now : CallState T P) where
  rests_same : (s next : State) → IsSettled root_disk root_store.base now.root → IsSettled repo_disk repository_store.base now.repo
      → OneOf root_store s.root next.root (root_disk.reads now.root) → OneOf repository_store s.repository next.repository (repo_disk.reads now.repo) → next ≡ s → RestBoth root_disk repo_disk now next
  rests_same s next root repo a b same = record {
    root = settled_at root_laws root_disk now.root next.root root (either_of root_store s.root next.root (root_disk.reads now.root) (ap (λ (x : State). x.root) same) a);
    repo = settled_at repo_laws repo_disk now.repo next.repository repo (either_of repository_store s.repository next.repository (repo_disk.reads now.repo) (ap (λ (x : State). x.repository) same) b);
  }

  rests_by : (IsOutcome : Result Effect Refusal → Type 0) (s next : State) (out out' : SinkState) (end : End) → CallEnds IsOutcome s next out out' end → status_of end ≤ 4 → (HasEffect end → RestBoth root_disk repo_disk now next)
      → (next ≡ s → RestBoth root_disk repo_disk now next) → RestBoth root_disk repo_disk now next
  rests_by IsOutcome s next out out' (Ok x) h small effect same = effect tt
  rests_by IsOutcome s next out out' (Err (failure.Refused r)) h small effect same = same h.1
  rests_by IsOutcome s next out out' (Err failure.InputFault) h small effect same = same h
  rests_by IsOutcome s next out out' (Err failure.OutputFault) h small effect same = effect tt
  rests_by IsOutcome s next out out' (Err failure.RootFault) h small effect same = absurd (omega (arith, small))
  rests_by IsOutcome s next out out' (Err failure.RepositoryFault) h small effect same = absurd (omega (arith, small))
  rests_by IsOutcome s next out out' (Err failure.Memory) h small effect same = absurd (omega (arith, small))
  rests_by IsOutcome s next out out' _ h small effect same = absurd h

pub call_rests : {T P : Type 0} (root_disk : DiskModel T) (repo_disk : DiskModel P) → IsStore repository_store → IsTrue root_disk.tells → IsTrue repo_disk.tells → (scope : Scope) (m : Meaning) (input : List ℕ) (before now : CallState T P) (end : End) (s : State)
    → CallReaches root_disk repo_disk scope m input before now end → (f : CallFrom root_disk repo_disk m input s before now end) → status_of end ≤ 4 → NotOpened root_disk repo_disk before now end ⊎ RestBoth root_disk repo_disk now f.next
call_rests root_disk repo_disk repo_laws told far_told scope m input before now end s (inl stops) f small = inl stops
call_rests root_disk repo_disk repo_laws told far_told scope m input before now end s (inr opened) f small = inr (rests_by root_disk repo_disk repo_laws now (Outcome m s input) s f.next before.out now.out end f.ends small f.rests
    (rests_same root_disk repo_disk repo_laws now s f.next (opened.root_rests small told) (opened.repo_rests small far_told) f.root_reads f.repo_reads))

-- ---- a crash

pub crash_left : {T P : Type 0} (root_disk : DiskModel T) (repo_disk : DiskModel P) (Is : State → Type 0) (root root' : T) (repo repo' : P) → HasCrashed root_disk root root' → HasCrashed repo_disk repo repo'
    → CrashesTo root_disk repo_disk Is root repo → CrashesTo root_disk repo_disk Is root' repo'
crash_left root_disk repo_disk Is root root' repo repo' crashed far_crashed crashes image far is is_far = crashes image far
    (subst (λ (t : Tree). IsImageOf root_disk root t) (sym (left_synced root_disk root' crashed.synced image is)) crashed.left)
    (subst (λ (t : Tree). IsImageOf repo_disk repo t) (sym (left_synced repo_disk repo' far_crashed.synced far is_far)) far_crashed.left)

-- ---- an edit

contains_mapped : (f : State → State) (states : List State) (s : State) → Contains states s → Contains (map f states) (f s)
contains_mapped f [] s in' = absurd (nothing_in s in')
contains_mapped f (t ∷ states) s in' = ⊎_elim
    (λ same. subst (λ (x : State). Contains (map f (t ∷ states)) (f x)) same (contains_first (f t) (map f states)))
    (λ later. contains_rest (f t) (f s) (map f states) (contains_mapped f states s later))
    (contains_cases t s states in')

module _ {T P : Type 0} (root_disk : DiskModel T) (repo_disk : DiskModel P) (root_disk_laws : IsDisk root_disk) (e : Edit) (root root' : T) (repo : P) (edit : IsEdit (root_disk.reads root) e) (has : HasEdited root_disk e root root') where
  module _ (Is : State → Type 0) (crashes : CrashesTo root_disk repo_disk Is root repo) where
    then_in : (far : Tree) → IsImageOf repo_disk repo far → RecoversIn Is (root_disk.reads root) far
    then_in far is_far = crashes (root_disk.reads root) far (reads_image root_disk_laws root) is_far

    -- where the commit flag isn't set
    pub edit_crashes : is_committed private_directory (root_disk.reads root) ≡ false → CrashesTo root_disk repo_disk (λ t. (s : State) × Is s × AfterEdit e s t) root' repo
    edit_crashes clear image far is is_far =
        let c = then_in far is_far in
        let to = recovers_at_rest (root_disk.reads root) c.state.root e edit.not_reserved edit.leaves_tree clear (c.root.tree, c.root.recovers, c.root.stored) in
        let next = after_edits c.state (e ∷ []) in
        record {
          state = next;
          among = (c.state, c.among, inl (record { not_reserved = edit.not_reserved; not_pinned = edit.not_pinned; leaves_tree = (the_system to.0 next.root to.2).tree }, refl));
          root = subst (λ (t : Tree). Recovers root_store t next.root) (sym (left_synced root_disk root' has.synced image is ∙ has.reads)) (record { tree = to.0; recovers = to.1; stored = to.2 });
          repo = c.repo;
        }

  pub edit_left : (states : List State) → CrashesTo root_disk repo_disk (Contains states) root repo → is_committed private_directory (root_disk.reads root) ≡ false
      → CrashesTo root_disk repo_disk (Contains (map (λ s. after_edits s (e ∷ [])) states)) root' repo
  edit_left states crashes clear image far is is_far =
      let c = then_in (Contains states) crashes far is_far in
      let to = recovers_at_rest (root_disk.reads root) c.state.root e edit.not_reserved edit.leaves_tree clear (c.root.tree, c.root.recovers, c.root.stored) in
      let next = after_edits c.state (e ∷ []) in
      record {
        state = next;
        among = contains_mapped (λ s. after_edits s (e ∷ [])) states c.state c.among;
        root = subst (λ (t : Tree). Recovers root_store t next.root) (sym (left_synced root_disk root' has.synced image is ∙ has.reads)) (record { tree = to.0; recovers = to.1; stored = to.2 });
        repo = c.repo;
      }

  -- where it is set, and the log can be put
  pub edit_logged : (states : List State) (puts : List Put) → CrashesTo root_disk repo_disk (Contains states) root repo → is_committed private_directory (root_disk.reads root) ≡ true → HoldsLog private_directory puts (root_disk.reads root)
      → AllCanBePut puts (root_disk.reads root') → CrashesTo root_disk repo_disk (Contains (map (λ s. after_edits s (edits_beside puts (e ∷ []))) states)) root' repo
  edit_logged states puts crashes set holds can image far is is_far =
      let c = then_in (Contains states) crashes far is_far in
      let to = kept_beside (root_disk.reads root) c.state.root (e ∷ []) puts (edit, edit.leaves_tree) set holds (subst (AllCanBePut puts) has.reads can) (c.root.tree, c.root.recovers, c.root.stored) in
      let next = after_edits c.state (edits_beside puts (e ∷ [])) in
      record {
        state = next;
        among = contains_mapped (λ s. after_edits s (edits_beside puts (e ∷ []))) states c.state c.among;
        root = subst (λ (t : Tree). Recovers root_store t next.root) (sym (left_synced root_disk root' has.synced image is ∙ has.reads)) (record { tree = to.0; recovers = to.1; stored = to.2 });
        repo = c.repo;
      }
