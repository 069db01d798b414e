-- How a command ends that takes jobs back.
use Rattle.std.proofs.Common.{◌≡◌, ◌≤◌, ℕ, List, Result, Ok, Err, OnOk, IfErr, refl, sym, ap, subst, inl, inr, ⊎_elim, arith}
use Rattle.std.specs.Prelude.{◌⊎◌, false, IsTrue}
use Rattle.std.specs.FinMap.{get}
use Rattle.cli_call.specs.cny-base.Count.{Rose}
use Rattle.cli_call.specs.cny-base.declared.refusal.Refusal.{Refusal}
use Rattle.cli_call.specs.cny-base.declared.stop.Stop.{Stop}
use Rattle.cli_call.specs.cny-base.declared.stop.Stop.TheVariants as stop
use Rattle.cli_call.specs.tree-disk.Tree.{Name, Tree}
use Rattle.cli_call.specs.tree-disk.Disk.{DiskModel, IsDisk, HasRead}
use Rattle.cli_call.proofs.tree-disk.ConfinedLaws.{leaves_weaker}
use Rattle.cli_call.proofs.tree-disk.Unfailed.{unfailed_weaker}
use Rattle.local_db.specs.declared.db.Db.{Db}
use Rattle.local_db.specs.declared.format.Format.TheVariants.{Two}
use Rattle.local_db.specs.SystemState.{is_listed}
use Rattle.local_db.specs.Stores.{HoldsDatabase, StoresIn}
use Rattle.cli_call.specs.system-core.Rollback.{HasOnlyRead, MovesSystem}
use Rattle.cli_call.specs.cny-laws.declared.failure.Failure.{Failure}
use Rattle.cli_call.specs.cny-laws.declared.failure.Failure.TheVariants as failure
use Rattle.cli_call.specs.cny-laws.declared.opened.Opened.{Opened}
use Rattle.cli_call.specs.Alone.{PerformsAlone}
use Rattle.cli_call.proofs.ChangingRoot.{ChangesRoot, alone_on_root, of_either, performs_on_root}
use Rattle.cli_call.specs.Command.{disks, AnswersAs, AreReady, HasFailureCause, Performs, end_of}
use Rattle.cli_call.specs.cny-laws.Report.{ChangesNothing, status_of}
use Rattle.cli_call.specs.cny-laws.Shown.{LeavesName}
use Rattle.cli_call.proofs.CommandLaws.{goes_read, read_shown}
use Rattle.cli_call.proofs.RootDatabase.{one_format}
use Rattle.cli_call.proofs.RootLaws.{root_laws}
use Rattle.cli_call.specs.cny-laws.State.{on_root, Effect, Meaning, RootState, State, Takes}
use Rattle.cli_call.specs.cny-laws.Stops.{root_failure, root_result}
use Rattle.cli_call.specs.cny-laws.Store.{HasDamagedFile, IsSettled, IsStore, NamesDamaged, RestsAt}
use Rattle.cli_call.proofs.StoreLaws.{read_settled, settled_rests}
use Rattle.cli_call.specs.cny-laws.Stores.{root_store, repository_store, HasDamagedJob, StoresNone}
use Rattle.cli_call.proofs.RootResults.{root_ok, same_failure}
use Rattle.root_commands.proofs.Answering.{stored_two}
use Rattle.root_commands.specs.RollingBack.{IsBack}
use Rattle.cli_call.proofs.system-core.Held.{OneDatabase}

-- how it ends by a system: with what is answered to it, or with a refusal
abbrev pub EndsBack : {N : Type 0} → (N → Type 0) → (Refusal → Type 0) → Result N Stop → Type 0
EndsBack Tells Refuses (Ok n) = Tells n
EndsBack Tells Refuses (Err (stop.Refused why)) = Refuses why
EndsBack Tells Refuses (Err stop.Failed) = Unit {0}
EndsBack Tells Refuses (Err stop.Memory) = Unit {0}
EndsBack Tells Refuses (Err (stop.Damaged path)) = ⊥
EndsBack Tells Refuses (Err stop.FarFailed) = ⊥
EndsBack Tells Refuses (Err (stop.FarDamaged path)) = ⊥

-- why it stops, on every disk
abbrev pub CausesBack : Type 0 → Stop → Type 0
CausesBack rose stop.Failed = rose
CausesBack rose stop.Memory = Unit {0}
CausesBack rose (stop.Refused why) = Unit {0}
CausesBack rose (stop.Damaged path) = Unit {0}
CausesBack rose stop.FarFailed = ⊥
CausesBack rose (stop.FarDamaged path) = ⊥

-- what a refusal and a damaged file leave, on each root
abbrev pub StopsBack : {D : Type 0} → DiskModel D → (Name → Type 0) → D → D → Stop → Type 0
StopsBack disk IsDamage old new (stop.Refused why) = HasRead disk old new (Unit {0})
StopsBack disk IsDamage old new (stop.Damaged path) = HasRead disk old new (IsDamage path)
StopsBack disk IsDamage old new _ = Unit {0}

module _ {T : Type 0} (root_disk : DiskModel T) (root root' : T) (Can : RootState → Type 0) (back : RootState → RootState) (paths : RootState → List Name) (Refuses : RootState → Refusal → Type 0) (Tells : RootState → ℕ → Type 0) (IsDamage : Name → Type 0) where
  -- what was promised by a system that the root stores
  pub record Taken (s : RootState) (r : Result ℕ Stop) : Type 0 where
    pub ends : EndsBack (Tells s) (Refuses s) r
    pub only : HasOnlyRead root_disk root root' ⊎ Can s
    pub moves : MovesSystem root_disk s (back s) (paths s) root root' r

  -- and on each root
  pub record TakenBack (r : Result ℕ Stop) : Type 0 where
    pub taken : IsTrue root_disk.tells → (s : RootState) → StoresIn Two (root_disk.reads root) s → Taken s r
    pub rests : IsTrue root_disk.tells → OnOk r (IsSettled root_disk root_store.base root')
    pub stops : IsTrue root_disk.tells → IfErr r (StopsBack root_disk IsDamage root root')
    pub causes : IfErr r (CausesBack (Rose (root_disk.faults root) (root_disk.faults root')))
    pub later : root_disk.faults root ≤ root_disk.faults root'

-- how a damaged file is one of a record, and which names aren't touched
pub record Ways (x : Tree) (db : Db) (Can : RootState → Type 0) (back : RootState → RootState) (paths : RootState → List Name) (Tells : RootState → ℕ → Type 0) (IsDamage : Name → Type 0) : Type 0 where
  pub damage : (path : Name) → IsDamage path → HoldsDatabase Two x db.installed db.oldest db.newest → HasDamagedJob x path
  pub can_tell : (s : RootState) (n : ℕ) → Tells s n → Can s
  pub left_out : (s : RootState) → StoresIn Two x s → Can s → (q : Name) → LeavesName s (back s) q → is_listed (paths s) q ≡ false

module _ {T P : Type 0} {root_disk : DiskModel T} (root_disk_laws : IsDisk root_disk) (law : OneDatabase) (root root' : T) (repo : P) (repo_disk : DiskModel P) (opened opened' : Opened) (ready : AreReady root_disk repo_disk (disks root repo opened))
    (Can : RootState → Type 0) (back : RootState → RootState) (text_of : RootState → List ℕ) (paths : RootState → List Name) (Refuses : RootState → Refusal → Type 0) (Tells : RootState → ℕ → Type 0) (IsDamage : Name → Type 0) where
  abbrev Took : Result ℕ Stop → Type 0
  Took r = TakenBack root_disk root root' Can back paths Refuses Tells IsDamage r

  abbrev Was : RootState → Result ℕ Stop → Type 0
  Was s r = Taken root_disk root root' Can back paths Refuses Tells IsDamage s r

  module _ (ways : Ways (root_disk.reads root) opened.db Can back paths Tells IsDamage) (IsOutcome : RootState → Result Effect Refusal → Type 0) (does : (s : RootState) (e : Effect) → IsBack (Can s) (back s) (text_of s) e → IsOutcome s (Ok e)) (refused : (s : RootState) (why : Refusal) → Refuses s why → IsOutcome s (Err why)) where
    abbrev effect_on : RootState → Effect
    effect_on s = record { change = on_root (back s); out = text_of s }

    effect_is : (s : RootState) → Can s → IsOutcome s (Ok (effect_on s))
    effect_is s can = does s (effect_on s) (record { can = can; change = refl; out = refl })

    module _ (told : IsTrue root_disk.tells) (s : State) (rests : RestsAt root_store root_disk root s.root) where
      -- it was only read
      still : (f : Result (List ℕ) Failure) → HasRead root_disk root root' (Unit {0}) → AnswersAs (IsOutcome s.root) s s f → ChangesRoot root_disk (IsOutcome s.root) s root root' f
      still f read answers = record {
        next = s.root;
        answers = answers;
        goes = goes_read root_laws root_disk_laws root root' s.root (end_of f) read rests;
        outside = λ q out left. ap (λ (t : Tree). get t q) read.same.reads;
        seen = unfailed_weaker (λ t is. inl is) (read_shown root_disk_laws read);
      }

      -- it went from the one system to the other
      moved : (r : Result ℕ Stop) (f : Result (List ℕ) Failure) → Was s.root r → Can s.root → (status_of (end_of f) ≤ 4 → RestsAt root_store root_disk root' (back s.root))
          → AnswersAs (IsOutcome s.root) s (record { root = back s.root; repository = s.repository }) f → ChangesRoot root_disk (IsOutcome s.root) s root root' f
      moved r f taken can rests_then answers = record {
        next = back s.root;
        answers = answers;
        goes = record {
          images = leaves_weaker (of_either s.root (back s.root)) taken.moves.images;
          rests = rests_then;
          reads = of_either s.root (back s.root) (root_disk.reads root') taken.moves.reads;
        };
        outside = λ q out left. taken.moves.others q out (ways.left_out s.root (stored_two law (disks root repo opened) ready told rests) can q (left (effect_on s.root) (effect_is s.root can)));
        seen = unfailed_weaker (λ t shown. inr (effect_on s.root, effect_is s.root can, shown)) taken.moves.shown;
      }

      -- a fault, or want of memory
      on_the_way : (r : Result ℕ Stop) (e : Failure) → (status_of (Err e) ≤ 4 → ⊥) → Was s.root r
          → ((next : State) → (next ≡ s) ⊎ Takes (IsOutcome s.root) s next (λ bytes. Unit {0}) → AnswersAs (IsOutcome s.root) s next (Err e)) → ChangesRoot root_disk (IsOutcome s.root) s root root' (Err e)
      on_the_way r e high taken answers = ⊎_elim
          (λ read. still (Err e) read (answers s (inl refl)))
          (λ can. moved r (Err e) taken can (λ le. absurd (high le))
          (answers (record { root = back s.root; repository = s.repository }) (inr (record { effect = effect_on s.root; is = effect_is s.root can; leads = refl; bytes = tt }))))
          taken.only

      stopped : (e : Stop) → Took (Err e) → ChangesRoot root_disk (IsOutcome s.root) s root root' (Err (root_failure e))
      stopped (stop.Refused why) done = still (Err (failure.Refused why)) (done.stops told) (refused s.root why (done.taken told s.root (stored_two law (disks root repo opened) ready told rests)).ends, refl)
      stopped stop.Failed done = on_the_way (Err stop.Failed) failure.RootFault (λ le. omega (arith, le)) (done.taken told s.root (stored_two law (disks root repo opened) ready told rests)) (λ next is. is)
      stopped stop.Memory done = on_the_way (Err stop.Memory) failure.Memory (λ le. omega (arith, le)) (done.taken told s.root (stored_two law (disks root repo opened) ready told rests)) (λ next is. is)
      stopped (stop.Damaged path) done = absurd (done.taken told s.root (stored_two law (disks root repo opened) ready told rests)).ends
      stopped stop.FarFailed done = absurd (done.taken told s.root (stored_two law (disks root repo opened) ready told rests)).ends
      stopped (stop.FarDamaged path) done = absurd (done.taken told s.root (stored_two law (disks root repo opened) ready told rests)).ends

      rests_back : (n : ℕ) → Was s.root (Ok n) → RestsAt root_store root_disk root' (back s.root)
      rests_back n taken = settled_rests root_laws root' (back s.root) (record { flag_clear = taken.moves.rests.flag_clear; synced = taken.moves.rests.synced }) (inr taken.moves.rests.stores)

      told_text : (n : ℕ) (text : List ℕ) → Took (Ok n) → (Tells s.root n → text ≡ text_of s.root) → ChangesRoot root_disk (IsOutcome s.root) s root root' (Ok text)
      told_text n text done is =
          let taken = done.taken told s.root (stored_two law (disks root repo opened) ready told rests) in
          let can = ways.can_tell s.root n taken.ends in
          moved (Ok n) (Ok text) taken can (λ le. rests_back n taken) (record { effect = effect_on s.root; is = effect_is s.root can; leads = refl; bytes = sym (is taken.ends) })

      untold_text : (n : ℕ) → Took (Ok n) → ChangesRoot root_disk (IsOutcome s.root) s root root' (Err failure.Memory)
      untold_text n done =
          let taken = done.taken told s.root (stored_two law (disks root repo opened) ready told rests) in
          let can = ways.can_tell s.root n taken.ends in
          moved (Ok n) (Err failure.Memory) taken can (λ le. absurd (omega (arith, le))) (inr (record { effect = effect_on s.root; is = effect_is s.root can; leads = refl; bytes = tt }))

    -- ---- on each root

    abbrev Caused : Result (List ℕ) Failure → Type 0
    Caused f = HasFailureCause root_disk repo_disk (disks root repo opened) (disks root' repo opened') f

    no_system : (path : Name) → Took (Err (stop.Damaged path)) → IsTrue root_disk.tells → StoresNone (root_disk.reads root)
    no_system path done told s stored =
        (done.taken told s (one_format law (root_disk.reads root) opened.db.installed opened.db.oldest opened.db.newest s (ready.root told).holds stored)).ends

    damaged_file : (path : Name) → Took (Err (stop.Damaged path)) → IsTrue root_disk.tells → HasDamagedFile root_store (root_disk.reads root') path
    damaged_file path done told =
        let read = done.stops told in
        let here : HasDamagedFile root_store (root_disk.reads root) path = record { flag_clear = (ready.root told).flag_clear; damaged = (inr (ways.damage path read.answer (ready.root told).holds), no_system path done told) } in
        subst (λ (t : Tree). HasDamagedFile root_store t path) (sym read.same.reads) here

    caused : (e : Stop) → Took (Err e) → Caused (Err (root_failure e))
    caused (stop.Refused why) done = tt
    caused stop.Failed done = done.causes
    caused stop.Memory done = tt
    caused (stop.Damaged path) done = inl (damaged_file path done)
    caused stop.FarFailed done = absurd done.causes
    caused (stop.FarDamaged path) done = absurd done.causes

    abbrev Named : Result (List ℕ) Failure → Type 0
    Named f = NamesDamaged root_store root_disk root' f

    names : (e : Stop) → Took (Err e) → Named (Err (root_failure e))
    names (stop.Refused why) done = λ path named. absurd (cc named)
    names stop.Failed done = λ path named. absurd (cc named)
    names stop.Memory done = λ path named. absurd (cc named)
    names (stop.Damaged path) done = λ file named told. let same : path ≡ file = cc named in subst (HasDamagedFile root_store (root_disk.reads root')) same (damaged_file path done told)
    names stop.FarFailed done = absurd done.causes
    names (stop.FarDamaged path) done = absurd done.causes

    settles : (e : Stop) → Took (Err e) → status_of (Err (root_failure e)) ≤ 4 → IsTrue root_disk.tells → IsSettled root_disk root_store.base root'
    settles (stop.Refused why) done le told = read_settled (done.stops told) (ready.root told).flag_clear (ready.root told).synced
    settles _ done le told = absurd (omega (arith, le))

    keeps : (e : Stop) → Took (Err e) → ChangesNothing (Err (root_failure e)) → IsTrue root_disk.tells → root_disk.reads root' ≡ root_disk.reads root
    keeps (stop.Refused why) done none told = let read = done.stops told in read.same.reads
    keeps (stop.Damaged path) done none told = let read = done.stops told in read.same.reads
    keeps stop.Failed done none told = absurd none
    keeps stop.Memory done none told = absurd none
    keeps stop.FarFailed done none told = absurd none
    keeps (stop.FarDamaged path) done none told = absurd done.causes

    -- ---- the clauses

    module _ (input : List ℕ) where
      abbrev means : Meaning
      means = record { takes_input = false; IsOutcome = λ s given. IsOutcome s.root }

      abbrev Alone : Result (List ℕ) Failure → Type 0
      Alone f = PerformsAlone root_disk repo_disk means input (disks root repo opened) (disks root' repo opened') f

      abbrev Done : Result (List ℕ) Failure → Type 0
      Done f = Performs root_disk repo_disk means input (disks root repo opened) (disks root' repo opened') f

      abbrev Changed : Result (List ℕ) Failure → Type 0
      Changed f = IsTrue root_disk.tells → (s : State) → RestsAt root_store root_disk root s.root → ChangesRoot root_disk (IsOutcome s.root) s root root' f

      alone_by : (f : Result (List ℕ) Failure) → Named f → Changed f → Alone f
      alone_by f named changes = alone_on_root repo_disk means input (disks root repo opened) (disks root' repo opened') f refl changes named

      pub failed_alone : (r : Result ℕ Stop) (f : Failure) → root_result r ≡ Err f → Took r → Alone (Err f)
      failed_alone (Ok n) f is took = absurd (cc is)
      failed_alone (Err e) f is took = subst (λ (x : Failure). Alone (Err x)) (same_failure {X = ℕ} is) (alone_by (Err (root_failure e)) (names e took) (λ told s rests. stopped told s rests e took))

      pub memory_alone : (r : Result ℕ Stop) (n : ℕ) → root_result r ≡ Ok n → Took r → Alone (Err failure.Memory)
      memory_alone r n is took = alone_by (Err failure.Memory) (λ path named. absurd (cc named)) (λ told s rests. untold_text told s rests n (subst Took (root_ok r n is) took))

      pub told_alone : (r : Result ℕ Stop) (n : ℕ) (text : List ℕ) → root_result r ≡ Ok n → Took r → (IsTrue root_disk.tells → (s : RootState) → StoresIn Two (root_disk.reads root) s → Tells s n → text ≡ text_of s) → Alone (Ok text)
      told_alone r n text is took text_is = alone_by (Ok text) (λ path named. absurd (cc named)) (λ told s rests. told_text told s rests n text (subst Took (root_ok r n is) took) (text_is told s.root (stored_two law (disks root repo opened) ready told rests)))

      module _ (repo_disk_laws : IsDisk repo_disk) (repo_laws : IsStore repository_store) where
        done_by : (f : Result (List ℕ) Failure) → Changed f → root_disk.faults root ≤ root_disk.faults root' → Caused f → (status_of (end_of f) ≤ 4 → IsTrue root_disk.tells → IsSettled root_disk root_store.base root')
            → (ChangesNothing (end_of f) → IsTrue root_disk.tells → root_disk.reads root' ≡ root_disk.reads root) → Done f
        done_by f changes later cause rest keep = performs_on_root repo_disk means input (disks root repo opened) (disks root' repo opened') f refl changes repo_disk_laws repo_laws ready later cause rest keep

        pub failed_performs : (r : Result ℕ Stop) (f : Failure) → root_result r ≡ Err f → Took r → Done (Err f)
        failed_performs (Ok n) f is took = absurd (cc is)
        failed_performs (Err e) f is took = subst (λ (x : Failure). Done (Err x)) (same_failure {X = ℕ} is)
            (done_by (Err (root_failure e)) (λ told s rests. stopped told s rests e took) took.later (caused e took) (settles e took) (keeps e took))

        pub memory_performs : (r : Result ℕ Stop) (n : ℕ) → root_result r ≡ Ok n → Took r → Done (Err failure.Memory)
        memory_performs r n is took =
            let now : Took (Ok n) = subst Took (root_ok r n is) took in
            done_by (Err failure.Memory) (λ told s rests. untold_text told s rests n now) now.later tt (λ le told. absurd (omega (arith, le))) (λ none told. absurd none)

        pub told_performs : (r : Result ℕ Stop) (n : ℕ) (text : List ℕ) → root_result r ≡ Ok n → Took r → (IsTrue root_disk.tells → (s : RootState) → StoresIn Two (root_disk.reads root) s → Tells s n → text ≡ text_of s) → Done (Ok text)
        told_performs r n text is took text_is =
            let now : Took (Ok n) = subst Took (root_ok r n is) took in
            done_by (Ok text) (λ told s rests. told_text told s rests n text now (text_is told s.root (stored_two law (disks root repo opened) ready told rests))) now.later tt (λ le told. now.rests told) (λ none told. absurd none)
