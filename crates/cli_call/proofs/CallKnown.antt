-- What is known of a call, with the input of which it is said.
use Rattle.std.proofs.Common.{◌≡◌, Bool, true, List, ℕ, Ok, Err, sym, ap, subst, inl, inr, refl}
use Rattle.cny_laws.specs.system-core.tree-disk.Clear.{is_within}
use Rattle.cny_laws.specs.system-core.tree-disk.Confined.{Among, Confined}
use Rattle.repo_load.specs.cny-base.Flow.{SourceState}
use Rattle.cny_laws.specs.system-core.tree-disk.Tree.{Name}
use Rattle.cny_laws.specs.system-core.tree-disk.Disk.{DiskModel, HasRead, IsDisk}
use Rattle.cny_laws.proofs.system-core.tree-disk.ConfinedLaws.{confined_start}
use Rattle.repo_load.specs.Files.{repository_base}
use Rattle.cny_laws.specs.declared.failure.Failure.{Failure}
use Rattle.cny_laws.specs.declared.failure.Failure.TheVariants as failure
use Rattle.cny_laws.specs.declared.opened.Opened.{Opened}
use Rattle.cny_laws.specs.Call.{CallState, AreOpened, FilesStay, HasOpened, NotOpened}
use Rattle.cli_call.specs.Runs.{RunsCall, RunsOpen, RunsWith, StopsReading, after_opening, at_end}
use Rattle.cny_laws.specs.WholeCall.{CallFrom, EndsByOpened, FromStates, IsOnRepository, IsOnRoot, CallReaches}
use Rattle.cli_call.proofs.CallEnds.{own_ends, own_unread}
use Rattle.cli_call.proofs.CallStates.{from_unopened, from_unread, from_run}
use Rattle.cli_call.proofs.InputLaws.{any_input, read_input_of}
use Rattle.cli_call.proofs.OpenedEnds.{files_kept, moments_read, opened_holds}
use Rattle.cli_call.specs.Line.{LineByOpened, LineCause, Moment}
use Rattle.cny_laws.specs.Reading.{given, Gives, IsInput, ReadsGiven}
use Rattle.cny_laws.specs.Report.{End}
use Rattle.cli_call.proofs.RepositoryStates.{opened_root, repository_run, repository_unopened, repository_unread, unopened_root}
use Rattle.cli_call.proofs.RootStates.{root_unopened, root_unread, root_run, unopened_only, opened_only}
use Rattle.cny_laws.specs.State.{Meaning, Scope, State}
use Rattle.cny_laws.specs.Store.{IsSettled, IsStore}
use Rattle.cli_call.proofs.StoreLaws.{nothing_done}
use Rattle.cny_laws.specs.Stores.{repository_store, root_store}

module _ {T P : Type 0} (root_disk : DiskModel T) (repo_disk : DiskModel P) where
  pub record CallKnown (scope : Scope) (m : Meaning) (before now : CallState T P) (end : End) : Type 0 where
    pub input : List ℕ
    pub is : IsInput m.takes_input before.input input
    pub reaches : CallReaches root_disk repo_disk scope m input before now end
    pub from : FromStates root_disk repo_disk before (λ s. CallFrom root_disk repo_disk m input s before now end)
    pub on_root : scope.of_root ≡ true → IsOnRoot root_disk repo_disk m input before now end
    pub on_repository : scope.of_repository ≡ true → IsOnRepository root_disk repo_disk m input before now end

-- no damaged file is met where the input is read
not_damaged : (takes : Bool) (before now : SourceState) (e : Failure) (path : Name) → ReadsGiven takes before now (Err e) → ◌≡◌ {A = End} (Err e) (Err (failure.Damaged path)) → ⊥
not_damaged takes before now e path reads is = let same : e ≡ failure.Damaged path = cc is in (subst (λ (f : Failure). ReadsGiven takes before now (Err f)) same reads).cause

module _ {T P : Type 0} {root_disk : DiskModel T} {repo_disk : DiskModel P} (root_laws : IsDisk root_disk) (repo_laws : IsDisk repo_disk) (store_laws : IsStore repository_store) (scope : Scope) (m : Meaning) (before now : CallState T P) where
  known_unopened : (end : End) → NotOpened root_disk repo_disk before now end → CallKnown root_disk repo_disk scope m before now end
  known_unopened end stops =
      let any = any_input m.takes_input before.input in
      let at = unopened_root before now end stops in
      record {
        input = any.input;
        is = any.is;
        reaches = inl stops;
        from = λ root repo s recovers. from_unopened root_laws repo_laws store_laws scope m before now any.input root repo s recovers end stops;
        on_root = λ is. record {
          from = λ root s recovers. root_unopened root_laws scope m before now any.input root s recovers end stops;
          repository = λ told. unopened_only repo_laws before now told end stops;
        };
        on_repository = λ is. record {
          from = λ told s recovers. repository_unopened repo_laws store_laws scope m before now any.input told s recovers end stops;
          opened = at.opened;
          root = at.root;
        };
      }

  module _ (root : T) (repo : P) (opened opened' : Opened) (opens : AreOpened root_disk repo_disk before.root root before.repo repo opened) where
    -- on a state that has what was read when the disks were opened
    unread_opened : (input : List ℕ) {end : End} (stops : StopsReading root_disk repo_disk m before.input now.input (after_opening root_disk repo_disk before root repo opened) (at_end root_disk repo_disk now opened') end) → now.root ≡ root → now.repo ≡ repo → Gives m.takes_input input (Err stops.failure) → (s : State) → HasOpened root_disk root opened s
        → EndsByOpened root_disk repo_disk m input s root before now (Err stops.failure)
    unread_opened input stops same_root same_repo gives s has = record {
      next = s;
      ends = own_unread m s input before.out now.out stops.failure stops.reads gives;
      holds = λ small. opened_holds root now.root repo now.repo opened (λ t. (opens.opens_root.opened t).holds) (λ t. (opens.opens.opened t).value_is) (λ t. ap root_disk.reads same_root) (λ t. ap repo_disk.reads same_repo) s has;
      moments = λ told.
          let at = opens.opens_root.opened told in
          moments_read root now.root opened at.settled.flag_clear at.settled.synced at.holds (subst (λ (d : T). HasRead root_disk root d (Unit {0})) (sym same_root) (nothing_done root_laws root)) root_laws s s has;
    }

    known_unread : (end : End) → StopsReading root_disk repo_disk m before.input now.input (after_opening root_disk repo_disk before root repo opened) (at_end root_disk repo_disk now opened') end → CallKnown root_disk repo_disk scope m before now end
    known_unread end stops =
        let read = read_input_of m.takes_input before.input now.input (Err stops.failure) stops.reads in
        let same_root : now.root ≡ root = ap (λ (x : Moment T P). x.at.root) stops.same in
        let same_repo : now.repo ≡ repo = ap (λ (x : Moment T P). x.at.repo) stops.same in
        let at = opened_root before now root repo opened opens same_root in
        let known : CallKnown root_disk repo_disk scope m before now (Err stops.failure) = record {
          input = read.input;
          is = read.is;
          reaches = inr (record {
            root = root;
            repo = repo;
            opened = opened;
            opens = opens;
            reads = inl (record { failure = stops.failure; is = refl; gives = read.gives; reads = stops.reads; same_root = same_root; same_repo = same_repo; silent = ap (λ (x : Moment T P). x.out) stops.same });
            root_same = λ none told. ap root_disk.reads same_root;
            repo_same = λ none told. ap repo_disk.reads same_repo;
            repo_left = λ is. same_repo;
            root_left = λ is. same_root;
            root_read = λ is told. subst (λ (d : T). HasRead root_disk root d (Unit {0})) (sym same_root) (nothing_done root_laws root);
            repo_read = λ is told. subst (λ (d : P). HasRead repo_disk repo d (Unit {0})) (sym same_repo) (nothing_done repo_laws repo);
            repo_within = λ told. subst (λ (d : P). Confined repo_disk (Among (is_within repository_base)) repo d) (sym same_repo) (confined_start repo_laws (Among (is_within repository_base)) repo);
            root_rests = λ small told. subst (λ (d : T). IsSettled root_disk root_store.base d) (sym same_root) (opens.opens_root.opened told).settled;
            repo_rests = λ small told. subst (λ (d : P). IsSettled repo_disk repository_store.base d) (sym same_repo) (opens.opens.opened told).settled;
            root_damaged = λ is path named. absurd (not_damaged m.takes_input before.input now.input stops.failure path stops.reads named);
            repo_damaged = λ is path named. absurd (not_damaged m.takes_input before.input now.input stops.failure path stops.reads named);
            damaged = λ path is. absurd (not_damaged m.takes_input before.input now.input stops.failure path stops.reads is);
            by_lists = λ is. (same_root, same_repo, λ s has. own_unread m s read.input before.out now.out stops.failure stops.reads read.gives);
            by_tree = λ is told s has. own_unread m s read.input before.out now.out stops.failure stops.reads read.gives;
            by_opened = λ is told repo_told s has. unread_opened read.input stops same_root same_repo read.gives s has;
            by_contents = λ is told repo_told whole s has contents. unread_opened read.input stops same_root same_repo read.gives s has;
            by_records = λ is told s has records. own_unread m s read.input before.out now.out stops.failure stops.reads read.gives;
            files_stay = subst (λ (d : P). FilesStay repo_disk opened.catalogue scope.of_opened repo d) (sym same_repo) (files_kept repo_laws opened.catalogue scope.of_opened repo);
          });
          from = λ told repo_told s recovers. from_unread root_laws repo_laws store_laws scope m before now read.input told repo_told s recovers root repo opened opened' opens stops.failure stops.reads read.gives stops.same;
          on_root = λ is. record {
            from = λ told s recovers. root_unread root_laws scope m before now read.input told s recovers root repo opened opened' opens stops.failure stops.reads read.gives stops.same;
            repository = λ told. opened_only repo_laws before now told root repo opened opens same_repo;
          };
          on_repository = λ is. record {
            from = λ told s recovers. repository_unread repo_laws store_laws scope m before now read.input told s recovers root repo opened opened' opens stops.failure stops.reads read.gives stops.same;
            opened = at.opened;
            root = at.root;
          };
        } in
        subst (λ (x : End). CallKnown root_disk repo_disk scope m before now x) (sym stops.is) known

    run_opened : (input bytes : List ℕ) (end : End) → given m.takes_input input ≡ Ok bytes → (s : State) → LineByOpened root_disk repo_disk (m.IsOutcome s bytes) s (after_opening root_disk repo_disk before root repo opened) (at_end root_disk repo_disk now opened') end → EndsByOpened root_disk repo_disk m input s root before now end
    run_opened input bytes end gives s by = record { next = by.next; ends = own_ends m s input bytes gives before.out now.out by.next end by.ends; holds = by.holds; moments = by.moments }

    known_run : (end : End) → RunsWith root_disk repo_disk scope m before.input now.input (after_opening root_disk repo_disk before root repo opened) (at_end root_disk repo_disk now opened') end → CallKnown root_disk repo_disk scope m before now end
    known_run end runs =
        let read = read_input_of m.takes_input before.input now.input (Ok runs.bytes) runs.reads in
        record {
          input = read.input;
          is = read.is;
          reaches = inr (record {
            root = root;
            repo = repo;
            opened = opened;
            opens = opens;
            reads = inr (record { bytes = runs.bytes; gives = read.gives; reads = runs.reads });
            root_same = λ none. (runs.runs.same none).root;
            repo_same = λ none. (runs.runs.same none).repo;
            repo_left = λ is. (runs.runs.alone is).repo;
            root_left = λ is. (runs.runs.apart is).root;
            root_read = runs.runs.root_read;
            repo_read = runs.runs.repo_read;
            repo_within = runs.runs.within;
            root_rests = λ small. (runs.runs.rest small).root;
            repo_rests = λ small. (runs.runs.rest small).repo;
            root_damaged = λ is. (runs.runs.alone is).damaged;
            repo_damaged = λ is. (runs.runs.apart is).damaged;
            damaged = λ path is. (subst (λ (x : End). LineCause root_disk repo_disk (after_opening root_disk repo_disk before root repo opened) (at_end root_disk repo_disk now opened') x) is runs.runs.cause).0;
            by_lists = λ is. let by = runs.runs.by_lists is in (by.root, by.repo, λ s has. own_ends m s read.input runs.bytes read.gives before.out now.out s end (by.ends s has));
            by_tree = λ is told s has. own_ends m s read.input runs.bytes read.gives before.out now.out s end (runs.runs.by_tree is told s has);
            by_opened = λ is told repo_told s has. run_opened read.input runs.bytes end read.gives s (runs.runs.by_opened is told repo_told s has);
            by_contents = λ is told repo_told whole s has contents. run_opened read.input runs.bytes end read.gives s (runs.runs.by_contents is told repo_told whole s has contents);
            by_records = λ is told s has records. own_ends m s read.input runs.bytes read.gives before.out now.out s end (runs.runs.by_records is told s has records);
            files_stay = runs.runs.files_stay;
          });
          from = λ told repo_told s recovers. from_run root_laws repo_laws store_laws scope m before now read.input told repo_told s recovers root repo opened opened' opens runs.bytes runs.reads read.gives end runs.runs;
          on_root = λ is. record {
            from = λ told s recovers. root_run root_laws scope m before now read.input told s recovers root repo opened opened' opens runs.bytes runs.reads read.gives is end runs.runs;
            repository = λ told. opened_only repo_laws before now told root repo opened opens (runs.runs.alone is).repo;
          };
          on_repository = λ is.
              let at = opened_root before now root repo opened opens (runs.runs.apart is).root in
              record {
                from = λ told s recovers. repository_run repo_laws store_laws scope m before now read.input told s recovers root repo opened opened' opens runs.bytes read.gives is end runs.runs;
                opened = at.opened;
                root = at.root;
              };
        }

    known_open : (end : End) → RunsOpen root_disk repo_disk scope m before.input now.input (after_opening root_disk repo_disk before root repo opened) (at_end root_disk repo_disk now opened') end → CallKnown root_disk repo_disk scope m before now end
    known_open end (inl stops) = known_unread end stops
    known_open end (inr runs) = known_run end runs

  pub call_known : (end : End) → RunsCall root_disk repo_disk scope m before now end → CallKnown root_disk repo_disk scope m before now end
  call_known end (inl stops) = known_unopened end stops
  call_known end (inr goes) = known_open goes.root goes.repo goes.opened goes.opened' goes.opens end goes.runs
