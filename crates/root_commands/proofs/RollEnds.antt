-- How `rollback` ends, by what is promised of the jobs that it takes back.
use Rattle.std.proofs.Common.{◌≡◌, ◌≤◌, ◌<◌, ◌+◌, ◌-◌, ℕ, Bool, true, false, List, [], ◌∷◌, ◌++◌, length, Option, None, Some, Result, Ok, Err, OnOk, IfOk, IfErr, refl, sym, ap, ◌∙◌, subst, inr, arith}
use Rattle.std.specs.Prelude.{◌⊎◌, ◌||◌, IsTrue, Contains, min}
use Rattle.std.proofs.lemmas.List.{length-take, take-append-drop}
use Rattle.std.proofs.lemmas.List.Elements.{Contains-append_left}
use Rattle.cli_call.specs.cny-base.Count.{Rose}
use Rattle.cli_call.specs.cny-base.declared.refusal.Refusal.{Refusal}
use Rattle.cli_call.specs.cny-base.declared.stop.Stop.{Stop}
use Rattle.cli_call.specs.cny-base.declared.stop.Stop.TheVariants as stop
use Rattle.cli_call.specs.tree-disk.Tree.{Name, Tree, same_name}
use Rattle.cli_call.specs.tree-disk.Disk.{DiskModel, IsDisk}
use Rattle.local_db.specs.declared.db.Db.{Db}
use Rattle.local_db.specs.declared.format.Format.TheVariants.{Two}
use Rattle.local_db.specs.SystemState.{AreNumbered, StackItem, SystemState, is_listed, newest}
use Rattle.local_db.specs.Steps.{after_rollback, after_rollbacks}
use Rattle.local_db.specs.Stores.{StoresIn}
use Rattle.rollback_stack.specs.Inverse.{IsDamagedJob, IsFirstDamagedContent}
use Rattle.cli_call.specs.system-core.Rollback.{HasRollbackCause}
use Rattle.cli_call.specs.system-core.Several.{AreTakenBack, CanTakeBackTo, EndsTo, HasTakenBackTo, IsRefusalKindTo, IsRefusalTo, RollsBackTo, StopsTo, jobs_below, jobs_to, paths_of_jobs, rolled_back_to}
use Rattle.cny_report.specs.Jobs.{rolled_back_text}
use Rattle.cli_call.specs.cny-laws.declared.failure.Failure.{Failure}
use Rattle.cli_call.specs.cny-laws.declared.failure.Failure.TheVariants as failure
use Rattle.cli_call.specs.cny-laws.declared.opened.Opened.{Opened}
use Rattle.cli_call.specs.Alone.{PerformsAlone}
use Rattle.cli_call.specs.Command.{disks, AreReady, Performs}
use Rattle.cli_call.specs.cny-laws.Shown.{LeavesName}
use Rattle.cli_call.proofs.RootDatabase.{held_database}
use Rattle.cli_call.specs.cny-laws.State.{RootState}
use Rattle.cli_call.specs.cny-laws.Stops.{root_result}
use Rattle.cli_call.specs.cny-laws.Store.{IsSettled, IsStore}
use Rattle.cli_call.specs.cny-laws.Stores.{repository_store, root_store}
use Rattle.root_commands.specs.Records.{last_job}
use Rattle.root_commands.specs.RollingBack.{meant_number, roll_back, take_back}
use Rattle.root_commands.proofs.TakingBack.{CausesBack, EndsBack, StopsBack, TakenBack, Ways, failed_alone, failed_performs, memory_alone, memory_performs, told_alone, told_performs}
use Rattle.cli_call.proofs.system-core.Held.{OneDatabase}
use Rattle.local_db.proofs.cny-base.Lists.{contains_first, contains_rest}
use Rattle.local_db.proofs.Systems.{newest_rest as newest_below, numbered_rest as tail_numbered}
use Rattle.local_db.proofs.tree-disk.Children.{or_none as or_false}

-- ---- numbers of jobs

rest_below : (os rest : List StackItem) → AreNumbered (os ++ rest) → newest rest ≤ newest (os ++ rest)
rest_below [] rest numbered = omega arith
rest_below (o ∷ os) rest numbered =
    let less = newest_below o (os ++ rest) numbered in
    let more = rest_below os rest (tail_numbered o (os ++ rest) numbered) in
    omega (arith, less, more)

few_jobs : (stack : List StackItem) → AreNumbered stack → length stack ≤ newest stack
few_jobs [] numbered = omega arith
few_jobs (o ∷ olds) numbered =
    let less = newest_below o olds numbered in
    let few = few_jobs olds (tail_numbered o olds numbered) in
    omega (arith, less, few)

-- ---- causes

cause_back : (IsKind : Refusal → Type 0) (rose : Type 0) (e : Stop) → HasRollbackCause IsKind rose e → CausesBack rose e
cause_back IsKind rose stop.Failed h = h
cause_back IsKind rose stop.Memory h = tt
cause_back IsKind rose (stop.Refused why) h = tt
cause_back IsKind rose (stop.Damaged path) h = tt
cause_back IsKind rose stop.FarFailed h = h
cause_back IsKind rose (stop.FarDamaged path) h = h

pub causes_all : (IsKind : Refusal → Type 0) (rose : Type 0) (r : Result ℕ Stop) → IfErr r (HasRollbackCause IsKind rose) → IfErr r (CausesBack rose)
causes_all IsKind rose (Ok n) h = tt
causes_all IsKind rose (Err e) h = cause_back IsKind rose e h

-- ---- the jobs that are taken back

append_unlisted : (some more : List Name) (q : Name) → is_listed some q ≡ false → is_listed more q ≡ false → is_listed (some ++ more) q ≡ false
append_unlisted [] more q h k = k
append_unlisted (p ∷ some) more q h k = by (same_name q p) refl h (append_unlisted some more q)
  where
    by : (b : Bool) → same_name q p ≡ b → (b || is_listed some q) ≡ false → (is_listed some q ≡ false → is_listed more q ≡ false → is_listed (some ++ more) q ≡ false) → (same_name q p || is_listed (some ++ more) q) ≡ false
    by true is h rest = absurd (cc h)
    by false is h rest = or_false (same_name q p) (is_listed (some ++ more) q) is (rest h k)

-- none of the paths of these jobs
pub unlisted_all : (os rest : List StackItem) (q : Name) → AreNumbered (os ++ rest) → ((o : StackItem) → Contains os o → newest rest < o.number → is_listed o.paths q ≡ false) → is_listed (paths_of_jobs os) q ≡ false
unlisted_all [] rest q numbered each = refl
unlisted_all (o ∷ os) rest q numbered each =
    let less = newest_below o (os ++ rest) numbered in
    let more = rest_below os rest (tail_numbered o (os ++ rest) numbered) in
    append_unlisted o.paths (paths_of_jobs os) q (each o (contains_first o os) (omega (arith, less, more)))
    (unlisted_all os rest q (tail_numbered o (os ++ rest) numbered) (λ p among. each p (contains_rest o p os among)))

-- the stack once they are taken back
pub stack_after : (os rest : List StackItem) (s : SystemState) → s.stack ≡ os ++ rest → (after_rollbacks os rest s).stack ≡ rest
stack_after [] rest s is = is
stack_after (o ∷ os) rest s is = stack_after os rest (after_rollback o (os ++ rest) s) refl

-- `last` is the number of the last job, which each system of the root tells as `number_of`.
module _ {T : Type 0} (root_disk : DiskModel T) (root root' : T) (opened opened' : Opened) (last : ℕ) (number_of : RootState → ℕ) where
  abbrev pub CanTake : RootState → Type 0
  CanTake s = CanTakeBackTo s (number_of s)

  abbrev pub back_of : RootState → RootState
  back_of s = rolled_back_to (number_of s) s

  abbrev pub text_of : RootState → List ℕ
  text_of s = rolled_back_text (newest s.stack) (length (jobs_to (number_of s) s.stack))

  abbrev pub paths_of : RootState → List Name
  paths_of s = paths_of_jobs (jobs_to (number_of s) s.stack)

  abbrev pub Refuses : RootState → Refusal → Type 0
  Refuses s why = IsRefusalTo s (number_of s) why

  abbrev pub Tells : RootState → ℕ → Type 0
  Tells s n = AreTakenBack s (number_of s) opened'.db n

  abbrev pub IsDamage : Name → Type 0
  IsDamage path = IsDamagedJob (root_disk.reads root) opened.db last path ⊎ IsFirstDamagedContent (root_disk.reads root) opened.db last path

  pub left_out : (s : RootState) → StoresIn Two (root_disk.reads root) s → CanTake s → (q : Name) → LeavesName s (back_of s) q → is_listed (paths_of s) q ≡ false
  left_out s stores can q leaves =
      let os = jobs_to (number_of s) s.stack in
      let rest = jobs_below (number_of s) s.stack in
      let split : s.stack ≡ os ++ rest = sym (take-append-drop (newest s.stack + 1 - number_of s) s.stack) in
      let then : (back_of s).stack ≡ rest = stack_after os rest s split in
      unlisted_all os rest q (subst AreNumbered split stores.system.numbered)
      (λ o among below. leaves.undone o (subst (λ (l : List StackItem). Contains l o) (sym split) (Contains-append_left os rest o among)) (subst (λ (l : List StackItem). newest l < o.number) (sym then) below))

  pub ways : Ways (root_disk.reads root) opened.db CanTake back_of paths_of Tells IsDamage
  ways = record {
    damage = λ path is holds. record { db = opened.db; holds = holds; damaged = inr (last, is) };
    can_tell = λ s n tells. (tells.job, tells.can);
    left_out = left_out;
  }

  pub ends_all : (s : RootState) (r : Result ℕ Stop) → EndsTo s (number_of s) opened'.db r → EndsBack (Tells s) (Refuses s) r
  ends_all s (Err stop.Failed) h = tt
  ends_all s (Err stop.Memory) h = tt
  ends_all s _ h = h

  pub rests_all : (r : Result ℕ Stop) → IfOk r (HasTakenBackTo root_disk opened.db opened'.db last root root') → OnOk r (IsSettled root_disk root_store.base root')
  rests_all (Ok n) h = record { flag_clear = h.put.flag_clear; synced = h.put.synced }
  rests_all (Err e) h = tt

  pub stops_each : (e : Stop) → StopsTo root_disk opened.db last root root' e → StopsBack root_disk IsDamage root root' e
  stops_each (stop.Refused why) h = record { answer = tt; same = h.same; time = h.time }
  stops_each (stop.Damaged path) h = h
  stops_each _ h = tt

  pub stops_all : (r : Result ℕ Stop) → IfErr r (StopsTo root_disk opened.db last root root') → IfErr r (StopsBack root_disk IsDamage root root')
  stops_all (Ok n) h = tt
  stops_all (Err e) h = stops_each e h

  pub taken : (r : Result ℕ Stop) → ((s : RootState) → IsTrue root_disk.tells → StoresIn Two (root_disk.reads root) s → last ≡ number_of s)
      → (IsTrue root_disk.tells → (s : SystemState) → StoresIn Two (root_disk.reads root) s → RollsBackTo root_disk s last opened'.db root root' r)
      → (IsTrue root_disk.tells → IfOk r (HasTakenBackTo root_disk opened.db opened'.db last root root')) → (IsTrue root_disk.tells → IfErr r (StopsTo root_disk opened.db last root root'))
      → IfErr r (HasRollbackCause (IsRefusalKindTo opened.db last) (Rose (root_disk.faults root) (root_disk.faults root'))) → root_disk.faults root ≤ root_disk.faults root'
      → TakenBack root_disk root root' CanTake back_of paths_of Refuses Tells IsDamage r
  taken r same rolls done stops causes later = record {
    taken = λ told s stores.
        let h : RollsBackTo root_disk s (number_of s) opened'.db root root' r = subst (λ (n : ℕ). RollsBackTo root_disk s n opened'.db root root' r) (same s told stores) (rolls told s stores) in
        record { ends = ends_all s r h.ends; only = h.only; moves = h.moves };
    rests = λ told. rests_all r (done told);
    stops = λ told. stops_all r (stops told);
    causes = causes_all (IsRefusalKindTo opened.db last) (Rose (root_disk.faults root) (root_disk.faults root')) r causes;
    later = later;
  }

-- the text of it
pub told_text_is : (law : OneDatabase) (x : Tree) (s : RootState) (db db' : Db) (number n k : ℕ) (text : List ℕ) → db.newest ≡ newest s.stack → StoresIn Two x s → AreTakenBack s number db' n → k ≡ min db.newest n → text ≡ rolled_back_text db.newest k
    → text ≡ rolled_back_text (newest s.stack) (length (jobs_to number s.stack))
told_text_is law x s db db' number n k text same stores tells least is =
    let few = few_jobs s.stack stores.system.numbered in
    let within : length (jobs_to number s.stack) ≡ min (newest s.stack + 1 - number) (length s.stack) = length-take (newest s.stack + 1 - number) s.stack in
    let count : n ≡ length (jobs_to number s.stack) = tells.count_is in
    let one : k ≡ length (jobs_to number s.stack) = omega (arith, least, same, few, within, count) in
    is ∙ ap (rolled_back_text db.newest) one ∙ ap (λ (m : ℕ). rolled_back_text m (length (jobs_to number s.stack))) same

-- the number that is meant, by the database and by the system
pub meant_is : (number : Option ℕ) (s : RootState) (db : Db) (last : ℕ) → last ≡ last_job number db → db.newest ≡ newest s.stack → last ≡ meant_number number s
meant_is None s db last is same = is ∙ same
meant_is (Some number) s db last is same = is

-- ---- the clauses of the command

module _ {T P : Type 0} {root_disk : DiskModel T} (root_disk_laws : IsDisk root_disk) (law : OneDatabase) (root root' : T) (repo : P) (repo_disk : DiskModel P) (opened opened' : Opened) (ready : AreReady root_disk repo_disk (disks root repo opened))
    (number : Option ℕ) (last : ℕ) (last_is : last ≡ last_job number opened.db) (r : Result ℕ Stop)
    (rolls : IsTrue root_disk.tells → (s : SystemState) → StoresIn Two (root_disk.reads root) s → RollsBackTo root_disk s last opened'.db root root' r)
    (done : IsTrue root_disk.tells → IfOk r (HasTakenBackTo root_disk opened.db opened'.db last root root')) (stops : IsTrue root_disk.tells → IfErr r (StopsTo root_disk opened.db last root root'))
    (causes : IfErr r (HasRollbackCause (IsRefusalKindTo opened.db last) (Rose (root_disk.faults root) (root_disk.faults root')))) (later : root_disk.faults root ≤ root_disk.faults root') (input : List ℕ) where
  abbrev pub number_in : RootState → ℕ
  number_in s = meant_number number s

  pub newest_in : (s : RootState) → IsTrue root_disk.tells → StoresIn Two (root_disk.reads root) s → opened.db.newest ≡ newest s.stack
  newest_in s told stores = (held_database law (root_disk.reads root) opened.db s (ready.root told).holds (inr stores)).newest

  pub took : TakenBack root_disk root root' (CanTake root_disk root root' opened opened' last number_in) (back_of root_disk root root' opened opened' last number_in) (paths_of root_disk root root' opened opened' last number_in)
      (Refuses root_disk root root' opened opened' last number_in) (Tells root_disk root root' opened opened' last number_in) (IsDamage root_disk root root' opened opened' last number_in) r
  took = taken root_disk root root' opened opened' last number_in r (λ s told stores. meant_is number s opened.db last last_is (newest_in s told stores)) rolls done stops causes later

  abbrev pub Alone : Result (List ℕ) Failure → Type 0
  Alone f = PerformsAlone root_disk repo_disk (roll_back number) input (disks root repo opened) (disks root' repo opened') f

  abbrev pub Done : Result (List ℕ) Failure → Type 0
  Done f = Performs root_disk repo_disk (roll_back number) input (disks root repo opened) (disks root' repo opened') f

  pub alone_failed : (f : Failure) → root_result r ≡ Err f → Alone (Err f)
  alone_failed f is = failed_alone root_disk_laws law root root' repo repo_disk opened opened' ready (CanTake root_disk root root' opened opened' last number_in) (back_of root_disk root root' opened opened' last number_in)
      (text_of root_disk root root' opened opened' last number_in) (paths_of root_disk root root' opened opened' last number_in) (Refuses root_disk root root' opened opened' last number_in) (Tells root_disk root root' opened opened' last number_in)
      (IsDamage root_disk root root' opened opened' last number_in) (ways root_disk root root' opened opened' last number_in) (take_back number) (λ s e back. back) (λ s why refused. refused) input r f is took

  pub alone_memory : (n : ℕ) → root_result r ≡ Ok n → Alone (Err failure.Memory)
  alone_memory n is = memory_alone root_disk_laws law root root' repo repo_disk opened opened' ready (CanTake root_disk root root' opened opened' last number_in) (back_of root_disk root root' opened opened' last number_in)
      (text_of root_disk root root' opened opened' last number_in) (paths_of root_disk root root' opened opened' last number_in) (Refuses root_disk root root' opened opened' last number_in) (Tells root_disk root root' opened opened' last number_in)
      (IsDamage root_disk root root' opened opened' last number_in) (ways root_disk root root' opened opened' last number_in) (take_back number) (λ s e back. back) (λ s why refused. refused) input r n is took

  module _ (n k : ℕ) (text : List ℕ) (is : root_result r ≡ Ok n) (least : k ≡ min opened.db.newest n) (text_is : text ≡ rolled_back_text opened.db.newest k) where
    told_so : IsTrue root_disk.tells → (s : RootState) → StoresIn Two (root_disk.reads root) s → Tells root_disk root root' opened opened' last number_in s n → text ≡ text_of root_disk root root' opened opened' last number_in s
    told_so told s stores tells = told_text_is law (root_disk.reads root) s opened.db opened'.db (number_in s) n k text (newest_in s told stores) stores tells least text_is

    pub alone_told : Alone (Ok text)
    alone_told = told_alone root_disk_laws law root root' repo repo_disk opened opened' ready (CanTake root_disk root root' opened opened' last number_in) (back_of root_disk root root' opened opened' last number_in)
        (text_of root_disk root root' opened opened' last number_in) (paths_of root_disk root root' opened opened' last number_in) (Refuses root_disk root root' opened opened' last number_in) (Tells root_disk root root' opened opened' last number_in)
        (IsDamage root_disk root root' opened opened' last number_in) (ways root_disk root root' opened opened' last number_in) (take_back number) (λ s e back. back) (λ s why refused. refused) input r n text is took told_so

    pub performs_told : IsDisk repo_disk → IsStore repository_store → Done (Ok text)
    performs_told repo_disk_laws repo_laws = told_performs root_disk_laws law root root' repo repo_disk opened opened' ready (CanTake root_disk root root' opened opened' last number_in) (back_of root_disk root root' opened opened' last number_in)
        (text_of root_disk root root' opened opened' last number_in) (paths_of root_disk root root' opened opened' last number_in) (Refuses root_disk root root' opened opened' last number_in) (Tells root_disk root root' opened opened' last number_in)
        (IsDamage root_disk root root' opened opened' last number_in) (ways root_disk root root' opened opened' last number_in) (take_back number) (λ s e back. back) (λ s why refused. refused) input repo_disk_laws repo_laws r n text is took told_so

  module _ (repo_disk_laws : IsDisk repo_disk) (repo_laws : IsStore repository_store) where
    pub performs_failed : (f : Failure) → root_result r ≡ Err f → Done (Err f)
    performs_failed f is = failed_performs root_disk_laws law root root' repo repo_disk opened opened' ready (CanTake root_disk root root' opened opened' last number_in) (back_of root_disk root root' opened opened' last number_in)
        (text_of root_disk root root' opened opened' last number_in) (paths_of root_disk root root' opened opened' last number_in) (Refuses root_disk root root' opened opened' last number_in) (Tells root_disk root root' opened opened' last number_in)
        (IsDamage root_disk root root' opened opened' last number_in) (ways root_disk root root' opened opened' last number_in) (take_back number) (λ s e back. back) (λ s why refused. refused) input repo_disk_laws repo_laws r f is took

    pub performs_memory : (n : ℕ) → root_result r ≡ Ok n → Done (Err failure.Memory)
    performs_memory n is = memory_performs root_disk_laws law root root' repo repo_disk opened opened' ready (CanTake root_disk root root' opened opened' last number_in) (back_of root_disk root root' opened opened' last number_in)
        (text_of root_disk root root' opened opened' last number_in) (paths_of root_disk root root' opened opened' last number_in) (Refuses root_disk root root' opened opened' last number_in) (Tells root_disk root root' opened opened' last number_in)
        (IsDamage root_disk root root' opened opened' last number_in) (ways root_disk root root' opened opened' last number_in) (take_back number) (λ s e back. back) (λ s why refused. refused) input repo_disk_laws repo_laws r n is took
