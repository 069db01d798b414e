-- The step from the system that a root stores to the one with several jobs taken back.
use Rattle.std.proofs.Common.{◌≡◌, ◌≢◌, ⊎_elim, ℕ, ◌+◌, ◌-◌, ◌≤◌, Bool, true, false, IsTrue, List, [], ◌∷◌, ◌++◌, length, take, drop, Some, All, Contains, refl, sym, ◌∙◌, ap, subst, arith, take-append-drop}
use Rattle.std.proofs.lemmas.Bool.{cases_Bool}
use Rattle.std.proofs.lemmas.List.Elements.{Contains-append_left}
use Rattle.std.proofs.lemmas.List.{length-take-le, length-drop}
use Rattle.std.specs.FinMap.{get}
use Rattle.rollback_stack.specs.cny-base.Reserved.{is_reserved}
use Rattle.rollback_stack.specs.cny-base.declared.refusal.Refusal.{Refusal}
use Rattle.rollback_stack.specs.cny-base.declared.refusal.Refusal.TheVariants.{Edited, NoJob, Parent, StackEmpty}
use Rattle.rollback_stack.specs.cny-base.declared.stop.Stop.{Stop}
use Rattle.rollback_stack.specs.cny-base.declared.stop.Stop.TheVariants as stop
use Rattle.std.specs.Prelude.{Err}
use Rattle.rollback_stack.specs.journal-log.Targets.{is_target, with_targets}
use Rattle.rollback_stack.specs.trove-stream.declared.parts.TroveParts.{TroveParts}
use Rattle.rollback_stack.specs.tree-disk.Steps.{IsDiskStop}
use Rattle.rollback_stack.specs.tree-disk.Tree.{Name, Tree, WellFormed}
use Rattle.rollback_stack.specs.tree-scan.declared.mark.Mark.{Mark}
use Rattle.rollback_stack.specs.tree-scan.Marks.{fingerprint}
use Rattle.local_db.specs.declared.db.Db.{Db}
use Rattle.job_targets.specs.Old.{IsDamagedOld}
use Rattle.local_db.specs.Record as state
use Rattle.local_db.specs.Stores.{HoldsDatabase, HoldsStack, StoresIn}
use Rattle.local_db.specs.SystemState.{AreNumbered, IsStackItem, StackItem, SystemState, is_listed, newest, oldest}
use Rattle.local_db.specs.Steps as steps
use Rattle.local_db.specs.Steps.{CanRollBackAll, IsUnion, after_rollbacks, database_put}
use Rattle.local_db.specs.declared.format.Format.TheVariants.{Two}
use Rattle.local_db.proofs.Several.{rollbacks_stored}
use Rattle.local_db.proofs.Sorted.{listed_in}
use Rattle.local_db.proofs.Writes.{not_both}
use Rattle.rollback_stack.specs.past-jobs.Jobs.{CanUndoAll, oldest_with, undone_all}
use Rattle.rollback_stack.specs.past-jobs.Marks as undo
use Rattle.rollback_stack.specs.past-jobs.Marks.{marks_of}
use Rattle.rollback_stack.specs.JobReading.{HoldsRecord, HoldsRecords}
use Rattle.rollback_stack.specs.declared.undo.Back.{Back}
use Rattle.rollback_stack.specs.Database.{newest_below, oldest_below}
use Rattle.rollback_stack.specs.Inverse.{AreOldNodes, IsBackRefusal, IsBackStop, IsDamagedContent, IsDamagedJob, IsOnStack, IsRefusedJob, no_records}
use Rattle.system_core.specs.Inserting.{put_of_db}
use Rattle.system_core.specs.RestoringAll.{list_before}
use Rattle.system_core.specs.Several.{EndsTo, HasJob, IsRefusalTo, IsStepTo, OfTurn, count_to, jobs_below, jobs_to, paths_of_jobs, rolled_back_to}
use Rattle.system_core.specs.Tests as test
use Rattle.system_core.proofs.Counting.{AreLeft, few_jobs, has_job, least, numbers_left}
use Rattle.system_core.proofs.PuttingAll.{not_target_to}
use Rattle.system_core.proofs.Sequence.{AreTurns, after_list, all_turns, entries_all, from_front, from_rest, held_jobs, job_listed, oldest_is, records_by_number, saved_in, stack_left}
use Rattle.system_core.proofs.NewestStored.{job_record, not_damaged}
use Rattle.system_core.proofs.Together.{free_of, mark_after, nodes_free, oldest_of, together, turns}
use Rattle.system_core.proofs.Turn.{first_edited_to, first_orphan_to, first_turn}
use Rattle.system_core.proofs.Migration.{AreFrom, OneRecord, from_newest}
use Rattle.system_core.proofs.Held.{OneDatabase, SameParts, one_held}
use Rattle.system_core.specs.Job.{db_of}
use Rattle.tree_journal.proofs.WriteSets.{target_at}
use Rattle.local_db.proofs.cny-base.Lists.{all_at as all_middle}

-- what the step is to the system
pub record IsSystemStepTo (x : Tree) (s : SystemState) (number : ℕ) (step : Back) : Type 0 where
  pub job : HasJob s.stack number
  pub count_is : length (jobs_to number s.stack) + number ≡ newest s.stack + 1
  pub can : CanRollBackAll (jobs_to number s.stack) (jobs_below number s.stack) s
  pub db_is : step.db ≡ db_of (rolled_back_to number s)
  pub stored : StoresIn Two (with_targets step.puts x) (rolled_back_to number s)
  pub outside : (q : Name) → is_reserved q ≡ false → is_listed (paths_of_jobs (jobs_to number s.stack)) q ≡ false → is_target step.puts q ≡ false

-- the jobs of the stack of which these are the entries, and those below them
pub record AreRead (x : Tree) (s : SystemState) (jobs : List (List state.Entry)) (after : List TroveParts) : Type 0 where
  pub os : List StackItem
  pub rest : List StackItem
  pub os_are : os ≡ take (length jobs) s.stack
  pub rest_is : rest ≡ drop (length jobs) s.stack
  pub stack_is : s.stack ≡ os ++ rest
  pub jobs_are : jobs ≡ entries_all os
  pub after_is : after ≡ list_before os s.installed
  pub from : AreFrom (newest s.stack) os
  pub long : length os ≡ length jobs
  pub left : HoldsStack Two x after rest

-- the next job below them, with its record
record IsNext (x : Tree) (s : SystemState) (os rest : List StackItem) (after : List TroveParts) : Type 0 where
  pub job : StackItem
  pub olds : List StackItem
  pub rest_is : rest ≡ job ∷ olds
  pub stack_is : s.stack ≡ os ++ job ∷ olds
  pub number_is : job.number ≡ newest s.stack - length os
  pub holds : HoldsRecord Two x (newest s.stack - length os) after job.list (state.entries_of job)

next_of : (x : Tree) (s : SystemState) (os rest : List StackItem) (after : List TroveParts) → StoresIn Two x s → s.stack ≡ os ++ rest → HoldsStack Two x after rest → 1 ≤ length rest → IsNext x s os rest after
next_of x s os [] after stores stack held some = absurd (omega (arith, some))
next_of x s os (o ∷ olds) after stores stack held some =
    let number_is : o.number ≡ newest s.stack - length os = from_rest (newest s.stack) os o olds (subst (AreFrom (newest s.stack)) stack (from_newest s.stack stores.system.numbered)) in
    record {
      job = o;
      olds = olds;
      rest_is = refl;
      stack_is = stack;
      number_is = number_is;
      holds = job_record x (newest s.stack - length os) after o held.0 (all_middle IsStackItem os o olds (subst (All IsStackItem) stack stores.system.olds)) number_is;
    }

module _ (one_db : OneDatabase) (one : OneRecord) (x : Tree) (s : SystemState) (stores : StoresIn Two x s) (db : Db) (holds : HoldsDatabase Two x db.installed db.oldest db.newest) (well : WellFormed x) where
  parts : SameParts db.installed s.installed db.oldest db.newest (oldest s.stack) (newest s.stack)
  parts = one_held one_db x db.installed s.installed db.oldest db.newest (oldest s.stack) (newest s.stack) holds stores.list

  numbered : AreNumbered s.stack
  numbered = stores.system.numbered

  empty_stack : db.newest ≡ 0 → s.stack ≡ []
  empty_stack zero = no_jobs s.stack stores.system.numbered (sym parts.highs ∙ zero)
    where
      no_jobs : (stack : List StackItem) → AreNumbered stack → newest stack ≡ 0 → stack ≡ []
      no_jobs [] numbered none = refl
      no_jobs (o ∷ []) numbered none = absurd (omega (arith, numbered, none))
      no_jobs (o ∷ p ∷ olds) numbered none = absurd (omega (arith, numbered.0, none))

  pub from : AreFrom (newest s.stack) s.stack
  from = from_newest s.stack stores.system.numbered

  module _ (number : ℕ) (on_stack : IsOnStack db number) where
    low : oldest s.stack ≤ number
    low =
        let kept = on_stack.kept in
        let same = parts.lows in
        omega (arith, kept, same)

    high : number ≤ newest s.stack
    high =
        let made = on_stack.made in
        let same = parts.highs in
        omega (arith, made, same)

    some : newest s.stack ≢ 0
    some none =
        let first = on_stack.some in
        let kept = on_stack.kept in
        let top = high in
        omega (arith, first, kept, top, none)

    pub asked : HasJob s.stack number
    asked = has_job s.stack number stores.system.numbered some low high

    -- ---- jobs that were read

    module _ (jobs : List (List state.Entry)) (after : List TroveParts) (read : HoldsRecords Two x db.newest db.installed jobs after) (few : length jobs + number ≤ newest s.stack + 1) where
      within : length jobs ≤ length s.stack
      within = few_jobs s.stack (length jobs) number stores.system.numbered some low few

      read_here : HoldsRecords Two x (newest s.stack) s.installed jobs after
      read_here = subst (λ (l : List TroveParts). HoldsRecords Two x (newest s.stack) l jobs after) parts.lists (subst (λ (n : ℕ). HoldsRecords Two x n db.installed jobs after) parts.highs read)

      split : s.stack ≡ take (length jobs) s.stack ++ drop (length jobs) s.stack
      split = sym (take-append-drop (length jobs) s.stack)

      all_read : AreRead x s jobs after
      all_read =
          let held = held_jobs one x (newest s.stack) s.installed after jobs s.stack stores.olds stores.system.olds from within read_here in
          record {
            os = take (length jobs) s.stack;
            rest = drop (length jobs) s.stack;
            os_are = refl;
            rest_is = refl;
            stack_is = split;
            jobs_are = held.0;
            after_is = held.1;
            from = from_front (newest s.stack) (take (length jobs) s.stack) (drop (length jobs) s.stack) (subst (AreFrom (newest s.stack)) split from);
            long = length-take-le (length jobs) s.stack within;
            left = subst (λ (l : List TroveParts). HoldsStack Two x l (drop (length jobs) s.stack)) (sym held.1)
                (stack_left x s.installed (take (length jobs) s.stack) (drop (length jobs) s.stack) (subst (HoldsStack Two x s.installed) split stores.olds));
          }

      -- above the number there is a next one
      next_job : length jobs + number ≤ newest s.stack → (r : AreRead x s jobs after) → IsNext x s r.os r.rest after
      next_job above r = next_of x s r.os r.rest after stores r.stack_is r.left
          (let long : length (drop (length jobs) s.stack) ≡ length s.stack - length jobs = length-drop (length jobs) s.stack in
          let same : length r.rest ≡ length (drop (length jobs) s.stack) = ap length r.rest_is in
          let one_more : length jobs + 1 ≤ length s.stack = few_jobs s.stack (length jobs + 1) number stores.system.numbered some low (omega (arith, above)) in
          omega (arith, long, same, one_more))

    -- ---- a job that can't be taken back

    module _ (why : Refusal) (is : IsRefusedJob x db number why) where
      above : length is.jobs + number ≤ newest s.stack
      above =
          let top = is.at.above in
          let same = parts.highs in
          omega (arith, top, same)

      read : AreRead x s is.jobs is.after
      read = all_read is.jobs is.after is.at.holds (omega (arith, above))

      turned : (r : AreRead x s is.jobs is.after) → AreTurns x (marks_of x) s r.os r.rest
      turned r = all_turns x (marks_of x) s r.os r.rest (first_turn x s stores well) r.stack_is (subst (λ (l : List (List state.Entry)). CanUndoAll l (marks_of x)) r.jobs_are is.at.can)

      entries_are : (r : AreRead x s is.jobs is.after) (n : IsNext x s r.os r.rest is.after) → is.es ≡ state.entries_of n.job
      entries_are r n =
          let long = r.long in
          let same = parts.highs in
          let number_is : newest s.stack - length r.os ≡ db.newest - length is.jobs = ap (λ (k : ℕ). k - length r.os) (sym same) ∙ ap (λ (k : ℕ). db.newest - k) long in
          (one Two x (db.newest - length is.jobs) is.after is.before n.job.list is.es (state.entries_of n.job) is.holds
          (subst (λ (k : ℕ). HoldsRecord Two x k is.after n.job.list (state.entries_of n.job)) number_is n.holds)).1

      refused : (r : AreRead x s is.jobs is.after) (n : IsNext x s r.os r.rest is.after) → undo.IsUndoRefusal (state.entries_of n.job) (undone_all (entries_all r.os) (marks_of x)) why
      refused r n = subst (λ (l : List (List state.Entry)). undo.IsUndoRefusal (state.entries_of n.job) (undone_all l (marks_of x)) why) r.jobs_are
          (subst (λ (l : List state.Entry). undo.IsUndoRefusal l (undone_all is.jobs (marks_of x)) why) (entries_are r n) is.refused)

      of_turn : (P : StackItem → Tree → Type 0) → ((r : AreRead x s is.jobs is.after) (n : IsNext x s r.os r.rest is.after) (t : AreTurns x (marks_of x) s r.os r.rest) → P n.job (after_rollbacks r.os r.rest s).tree) → OfTurn s number P
      of_turn P each =
          let r = read in
          let n = next_job is.jobs is.after is.at.holds (omega (arith, above)) above r in
          let t = turned r in record {
            asked = asked;
            newer = r.os;
            job = n.job;
            olds = n.olds;
            stack_is = n.stack_is;
            down_to =
                let number_is = n.number_is in
                let long = r.long in
                let top = above in
                omega (arith, number_is, long, top);
            can = subst (λ (l : List StackItem). CanRollBackAll r.os l s) n.rest_is t.can;
            holds = subst (λ (l : List StackItem). P n.job (after_rollbacks r.os l s).tree) n.rest_is (each r n t);
          }

      pub edited_to : (path : Name) → why ≡ Edited path → OfTurn s number (λ o tree. test.IsFirstEditedSince o tree path)
      edited_to path e = of_turn (λ o tree. test.IsFirstEditedSince o tree path)
          (λ r n t. first_edited_to x (undone_all (entries_all r.os) (marks_of x)) (after_rollbacks r.os r.rest s) t.turn n.job n.olds (t.left ∙ n.rest_is) path
          (subst (undo.IsUndoRefusal (state.entries_of n.job) (undone_all (entries_all r.os) (marks_of x))) e (refused r n)))

      pub orphaned_to : (path : Name) → why ≡ Parent path → OfTurn s number (λ o tree. test.IsFirstWithoutDirectory o tree path)
      orphaned_to path e = of_turn (λ o tree. test.IsFirstWithoutDirectory o tree path)
          (λ r n t. first_orphan_to x (undone_all (entries_all r.os) (marks_of x)) (after_rollbacks r.os r.rest s) t.turn n.job n.olds (t.left ∙ n.rest_is) path
          (subst (undo.IsUndoRefusal (state.entries_of n.job) (undone_all (entries_all r.os) (marks_of x))) e (refused r n)))

    -- ---- nothing is damaged

    pub no_damaged_job : (path : Name) → IsDamagedJob x db number path → ⊥
    no_damaged_job path is =
        let top = is.at.above in
        let same = parts.highs in
        let above : length is.jobs + number ≤ newest s.stack = omega (arith, top, same) in
        let r = all_read is.jobs is.after is.at.holds (omega (arith, above)) in
        let n = next_job is.jobs is.after is.at.holds (omega (arith, above)) above r in
        let long = r.long in
        let number_is : newest s.stack - length r.os ≡ db.newest - length is.jobs = ap (λ (k : ℕ). k - length r.os) (sym same) ∙ ap (λ (k : ℕ). db.newest - k) long in
        is.none n.job.list (state.entries_of n.job) (subst (λ (k : ℕ). HoldsRecord Two x k is.after n.job.list (state.entries_of n.job)) number_is n.holds)

    pub no_damaged_content : (path : Name) → IsDamagedContent x db number path → ⊥
    no_damaged_content path is =
        let count = is.jobs_are.count in
        let same = parts.highs in
        let r = all_read is.jobs is.before is.jobs_are.holds (omega (arith, count, same)) in
        let can = subst (λ (l : List (List state.Entry)). CanUndoAll l (marks_of x)) r.jobs_are is.jobs_are.can in
        let named : oldest_with (newest s.stack) (entries_all r.os) is.place ≡ Some is.job =
        subst (λ (n : ℕ). oldest_with n (entries_all r.os) is.place ≡ Some is.job) same (subst (λ (l : List (List state.Entry)). oldest_with db.newest l is.place ≡ Some is.job) r.jobs_are is.named) in
        let old = oldest_is (newest s.stack) r.os is.place is.job r.from named in
        let out = (free_of x s stores well (newest s.stack) r.os r.rest r.stack_is r.from can is.place old.job old.among old.own).not_reserved in
        let mark : undone_all is.jobs (marks_of x) is.place ≡ fingerprint (get old.job.before is.place) =
        ap (λ (l : List (List state.Entry)). undone_all l (marks_of x) is.place) r.jobs_are ∙ mark_after x s stores well (newest s.stack) r.os r.rest r.stack_is r.from can is.place out ∙ ap fingerprint (old.node (get s.tree is.place)) in
        not_damaged x old.job
        (saved_in x s.installed s.stack old.job stores.olds (subst (λ (l : List StackItem). Contains l old.job) (sym r.stack_is) (Contains-append_left r.os r.rest old.job old.among)))
        is.job (sym old.number_is) is.place path (listed_in old.job.paths is.place old.own)
        (subst (λ (m : Mark). IsDamagedOld x is.job m path) mark is.damaged)

  -- ---- the step

  module _ (number : ℕ) (step : Back) (is : IsStepTo x db number step) where
    count : length is.jobs + number ≡ newest s.stack + 1
    count =
        let long = is.jobs_are.count in
        let same = parts.highs in
        omega (arith, long, same)

    read_all : AreRead x s is.jobs is.before
    read_all = all_read number is.jobs_are.on_stack is.jobs is.before is.jobs_are.holds (omega (arith, count))

    so_many : count_to number s.stack ≡ length is.jobs
    so_many = let all = count in omega (arith, all)

    module _ (r : AreRead x s is.jobs is.before) where
      top : jobs_to number s.stack ≡ r.os
      top = ap (λ (k : ℕ). take k s.stack) so_many ∙ sym r.os_are

      bottom : jobs_below number s.stack ≡ r.rest
      bottom = ap (λ (k : ℕ). drop k s.stack) so_many ∙ sym r.rest_is

      there : rolled_back_to number s ≡ after_rollbacks r.os r.rest s
      there = λ i. after_rollbacks (top i) (bottom i) s

      can_all : CanUndoAll (entries_all r.os) (marks_of x)
      can_all = subst (λ (l : List (List state.Entry)). CanUndoAll l (marks_of x)) r.jobs_are is.jobs_are.can

      turned_all : AreTurns x (marks_of x) s r.os r.rest
      turned_all = turns x s stores well (newest s.stack) r.os r.rest r.stack_is r.from can_all

      nodes_are : AreOldNodes x (newest s.stack) (entries_all r.os) is.nodes
      nodes_are = subst (λ (n : ℕ). AreOldNodes x n (entries_all r.os) is.nodes) parts.highs (subst (λ (l : List (List state.Entry)). AreOldNodes x db.newest l is.nodes) r.jobs_are is.nodes_are)

      numbers : AreLeft s.stack r.rest number
      numbers = subst (λ (l : List StackItem). AreLeft l r.rest number) (sym r.stack_is)
          (numbers_left r.os r.rest number (subst AreNumbered r.stack_is stores.system.numbered) (subst (λ (l : List StackItem). oldest l ≤ number) r.stack_is (low number is.jobs_are.on_stack))
          (subst (λ (l : List StackItem). number ≤ newest l) r.stack_is (high number is.jobs_are.on_stack))
          (ap (λ (k : ℕ). k + number) r.long ∙ count ∙ ap (λ (l : List StackItem). newest l + 1) r.stack_is))

      pub db_is : step.db ≡ db_of (after_rollbacks r.os r.rest s)
      db_is =
          let list : is.before ≡ (after_rollbacks r.os r.rest s).installed = r.after_is ∙ sym (after_list r.os r.rest s) in
          let low : oldest_below db.oldest number ≡ oldest (after_rollbacks r.os r.rest s).stack = ap (λ (k : ℕ). oldest_below k number) parts.lows ∙ numbers.low ∙ ap oldest (sym turned_all.left) in
          let high : newest_below db.oldest number ≡ newest (after_rollbacks r.os r.rest s).stack = ap (λ (k : ℕ). newest_below k number) parts.lows ∙ numbers.high ∙ ap newest (sym turned_all.left) in
          is.db_is ∙ (λ i. record { installed = list i; oldest = low i; newest = high i })

      union : IsUnion step.puts is.nodes (database_put Two 420 (after_rollbacks r.os r.rest s) ∷ steps.no_records r.os)
      union =
          let data_ : put_of_db step.db ≡ database_put Two 420 (after_rollbacks r.os r.rest s) = ap put_of_db db_is in
          let records : no_records (length is.jobs) db.newest ≡ steps.no_records r.os =
          (λ i. no_records (length (r.jobs_are i)) (parts.highs i)) ∙ records_by_number (newest s.stack) r.os r.from in
          subst (IsUnion step.puts is.nodes) (λ i. data_ i ∷ records i) is.writes

      pub stored : StoresIn Two (with_targets step.puts x) (after_rollbacks r.os r.rest s)
      stored = rollbacks_stored Two x s r.os r.rest step.puts stores r.stack_is turned_all.can (record {
        nodes = is.nodes;
        rises = is.nodes_are.rises;
        free = nodes_free x s stores well (newest s.stack) r.os r.rest r.stack_is r.from can_all is.nodes nodes_are;
        together = together x s stores well (newest s.stack) r.os r.rest r.stack_is r.from can_all is.nodes nodes_are;
        database_mode = 420;
        writes = union;
      })

      pub outside : (q : Name) → is_reserved q ≡ false → is_listed (paths_of_jobs r.os) q ≡ false → is_target step.puts q ≡ false
      outside q out other = not_target_to x db number step is well holds q out (⊎_elim
          (λ hit.
          let t = target_at is.nodes q hit in
          let old = oldest_of x s stores well (newest s.stack) r.os r.rest r.stack_is r.from can_all is.nodes nodes_are t.0 t.1 in
          not_both (is_listed (paths_of_jobs r.os) q) (job_listed r.os old.job q old.among (ap (is_listed old.job.paths) t.2 ∙ old.own)) other)
          (λ no. no)
          (cases_Bool (is_target is.nodes q)))

      whole : IsSystemStepTo x s number step
      whole = record {
        job = asked number is.jobs_are.on_stack;
        count_is = ap (λ (l : List StackItem). length l + number) top ∙ ap (λ (k : ℕ). k + number) r.long ∙ count;
        can = subst (λ (l : List StackItem). CanRollBackAll l (jobs_below number s.stack) s) (sym top) (subst (λ (l : List StackItem). CanRollBackAll r.os l s) (sym bottom) turned_all.can);
        db_is = db_is ∙ ap db_of (sym there);
        stored = subst (StoresIn Two (with_targets step.puts x)) (sym there) stored;
        outside = λ q out other. outside q out (subst (λ (l : List StackItem). is_listed (paths_of_jobs l) q ≡ false) top other);
      }

    pub system_step_to : IsSystemStepTo x s number step
    system_step_to = whole read_all

  -- ---- stops

  refusal_to : (number : ℕ) (why : Refusal) → IsBackRefusal true x db number why → IsRefusalTo s number why
  refusal_to number StackEmpty is = empty_stack is
  refusal_to number (NoJob n) is = (
    is.0,
    λ none. is.1 (parts.highs ∙ ap newest none),
    λ has.
        let within = least s.stack has.0 stores.system.numbered has.1 in
        let low = within.0 in
        let high = within.1 in
        let number_is = has.2 in
        let lows = parts.lows in
        let highs = parts.highs in
        ⊎_elim (λ under. omega (arith, low, number_is, lows, under)) (λ over. omega (arith, high, number_is, highs, over)) is.2,
  )
  refusal_to number (Edited path) is = let job = is.1 refl in edited_to number job.at.on_stack (Edited path) job path refl
  refusal_to number (Parent path) is = let job = is.1 refl in orphaned_to number job.at.on_stack (Parent path) job path refl
  refusal_to number _ is = absurd is.0

  pub unwritten_to : (told : Bool) (number : ℕ) (rose : Type 0) (left : Db) (e : Stop) → IsTrue told → IsBackStop told x db number rose e → EndsTo s number left (Err e)
  unwritten_to told number rose left stop.Failed tells is = tt
  unwritten_to told number rose left stop.Memory tells is = tt
  unwritten_to told number rose left (stop.Refused why) tells is = refusal_to number why (subst (λ (b : Bool). IsBackRefusal b x db number why) tells is)
  unwritten_to told number rose left (stop.Damaged path) tells is = ⊎_elim (λ job. no_damaged_job number job.at.on_stack path job) (λ bad. no_damaged_content number bad.content.jobs_are.on_stack path bad.content) (is tells)
  unwritten_to told number rose left stop.FarFailed tells is = is
  unwritten_to told number rose left (stop.FarDamaged path) tells is = is

-- stopped while it was written
pub unfinished_to : (s : SystemState) (number : ℕ) (left : Db) (e : Stop) → IsDiskStop e → EndsTo s number left (Err e)
unfinished_to s number left stop.Failed is = tt
unfinished_to s number left stop.Memory is = tt
unfinished_to s number left (stop.Refused why) is = absurd is
unfinished_to s number left (stop.Damaged path) is = is
unfinished_to s number left stop.FarFailed is = is
unfinished_to s number left (stop.FarDamaged path) is = is
