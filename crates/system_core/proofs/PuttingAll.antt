-- The writes of several rollbacks may be put.
use Rattle.std.proofs.Common.{◌≡◌, ◌≢◌, ◌⊎◌, ⊎_elim, cond, lit≤, ℕ, zero, suc, ◌-◌, ◌≤◌, Bool, true, false, ◌||◌, IsTrue, List, [], ◌∷◌, length, get_or, Option, Some, None, is_some, All, Contains, refl, sym, ◌∙◌, ap, subst, arith}
use Rattle.std.proofs.lemmas.Bool.{cases_Bool}
use Rattle.std.proofs.lemmas.List.Elements.{All-cons, All-contains, All-head, All-nil, All-tail, Contains-get_or}
use Rattle.std.specs.FinMap.{get}
use Rattle.rollback_stack.specs.cny-base.Path.{is_path, parent, root}
use Rattle.rollback_stack.specs.cny-base.Reserved.{private_directory, is_pinned, is_reserved}
use Rattle.rollback_stack.specs.journal-log.declared.put.Put.{Put}
use Rattle.rollback_stack.specs.journal-log.declared.put.Want.TheVariants as want
use Rattle.rollback_stack.specs.journal-log.Own.{gate}
use Rattle.rollback_stack.specs.journal-log.Targets.{is_target, node_of, with_targets}
use Rattle.rollback_stack.specs.trove-stream.declared.parts.TroveParts.{TroveParts}
use Rattle.rollback_stack.specs.tree-disk.Disk.{DiskModel}
use Rattle.rollback_stack.specs.tree-disk.Laws.{same_means}
use Rattle.rollback_stack.proofs.tree-disk.Nodes.{is_node-File}
use Rattle.rollback_stack.specs.tree-disk.Tree.{Name, Tree, WellFormed, is_dir, may_stand, same_name}
use Rattle.rollback_stack.specs.tree-scan.Marks as marks
use Rattle.rollback_stack.specs.tree-scan.Marks.{fingerprint}
use Rattle.job_targets.specs.Old.{is_staged}
use Rattle.local_db.specs.MarkBytes.{IsMark}
use Rattle.local_db.specs.Names.{database, record_file}
use Rattle.local_db.specs.Record as state
use Rattle.local_db.specs.Stores.{HoldsDatabase}
use Rattle.local_db.specs.SystemState.{IsFree}
use Rattle.local_db.specs.Steps.{IsOwnWrite, IsPuttable, no_record_put}
use Rattle.local_db.specs.declared.format.Format.TheVariants.{Two}
use Rattle.local_db.proofs.FileNames.{database_is_path, record_is_path}
use Rattle.local_db.proofs.Jobs.{outer_differs}
use Rattle.local_db.proofs.Places.{database_reserved, database_write, record_reserved, record_write}
use Rattle.local_db.proofs.Systems.{four_bytes}
use Rattle.local_db.proofs.Unions.{wrote_alike}
use Rattle.local_db.proofs.Writes.{not_both, with_targets_target}
use Rattle.tree_journal.specs.Recovery.{is_committed}
use Rattle.rollback_stack.specs.past-jobs.Jobs.{CanUndoAll, older, oldest_with, undone_all}
use Rattle.rollback_stack.specs.past-jobs.Marks.{IsOrphan, Marks, is_path_of, marks_of, undone}
use Rattle.rollback_stack.proofs.past-jobs.JobLaws.{none_with}
use Rattle.rollback_stack.specs.JobReading.{HoldsRecord, HoldsRecords}
use Rattle.rollback_stack.specs.declared.undo.Back.{Back}
use Rattle.local_db.specs.declared.db.Db.{Db}
use Rattle.system_core.specs.RootWriting.{CanWrite}
use Rattle.rollback_stack.specs.Inverse.{IsOldWant, no_records}
use Rattle.system_core.specs.Inserting.{put_of_db}
use Rattle.system_core.specs.Rollback.{MayRollBack}
use Rattle.system_core.specs.Several.{IsStepTo}
use Rattle.system_core.proofs.Putting.{may_be, no_database_dir, not_none, stands, there}
use Rattle.tree_journal.proofs.WriteSets.{target_at, with_targets_outside}
use Rattle.conflict_plan.proofs.Sighted.{stands_dir as dir_told}
use Rattle.tree_journal.proofs.journal-log.Walking.{listed as is_target-from}
use Rattle.tree_journal.proofs.tree-disk.Children.{or_none as neither}
use Rattle.system_core.proofs.JobEnding.{is_file_or_none as no_dir}
use Rattle.local_db.proofs.Other.{nothing_there as none_told}

-- ---- a path of one of the jobs

-- it is a job's to change, and what stood there can be told
pub record IsTold (jobs : List (List state.Entry)) (q : Name) : Type 0 where
  pub free : IsFree q
  pub mark : (m : Marks) → IsMark (undone_all jobs m q)

pub told_by_one : (es : List state.Entry) (q : Name) → All state.IsEntry es → All (λ (e : state.Entry). IsFree e.path) es → is_path_of es q ≡ true → IsFree q × ((m : Marks) → IsMark (undone es m q))
told_by_one [] q are free is = absurd (cc is)
told_by_one (e ∷ es) q are free is = at (same_name q e.path) refl is
    (λ hit. told_by_one es q (All-tail state.IsEntry e es are) (All-tail (λ (e : state.Entry). IsFree e.path) e es free) hit)
  where
    at : (b : Bool) → same_name q e.path ≡ b → (b || is_path_of es q) ≡ true → (is_path_of es q ≡ true → IsFree q × ((m : Marks) → IsMark (undone es m q)))
        → IsFree q × ((m : Marks) → IsMark (cond b e.was (undone es m q)))
    at true same hit later = (
      subst IsFree (sym (same_means q e.path same)) (All-head (λ (e : state.Entry). IsFree e.path) e es free),
      λ m. (All-head state.IsEntry e es are).was,
    )
    at false same hit later = later hit

pub own_path : (b : Bool) (n k : ℕ) → cond b (Some n) None ≡ Some k → b ≡ true
own_path true n k is = refl
own_path false n k is = absurd (cc is)

pub told_in : (x : Tree) (n : ℕ) (after before : List TroveParts) (jobs : List (List state.Entry)) (q : Name) (k : ℕ) → HoldsRecords Two x n after jobs before → oldest_with n jobs q ≡ Some k → IsTold jobs q
told_in x n after before [] q k holds is = absurd (cc is)
told_in x n after before (es ∷ more) q k holds is = at (oldest_with (n - 1) more q) refl (λ there. told_in x (n - 1) holds.0 before more q k holds.2 there) is
  where
    at : (r : Option ℕ) → oldest_with (n - 1) more q ≡ r → (oldest_with (n - 1) more q ≡ Some k → IsTold more q) → older r (cond (is_path_of es q) (Some n) None) ≡ Some k → IsTold (es ∷ more) q
    at (Some j) is_older later one =
        let told = later (is_older ∙ one) in
        record { free = told.free; mark = λ m. told.mark (undone es m) }
    at None none later one =
        let told = told_by_one es q holds.1.text.entries_are holds.1.checks.free (own_path (is_path_of es q) n k one) in
        record { free = told.0; mark = λ m. subst IsMark (sym (none_with (n - 1) more (undone es m) q none)) (told.1 m) }

-- nothing lacks its directory once all jobs are taken back
no_orphan_left : (es : List state.Entry) (more : List (List state.Entry)) (m : Marks) → CanUndoAll (es ∷ more) m → (q : Name) → IsOrphan (undone_all (es ∷ more) m) q → ⊥
no_orphan_left es [] m can q orphan = can.0.no_orphan q orphan
no_orphan_left es (ds ∷ more) m can q orphan = no_orphan_left ds more (undone es m) can.1 q orphan

-- ---- the records

-- what holds of nothing at each record that stands
records_all : (P : Put → Type 0) (x : Tree) → ((k : ℕ) (after before : List TroveParts) (es : List state.Entry) → HoldsRecord Two x k after before es → P (no_record_put k))
    → (n : ℕ) (after before : List TroveParts) (jobs : List (List state.Entry)) → HoldsRecords Two x n after jobs before → All P (no_records (length jobs) n)
records_all P x each n after before [] holds = All-nil P
records_all P x each n after before (es ∷ more) holds =
    All-cons P (no_record_put n) (no_records (length more) (n - 1)) (each n after holds.0 es holds.1) (records_all P x each (n - 1) holds.0 before more holds.2)

record_own : (x : Tree) (k : ℕ) (after before : List TroveParts) (es : List state.Entry) → HoldsRecord Two x k after before es → IsOwnWrite x (no_record_put k)
record_own x k after before es holds = record_write x k (no_record_put k) (four_bytes k holds.text.number_fits.1) refl (no_dir (get x (record_file k)) holds.bytes holds.file) refl

-- the private directory stands where a record does
base_of : (x : Tree) (n : ℕ) (after before : List TroveParts) (jobs : List (List state.Entry)) → WellFormed x → 1 ≤ length jobs → HoldsRecords Two x n after jobs before → is_dir (get x private_directory) ≡ true
base_of x n after before [] well some holds = absurd (omega (arith, some))
base_of x n after before (es ∷ more) well some holds = subst (λ (q : Name). is_dir (get x q) ≡ true) (record_own x n after holds.0 es holds.1).parent_is
    (well.parents (record_file n) (stands (get x (record_file n)) (not_none (get x (record_file n)) holds.1.bytes holds.1.file)))

records_outside : (count n : ℕ) (q : Name) → is_reserved q ≡ false → is_target (no_records count n) q ≡ false
records_outside zero n q out = refl
records_outside (suc count) n q out = neither (same_name q (record_file n)) (is_target (no_records count (n - 1)) q) (outer_differs q (record_file n) out (record_reserved n)) (records_outside count (n - 1) q out)

-- ---- the step

module _ (x : Tree) (db : Db) (number : ℕ) (step : Back) (is : IsStepTo x db number step) (well : WellFormed x) (holds : HoldsDatabase Two x db.installed db.oldest db.newest) where
  some_jobs : 1 ≤ length is.jobs
  some_jobs =
      let count = is.jobs_are.count in
      let made = is.jobs_are.on_stack.made in
      omega (arith, count, made)

  Named : Put → Type 0
  Named p = (k : ℕ) × (oldest_with db.newest is.jobs p.path ≡ Some k) × IsOldWant x k (undone_all is.jobs (marks_of x) p.path) p.want

  named : (p : Put) → Contains is.nodes p → Named p
  unfolding Named
  named p among = All-contains (λ (p : Put). (k : ℕ) × (oldest_with db.newest is.jobs p.path ≡ Some k) × IsOldWant x k (undone_all is.jobs (marks_of x) p.path) p.want) is.nodes p is.nodes_are.old among

  wanted : (p : Put) (among : Contains is.nodes p) → (k : ℕ) × IsOldWant x k (undone_all is.jobs (marks_of x) p.path) p.want
  unfolding Named
  wanted p among = let n = named p among in (n.0, n.2)

  pub told : (p : Put) → Contains is.nodes p → IsTold is.jobs p.path
  unfolding Named
  told p among = let n = named p among in told_in x db.newest db.installed is.before is.jobs p.path n.0 is.jobs_are.holds n.1

  pub free : All (λ (p : Put). IsFree p.path) is.nodes
  free k d lt = (told (get_or is.nodes k d) (Contains-get_or is.nodes k d lt)).free

  -- the fingerprints once all jobs are taken back are those of the tree with the writes
  mark_at : (q : Name) → undone_all is.jobs (marks_of x) q ≡ fingerprint (get (with_targets is.nodes x) q)
  mark_at q = ⊎_elim
      (λ hit. let t = target_at is.nodes q hit in
      ap (undone_all is.jobs (marks_of x)) t.2 ∙ sym (wanted t.0 t.1).1.marked.marked ∙ ap fingerprint (sym (with_targets_target is.nodes x t.0 is.nodes_are.rises t.1)) ∙ ap (λ (n : Name). fingerprint (get (with_targets is.nodes x) n)) (sym t.2))
      (λ miss. at miss (oldest_with db.newest is.jobs q) refl ∙ ap fingerprint (sym (with_targets_outside is.nodes x q miss)))
      (cases_Bool (is_target is.nodes q))
    where
      at : is_target is.nodes q ≡ false → (r : Option ℕ) → oldest_with db.newest is.jobs q ≡ r → undone_all is.jobs (marks_of x) q ≡ fingerprint (get x q)
      at miss None none = none_with db.newest is.jobs (marks_of x) q none
      at miss (Some k) has = ⊎_elim
          (λ still. still.wanted ∙ ap fingerprint (sym still.there))
          (λ write. not_both (is_target is.nodes q) (is_target-from is.nodes (record { path = q; want = write.0 }) write.1) miss)
          (is.nodes_are.all q k has)

  node_at : (p : Put) → Contains is.nodes p → may_stand (node_of p.want) ≡ true
  node_at p among =
      let w = wanted p among in
      may_be x w.0 p.want well (subst IsMark (sym w.1.marked.marked) ((told p among).mark (marks_of x))) w.1.bytes

  unpinned : (q : Name) → is_pinned q ≡ true → is_target is.nodes q ≡ false
  unpinned q pinned = ⊎_elim
      (λ hit. let t = target_at is.nodes q hit in not_both (is_pinned q) pinned (ap is_pinned t.2 ∙ (told t.0 t.1).free.not_pinned))
      (λ no. no)
      (cases_Bool (is_target is.nodes q))

  no_orphan : (q : Name) → IsOrphan (undone_all is.jobs (marks_of x)) q → ⊥
  no_orphan q = at is.jobs some_jobs is.jobs_are.can
    where
      at : (jobs : List (List state.Entry)) → 1 ≤ length jobs → CanUndoAll jobs (marks_of x) → IsOrphan (undone_all jobs (marks_of x)) q → ⊥
      at [] some can orphan = absurd (omega (arith, some))
      at (es ∷ more) some can orphan = no_orphan_left es more (marks_of x) can q orphan

  nodes_formed : WellFormed (with_targets is.nodes x)
  nodes_formed = record {
    paths = λ q some. ⊎_elim
        (λ hit. let t = target_at is.nodes q hit in ap is_path t.2 ∙ (told t.0 t.1).free.path_is)
        (λ no. well.paths q (ap is_some (sym (with_targets_outside is.nodes x q no)) ∙ some))
        (cases_Bool (is_target is.nodes q));
    root_stands = ap is_dir (with_targets_outside is.nodes x root (unpinned root refl)) ∙ well.root_stands;
    parents = λ q some. ⊎_elim
        (λ dir. dir)
        (λ no. absurd (no_orphan q (
          λ nothing. there (get (with_targets is.nodes x) q) some (none_told (get (with_targets is.nodes x) q) (sym (mark_at q) ∙ nothing)),
          ap marks.is_dir (mark_at (parent q)) ∙ dir_told (get (with_targets is.nodes x) (parent q)) ∙ no,
        )))
        (cases_Bool (is_dir (get (with_targets is.nodes x) (parent q))));
    nodes = λ q. ⊎_elim
        (λ hit. let t = target_at is.nodes q hit in
        ap (λ (n : Name). may_stand (get (with_targets is.nodes x) n)) t.2 ∙ ap may_stand (with_targets_target is.nodes x t.0 is.nodes_are.rises t.1) ∙ node_at t.0 t.1)
        (λ no. ap may_stand (with_targets_outside is.nodes x q no) ∙ well.nodes q)
        (cases_Bool (is_target is.nodes q));
  }

  -- ---- all writes

  own_all : (P : Put → Type 0) → P (put_of_db step.db) → ((k : ℕ) (after before : List TroveParts) (es : List state.Entry) → HoldsRecord Two x k after before es → P (no_record_put k)) → All P (put_of_db step.db ∷ no_records (length is.jobs) db.newest)
  own_all P first each = All-cons P (put_of_db step.db) (no_records (length is.jobs) db.newest) first (records_all P x each db.newest db.installed is.before is.jobs is.jobs_are.holds)

  -- what holds of the writes of both lists holds of all
  all_of : (P : Put → Type 0) → All P is.nodes → All P (put_of_db step.db ∷ no_records (length is.jobs) db.newest) → All P step.puts
  all_of P some more k d lt = ⊎_elim
      (λ a. All-contains P is.nodes (get_or step.puts k d) some a)
      (λ b. All-contains P (put_of_db step.db ∷ no_records (length is.jobs) db.newest) (get_or step.puts k d) more b)
      (is.writes.no_other k d lt)

  pub in_private : (q : Name) → is_reserved q ≡ false → is_target (put_of_db step.db ∷ no_records (length is.jobs) db.newest) q ≡ false
  in_private q out = neither (same_name q database) (is_target (no_records (length is.jobs) db.newest) q) (outer_differs q database out database_reserved) (records_outside (length is.jobs) db.newest q out)

  outer_is : (q : Name) → is_reserved q ≡ false → get (with_targets step.puts x) q ≡ get (with_targets is.nodes x) q
  outer_is q out = wrote_alike step.puts is.nodes (put_of_db step.db ∷ no_records (length is.jobs) db.newest) is.writes x x q (λ hit p among. with_targets_target is.nodes x p is.nodes_are.rises among) (in_private q out) refl

  -- no other name outside the private directory is a target
  pub not_target_to : (q : Name) → is_reserved q ≡ false → is_target is.nodes q ≡ false → is_target step.puts q ≡ false
  not_target_to q out other = ⊎_elim
      (λ hit. let p = target_at step.puts q hit in ⊎_elim
      (λ among. not_both (is_target is.nodes q) (ap (is_target is.nodes) p.2 ∙ is_target-from is.nodes p.0 among) other)
      (λ among. not_both (is_target (put_of_db step.db ∷ no_records (length is.jobs) db.newest) q) (ap (is_target (put_of_db step.db ∷ no_records (length is.jobs) db.newest)) p.2 ∙ is_target-from (put_of_db step.db ∷ no_records (length is.jobs) db.newest) p.0 among) (in_private q out))
      (All-contains (λ (p : Put). Contains is.nodes p ⊎ Contains (put_of_db step.db ∷ no_records (length is.jobs) db.newest) p) step.puts p.0 is.writes.no_other p.1))
      (λ no. no)
      (cases_Bool (is_target step.puts q))

  puttable : IsPuttable is.nodes (put_of_db step.db ∷ no_records (length is.jobs) db.newest) step.puts x (with_targets is.nodes x)
  puttable = record {
    writes = is.writes;
    free = free;
    own = own_all (IsOwnWrite x) (database_write x (put_of_db step.db) refl (no_database_dir x db holds) (is_node-File 420 _ (lit≤ tt) is.bytes)) (λ k after before es held. record_own x k after before es held);
    paths = all_of (λ (p : Put). IsTrue (is_path p.path)) (λ k d lt. (free k d lt).path_is)
        (own_all (λ (p : Put). IsTrue (is_path p.path)) database_is_path (λ k after before es held. record_is_path k (four_bytes k held.text.number_fits.1)));
    stands = all_of (λ (p : Put). p.want ≡ want.Nothing → get x p.path ≢ None) is.nodes_are.stands
        (own_all (λ (p : Put). p.want ≡ want.Nothing → get x p.path ≢ None) (λ nothing. absurd (cc nothing)) (λ k after before es held nothing. not_none (get x (record_file k)) held.bytes held.file));
    well_formed = well;
    base = base_of x db.newest db.installed is.before is.jobs well some_jobs is.jobs_are.holds;
    managed = outer_is;
    managed_formed = nodes_formed;
  }

  given : All (λ (p : Put). is_staged p.want ≡ false) step.puts
  given = all_of (λ (p : Put). is_staged p.want ≡ false) (λ k d lt. (wanted (get_or is.nodes k d) (Contains-get_or is.nodes k d lt)).1.marked.given)
      (own_all (λ (p : Put). is_staged p.want ≡ false) refl (λ k after before es held. refl))

  -- the root may write it
  pub can_write_to : {D : Type 0} (disk : DiskModel D) (old mid : D) → MayRollBack disk db old → disk.reads mid ≡ disk.reads old → ((q : Name) → disk.unsynced mid q ≡ disk.unsynced old q) → x ≡ disk.reads old
      → CanWrite disk step.puts mid
  can_write_to disk old mid ready same settled here = record {
    flag_clear = subst (λ (y : Tree). is_committed private_directory y ≡ false) (sym same) ready.flag_clear;
    flag_synced = settled (gate private_directory) ∙ ready.synced (gate private_directory);
    given = given;
    some = is.nodes;
    more = put_of_db step.db ∷ no_records (length is.jobs) db.newest;
    managed = with_targets is.nodes x;
    puttable = subst (λ (y : Tree). IsPuttable is.nodes (put_of_db step.db ∷ no_records (length is.jobs) db.newest) step.puts y (with_targets is.nodes x)) (here ∙ sym same) puttable;
  }
