-- The writes of a migration, on a root of format 1.
use Rattle.std.proofs.Common.{◌≡◌, ◌≢◌, inl, inr, ⊎_elim, ℕ, zero, suc, ◌+◌, ◌-◌, ◌≤◌, true, false, IsTrue, List, [], ◌∷◌, length, get_or, Option, Some, None, is_some, All, Contains, refl, sym, ◌∙◌, ap, subst, arith}
use Rattle.std.proofs.lemmas.Bool.{cases_Bool}
use Rattle.std.proofs.lemmas.List.Elements.{All-cons, All-contains, All-head, All-nil, All-tail, Contains-get_or}
use Rattle.std.specs.FinMap.{get}
use Rattle.rollback_stack.specs.cny-base.Path.{is_path}
use Rattle.rollback_stack.specs.cny-base.Reserved.{private_directory, is_reserved}
use Rattle.rollback_stack.specs.cny-base.declared.node.Node.{Node}
use Rattle.rollback_stack.specs.cny-base.declared.node.Node.TheVariants as node
use Rattle.rollback_stack.specs.content-store.Store.{file_bytes}
use Rattle.rollback_stack.specs.journal-log.declared.put.Put.{Put}
use Rattle.rollback_stack.specs.journal-log.declared.put.Want.TheVariants as want
use Rattle.rollback_stack.specs.journal-log.Own.{gate}
use Rattle.rollback_stack.specs.journal-log.Targets.{is_target, node_of}
use Rattle.rollback_stack.specs.trove-stream.declared.parts.TroveParts.{TroveParts}
use Rattle.rollback_stack.specs.tree-disk.Disk.{DiskModel}
use Rattle.rollback_stack.specs.tree-disk.Tree.{Name, Tree, WellFormed, is_dir, may_stand}
use Rattle.job_targets.specs.Old.{is_staged}
use Rattle.local_db.specs.Formats.{database_bytes}
use Rattle.local_db.specs.Names.{database, record_file}
use Rattle.local_db.specs.Record as state
use Rattle.local_db.specs.Record.{IsRecord}
use Rattle.local_db.specs.Stores.{HoldsDatabase, HoldsItem, HoldsStack, StoresIn, StoresSystem, absent, written}
use Rattle.local_db.specs.SystemState.{AreNumbered, IsFree, IsStackItem, StackItem, SystemState, newest, oldest}
use Rattle.local_db.specs.Steps.{AreMigrated, IsMigration, IsOwnWrite, IsPuttable, IsUnion, database_put, record_put}
use Rattle.local_db.specs.declared.format.Format.{Format}
use Rattle.local_db.specs.declared.format.Format.TheVariants.{One, Two}
use Rattle.local_db.proofs.FileNames.{database_is_path, record_is_path}
use Rattle.local_db.proofs.Other.{checks_law}
use Rattle.local_db.proofs.Places.{database_reserved, database_write, record_reserved, record_write}
use Rattle.local_db.proofs.Systems.{four_bytes, low_at_least, numbers_by_length}
use Rattle.local_db.proofs.Writes.{not_both}
use Rattle.tree_journal.specs.Recovery.{is_committed}
use Rattle.rollback_stack.specs.JobReading.{HoldsRecord, HoldsRecords}
use Rattle.system_core.specs.RootWriting.{CanWrite}
use Rattle.rollback_stack.specs.Numbers.{job_count}
use Rattle.rollback_stack.specs.Migrated.{AreMigration, AreRewritten, IsDamagedFile, is_up_to_date}
use Rattle.system_core.specs.Opening.{IsSettledRoot}
use Rattle.system_core.proofs.Held.{OneDatabase}
use Rattle.tree_journal.proofs.WriteSets.{target_at, with_targets_outside}
use Rattle.local_db.proofs.cny-base.Lists.{contains_cases, contains_first, contains_rest, nothing_in}
use Rattle.system_core.proofs.JobEnding.{is_file_or_none as no_dir}
use Rattle.local_db.proofs.OneSystem.{empty_stack as no_jobs}
use Rattle.local_db.proofs.cny-base.OptionValues.{same_some}

abbrev pub OneRecord : Type 0
OneRecord = (f : Format) (x : Tree) (n : ℕ) (after before other : List TroveParts) (es ds : List state.Entry)
    → HoldsRecord f x n after before es → HoldsRecord f x n after other ds → (before ≡ other) × (es ≡ ds)

-- ---- the writes of the records

-- they are numbered from this one down
abbrev pub AreFrom : ℕ → List StackItem → Type 0
AreFrom n [] = Unit {0}
AreFrom n (o ∷ olds) = (o.number ≡ n) × AreFrom (n - 1) olds

pub from_newest : (stack : List StackItem) → AreNumbered stack → AreFrom (newest stack) stack
from_newest [] numbered = tt
from_newest (o ∷ []) numbered = (refl, tt)
from_newest (o ∷ p ∷ olds) numbered =
    let next = numbered.0 in
    let less : p.number ≡ o.number - 1 = omega (arith, next) in
    (refl, subst (λ (n : ℕ). AreFrom n (p ∷ olds)) less (from_newest (p ∷ olds) numbered.1))

-- what holds of the write of each record holds of all
rewritten_all : (P : Put → Type 0) (x : Tree) → ((n : ℕ) (after before : List TroveParts) (es : List state.Entry) (mode : ℕ) (bytes : List ℕ) → HoldsRecord One x n after before es → P (record_put n mode bytes))
    → (count number : ℕ) (after : List TroveParts) (records : List Put) → AreRewritten x count number after records → All P records
rewritten_all P x each zero number after [] are = All-nil P
rewritten_all P x each zero number after (p ∷ puts) are = absurd are
rewritten_all P x each (suc count) number after [] are = absurd are
rewritten_all P x each (suc count) number after (p ∷ puts) are =
    All-cons P p puts (subst P (sym are.6) (each number after are.0 are.1 are.2 are.3 are.4)) (rewritten_all P x each count (number - 1) are.0 puts are.7)

some_file : (n : Option Node) (bytes : List ℕ) → file_bytes n ≡ Some bytes → is_some n ≡ true
some_file None bytes is = absurd (cc is)
some_file (Some n) bytes is = refl

-- ---- what is to be brought to format 2

-- a database that isn't up to date is written
pub not_absent : (x : Tree) → is_up_to_date (get x database) ≡ false → get x database ≡ None → ⊥
not_absent x old none = absurd (cc (sym (ap is_up_to_date none) ∙ old))

-- one of format 1 is not up to date
pub file_is_old : (x : Tree) (list : List TroveParts) (low high : ℕ) → file_bytes (get x database) ≡ Some (database_bytes One list low high) → is_up_to_date (get x database) ≡ false
file_is_old x list low high = at (get x database)
  where
    at : (n : Option Node) → file_bytes n ≡ Some (database_bytes One list low high) → is_up_to_date n ≡ false
    at None is = absurd (cc is)
    at (Some (node.Dir mode)) is = absurd (cc is)
    at (Some (node.Link target)) is = absurd (cc is)
    at (Some (node.File mode bytes)) is =
        let same : bytes ≡ database_bytes One list low high = cc is in
        ap (λ (l : List ℕ). is_up_to_date (Some (node.File mode l))) same

-- one of format 2 is
pub file_is_new : (x : Tree) (list : List TroveParts) (low high : ℕ) → file_bytes (get x database) ≡ Some (database_bytes Two list low high) → is_up_to_date (get x database) ≡ true
file_is_new x list low high = at (get x database)
  where
    at : (n : Option Node) → file_bytes n ≡ Some (database_bytes Two list low high) → is_up_to_date n ≡ true
    at None is = absurd (cc is)
    at (Some (node.Dir mode)) is = absurd (cc is)
    at (Some (node.Link target)) is = absurd (cc is)
    at (Some (node.File mode bytes)) is =
        let same : bytes ≡ database_bytes Two list low high = cc is in
        ap (λ (l : List ℕ). is_up_to_date (Some (node.File mode l))) same

-- the file of the database that is to be brought to format 2
held_file : (x : Tree) (puts : List Put) → is_up_to_date (get x database) ≡ false → (m : AreMigration x puts) → file_bytes (get x database) ≡ Some (database_bytes One m.list m.oldest m.newest)
held_file x puts old m = at m.holds
  where
    at : HoldsDatabase One x m.list m.oldest m.newest → file_bytes (get x database) ≡ Some (database_bytes One m.list m.oldest m.newest)
    at (absent none list low high) = absurd (not_absent x old none)
    at (written is file) = file

-- the writes of the database and of the records, with none of others
pub all_union : (puts records : List Put) (q : Put) → IsUnion puts (q ∷ []) records → IsUnion puts [] (q ∷ records)
all_union puts records q u = record {
  rises = u.rises;
  some_in = All-nil (Contains puts);
  more_in = All-cons (Contains puts) q records (All-head (Contains puts) q [] u.some_in) u.more_in;
  no_other = λ k d lt. ⊎_elim
      (λ a. ⊎_elim (λ same. inr (subst (Contains (q ∷ records)) same (contains_first q records))) (λ none. absurd (nothing_in (get_or puts k d) none)) (contains_cases q (get_or puts k d) [] a))
      (λ b. inr (contains_rest q (get_or puts k d) records b))
      (u.no_other k d lt);
}

-- ---- the writes may be put

module _ (x : Tree) (puts : List Put) (old : is_up_to_date (get x database) ≡ false) (m : AreMigration x puts) where
  in_puts : (p : Put) → Contains m.records p → Contains puts p
  in_puts p among = All-contains (Contains puts) m.records p m.writes.more_in among

  -- what holds of the database's write and of those of the records holds of all
  all_of : (P : Put → Type 0) → P (record { path = database; want = want.File m.mode (database_bytes Two m.list m.oldest m.newest) }) → All P m.records → All P puts
  all_of P first records k d lt = ⊎_elim
      (λ a. ⊎_elim (λ same. subst P same first) (λ none. absurd (nothing_in (get_or puts k d) none)) (contains_cases (record { path = database; want = want.File m.mode (database_bytes Two m.list m.oldest m.newest) }) (get_or puts k d) [] a))
      (λ b. All-contains P m.records (get_or puts k d) records b)
      (m.writes.no_other k d lt)

  all_records : (P : Put → Type 0) → ((n : ℕ) (after before : List TroveParts) (es : List state.Entry) (mode : ℕ) (bytes : List ℕ) → HoldsRecord One x n after before es → P (record_put n mode bytes)) → All P m.records
  all_records P each = rewritten_all P x each (job_count m.oldest m.newest) m.newest m.list m.records m.rewritten

  union : IsUnion puts [] (record { path = database; want = want.File m.mode (database_bytes Two m.list m.oldest m.newest) } ∷ m.records)
  union = all_union puts m.records (record { path = database; want = want.File m.mode (database_bytes Two m.list m.oldest m.newest) }) m.writes

  reserved : All (λ (p : Put). is_reserved p.path ≡ true) puts
  reserved = all_of (λ (p : Put). is_reserved p.path ≡ true) database_reserved (all_records (λ (p : Put). is_reserved p.path ≡ true) (λ n after before es mode bytes held. record_reserved n))

  -- no name outside the private directory is written
  pub not_outer : (q : Name) → is_reserved q ≡ false → is_target puts q ≡ false
  not_outer q out = ⊎_elim
      (λ hit. let t = target_at puts q hit in not_both (is_reserved q) (ap is_reserved t.2 ∙ All-contains (λ (p : Put). is_reserved p.path ≡ true) puts t.0 reserved t.1) out)
      (λ miss. miss)
      (cases_Bool (is_target puts q))

  given : All (λ (p : Put). is_staged p.want ≡ false) puts
  given = all_of (λ (p : Put). is_staged p.want ≡ false) refl (all_records (λ (p : Put). is_staged p.want ≡ false) (λ n after before es mode bytes held. refl))

  module _ (well : WellFormed x) (nodes : All (λ (p : Put). IsTrue (may_stand (node_of p.want))) puts) where
    node_at : (p : Put) → Contains puts p → may_stand (node_of p.want) ≡ true
    node_at p among = All-contains (λ (p : Put). IsTrue (may_stand (node_of p.want))) puts p nodes among

    own_records : All (IsOwnWrite x) m.records
    own_records = both (λ (p : Put). (node_ : may_stand (node_of p.want) ≡ true) → IsOwnWrite x p) m.records
        (all_records (λ (p : Put). may_stand (node_of p.want) ≡ true → IsOwnWrite x p)
        (λ n after before es mode bytes held stands. record_write x n (record_put n mode bytes) (four_bytes n held.text.number_fits.1) refl (no_dir (get x (record_file n)) held.bytes held.file) stands))
        (λ p among. node_at p (in_puts p among))
      where
        both : (Q : Put → Type 0) (l : List Put) → All (λ (p : Put). may_stand (node_of p.want) ≡ true → IsOwnWrite x p) l → ((p : Put) → Contains l p → may_stand (node_of p.want) ≡ true) → All (IsOwnWrite x) l
        both Q l each stands k d lt = each k d lt (stands (get_or l k d) (Contains-get_or l k d lt))

    own : All (IsOwnWrite x) (record { path = database; want = want.File m.mode (database_bytes Two m.list m.oldest m.newest) } ∷ m.records)
    own = All-cons (IsOwnWrite x) _ m.records
        (database_write x _ refl (no_dir (get x database) _ (held_file x puts old m)) (node_at _ (All-head (Contains puts) _ [] m.writes.some_in)))
        own_records

    puttable : IsPuttable [] (record { path = database; want = want.File m.mode (database_bytes Two m.list m.oldest m.newest) } ∷ m.records) puts x x
    puttable = record {
      writes = union;
      free = All-nil (λ (p : Put). IsFree p.path);
      own = own;
      paths = all_of (λ (p : Put). IsTrue (is_path p.path)) database_is_path (all_records (λ (p : Put). IsTrue (is_path p.path)) (λ n after before es mode bytes held. record_is_path n (four_bytes n held.text.number_fits.1)));
      stands = all_of (λ (p : Put). p.want ≡ want.Nothing → get x p.path ≢ None) (λ nothing. absurd (cc nothing)) (all_records (λ (p : Put). p.want ≡ want.Nothing → get x p.path ≢ None) (λ n after before es mode bytes held nothing. absurd (cc nothing)));
      well_formed = well;
      base = subst (λ (q : Name). is_dir (get x q) ≡ true) (All-head (IsOwnWrite x) _ m.records own).parent_is (well.parents database (some_file (get x database) _ (held_file x puts old m)));
      managed = λ q out. with_targets_outside puts x q (not_outer q out);
      managed_formed = well;
    }

    pub can_write : {D : Type 0} (disk : DiskModel D) (d mid : D) → IsSettledRoot disk d → disk.reads mid ≡ disk.reads d → ((q : Name) → disk.unsynced mid q ≡ disk.unsynced d q) → x ≡ disk.reads d → CanWrite disk puts mid
    can_write disk d mid rest same settled here = record {
      flag_clear = subst (λ (y : Tree). is_committed private_directory y ≡ false) (sym same) rest.flag_clear;
      flag_synced = settled (gate private_directory) ∙ rest.synced (gate private_directory);
      given = given;
      some = [];
      more = record { path = database; want = want.File m.mode (database_bytes Two m.list m.oldest m.newest) } ∷ m.records;
      managed = x;
      puttable = subst (λ (y : Tree). IsPuttable [] (record { path = database; want = want.File m.mode (database_bytes Two m.list m.oldest m.newest) } ∷ m.records) puts y x) (here ∙ sym same) puttable;
    }

-- ---- by a system

job_of : (x : Tree) (n : ℕ) (list : List TroveParts) (o : StackItem) → HoldsItem One x list o → IsStackItem o → o.number ≡ n → HoldsRecord One x n list o.list (state.entries_of o)
job_of x n list o held item number_is = subst (λ (k : ℕ). HoldsRecord One x k list o.list (state.entries_of o)) number_is
    (record { bytes = held.bytes; file = held.file; text = held.text; checks = checks_law One x list o item held })

-- the records that were rewritten are those of the stack
pub migrated_of : OneRecord → (x : Tree) (n : ℕ) (after : List TroveParts) (stack : List StackItem) (records : List Put) → HoldsStack One x after stack → All IsStackItem stack → AreFrom n stack
    → AreRewritten x (length stack) n after records → AreMigrated after stack records
migrated_of one x n after [] [] held items from are = tt
migrated_of one x n after [] (p ∷ puts) held items from are = absurd are
migrated_of one x n after (o ∷ olds) [] held items from are = absurd are
migrated_of one x n after (o ∷ olds) (p ∷ puts) held items from are =
    let mine = job_of x n after o held.0 (All-head IsStackItem o olds items) from.0 in
    let same = one One x n after are.0 o.list are.1 (state.entries_of o) are.4 mine in
    let text = subst (λ (l : List TroveParts). IsRecord Two n l after (state.entries_of o) are.3) same.0 (subst (λ (es : List state.Entry). IsRecord Two n are.0 after es are.3) same.1 are.5) in (
      (are.2, are.3, are.6 ∙ ap (λ (k : ℕ). record_put k are.2 are.3) (sym from.0), subst (λ (k : ℕ). IsRecord Two k o.list after (state.entries_of o) are.3) (sym from.0) text),
      migrated_of one x (n - 1) o.list olds puts held.1 (All-tail IsStackItem o olds items) from.1 (subst (λ (l : List TroveParts). AreRewritten x (length olds) (n - 1) l puts) same.0 are.7),
    )

pub counted : (low high long : ℕ) → 1 ≤ low → high ≡ low + long → job_count low high ≡ long + 1
counted zero high long some far = absurd (omega (arith, some))
counted (suc below) high long some far = omega (arith, far)

pub count_of : (stack : List StackItem) → AreNumbered stack → job_count (oldest stack) (newest stack) ≡ length stack
count_of [] numbered = refl
count_of (o ∷ olds) numbered =
    let far = numbers_by_length o olds numbered in
    let all = counted (oldest (o ∷ olds)) o.number (length olds) (low_at_least o olds numbered) (sym far) in
    omega (arith, all)

-- the writes are the migration of each system that the root stores
pub is_migration : OneDatabase → OneRecord → (x : Tree) (puts : List Put) (s : SystemState) → is_up_to_date (get x database) ≡ false → AreMigration x puts → StoresIn One x s → IsMigration s puts
is_migration one_db one x puts s old m stores = by stores.list
  where
    by : HoldsDatabase One x s.installed (oldest s.stack) (newest s.stack) → IsMigration s puts
    by (absent none list low high) = absurd (not_absent x old none)
    by (written is file) = at m.holds
      where
        at : HoldsDatabase One x m.list m.oldest m.newest → IsMigration s puts
        at (absent none list low high) = absurd (not_absent x old none)
        at (written its too) =
            let same = one_db One One m.list s.installed m.oldest m.newest (oldest s.stack) (newest s.stack) its is (same_some _ _ (sym too ∙ file)) in
            let count : job_count m.oldest m.newest ≡ length s.stack = (λ i. job_count (same.oldest i) (same.newest i)) ∙ count_of s.stack stores.system.numbered in
            let records : AreRewritten x (length s.stack) (newest s.stack) s.installed m.records =
            subst (λ (l : List TroveParts). AreRewritten x (length s.stack) (newest s.stack) l m.records) same.lists
            (subst (λ (n : ℕ). AreRewritten x (length s.stack) n m.list m.records) same.newest
            (subst (λ (c : ℕ). AreRewritten x c m.newest m.list m.records) count m.rewritten)) in
            let data_ : record { path = database; want = want.File m.mode (database_bytes Two m.list m.oldest m.newest) } ≡ database_put Two m.mode s =
            λ i. record { path = database; want = want.File m.mode (database_bytes Two (same.lists i) (same.oldest i) (same.newest i)) } in
            record {
              records = m.records;
              migrated = migrated_of one x (newest s.stack) s.installed s.stack m.records stores.olds stores.system.olds (from_newest s.stack stores.system.numbered) records;
              database_mode = m.mode;
              writes = subst (λ (p : Put). IsUnion puts [] (p ∷ m.records)) data_ (all_union puts m.records _ m.writes);
            }

-- ---- a root that is up to date

-- it stores its systems in format 2
pub in_two : (x : Tree) (s : SystemState) → is_up_to_date (get x database) ≡ true → StoresSystem x s → StoresIn Two x s
in_two x s new (inr two) = two
in_two x s new (inl one) = record { system = one.system; managed = one.managed; list = by one.list; olds = olds_by one.list }
  where
    by : HoldsDatabase One x s.installed (oldest s.stack) (newest s.stack) → HoldsDatabase Two x s.installed (oldest s.stack) (newest s.stack)
    by (absent none list low high) = absent none list low high
    by (written is file) = absurd (cc (new, file_is_old x s.installed (oldest s.stack) (newest s.stack) file))

    olds_by : HoldsDatabase One x s.installed (oldest s.stack) (newest s.stack) → HoldsStack Two x s.installed s.stack
    olds_by (absent none list low high) = subst (HoldsStack Two x s.installed) (sym (no_jobs s.stack one.system.numbered high)) tt
    olds_by (written is file) = absurd (cc (new, file_is_old x s.installed (oldest s.stack) (newest s.stack) file))

-- ---- nothing of a root that stores a system is damaged

-- below the records that were read there is the next one
next_record : OneRecord → (x : Tree) (n : ℕ) (list before : List TroveParts) (good : List (List state.Entry)) (stack : List StackItem) → HoldsStack One x list stack → All IsStackItem stack → AreFrom n stack
    → length good + 1 ≤ length stack → HoldsRecords One x n list good before → (o : StackItem) × HoldsRecord One x (n - length good) before o.list (state.entries_of o)
next_record one x n list before [] [] held items from few holds = absurd (omega (arith, few))
next_record one x n list before [] (o ∷ olds) held items from few holds =
    let all : n ≡ n - 0 = omega arith in (
      o,
      subst (λ (k : ℕ). HoldsRecord One x k before o.list (state.entries_of o)) all
          (subst (λ (l : List TroveParts). HoldsRecord One x n l o.list (state.entries_of o)) (sym holds) (job_of x n list o held.0 (All-head IsStackItem o olds items) from.0)),
    )
next_record one x n list before (es ∷ more) [] held items from few holds = absurd (omega (arith, few))
next_record one x n list before (es ∷ more) (o ∷ olds) held items from few holds =
    let same = one One x n list holds.0 o.list es (state.entries_of o) holds.1 (job_of x n list o held.0 (All-head IsStackItem o olds items) from.0) in
    let rest = next_record one x (n - 1) o.list before more olds held.1 (All-tail IsStackItem o olds items) from.1 (omega (arith, few)) (subst (λ (l : List TroveParts). HoldsRecords One x (n - 1) l more before) same.0 holds.2) in
    let less : n - 1 - length more ≡ n - length (es ∷ more) = omega arith in
    (rest.0, subst (λ (k : ℕ). HoldsRecord One x k before rest.0.list (state.entries_of rest.0)) less rest.1)

-- what a system of format 2 has is up to date
two_is_new : (x : Tree) (s : SystemState) → StoresIn Two x s → is_up_to_date (get x database) ≡ true
two_is_new x s two = at two.list
  where
    at : HoldsDatabase Two x s.installed (oldest s.stack) (newest s.stack) → is_up_to_date (get x database) ≡ true
    at (absent none list low high) = ap is_up_to_date none
    at (written is file) = file_is_new x s.installed (oldest s.stack) (newest s.stack) file

-- what isn't up to date is stored in format 1
pub in_one : (x : Tree) (s : SystemState) → is_up_to_date (get x database) ≡ false → StoresSystem x s → StoresIn One x s
in_one x s old (inl one) = one
in_one x s old (inr two) = absurd (cc (old, two_is_new x s two))

pub none_damaged : OneDatabase → OneRecord → (x : Tree) (s : SystemState) (path : Name) → StoresSystem x s → IsDamagedFile x path → ⊥
none_damaged one_db one x s path stores (inl none) =
    let one_ = in_one x s none.old stores in
    none.none s.installed (oldest s.stack) (newest s.stack) one_.list
none_damaged one_db one x s path stores (inr damaged) = at damaged.1
  where
    at : HoldsDatabase One x damaged.0.installed damaged.0.oldest damaged.0.newest → ⊥
    at (absent none list low high) =
        let fewer = damaged.2.fewer in
        let nothing : job_count damaged.0.oldest damaged.0.newest ≡ 0 = ap (λ (k : ℕ). job_count k damaged.0.newest) low in
        absurd (omega (arith, fewer, nothing))
    at (written is file) = by one_.list
      where
        one_ : StoresIn One x s
        one_ = in_one x s (file_is_old x damaged.0.installed damaged.0.oldest damaged.0.newest file) stores

        by : HoldsDatabase One x s.installed (oldest s.stack) (newest s.stack) → ⊥
        by (absent none list low high) = absurd (cc (file, ap file_bytes none))
        by (written its too) =
            let same = one_db One One damaged.0.installed s.installed damaged.0.oldest damaged.0.newest (oldest s.stack) (newest s.stack) is its (same_some _ _ (sym file ∙ too)) in
            let count : job_count damaged.0.oldest damaged.0.newest ≡ length s.stack = (λ i. job_count (same.oldest i) (same.newest i)) ∙ count_of s.stack one_.system.numbered in
            let fewer = damaged.2.fewer in
            let next = next_record one x (newest s.stack) s.installed damaged.2.before damaged.2.good s.stack one_.olds one_.system.olds (from_newest s.stack one_.system.numbered) (omega (arith, count, fewer))
            (subst (λ (n : ℕ). HoldsRecords One x n s.installed damaged.2.good damaged.2.before) same.newest (subst (λ (l : List TroveParts). HoldsRecords One x damaged.0.newest l damaged.2.good damaged.2.before) same.lists damaged.2.holds)) in
            damaged.2.none next.0.list (state.entries_of next.0)
            (subst (λ (n : ℕ). HoldsRecord One x (n - length damaged.2.good) damaged.2.before next.0.list (state.entries_of next.0)) (sym same.newest) next.1)
