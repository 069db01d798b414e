-- What a job and a rollback make of a system.
use Rattle.std.specs.Prelude.{◌≡◌, ◌≢◌, ◌⊎◌, ℕ, ◌+◌, ◌-◌, ◌≤◌, Bool, nat_lt, ◌||◌, ◌&&◌, true, false, IsTrue, List, [], ◌∷◌, ◌++◌, map, take, Option, Some, None, All, Contains}
use Rattle.std.specs.FinMap.{get}
use Rattle.trove_stream.specs.cny-base.Path.{is_path, parent}
use Rattle.trove_stream.specs.cny-base.declared.limits.TheConstants.{JOBS_LIMIT, STACK_LIMIT}
use Rattle.trove_stream.specs.cny-base.Reserved.{private_directory, is_reserved}
use Rattle.trove_stream.specs.cny-base.declared.node.Node.{Node}
use Rattle.trove_stream.specs.cny-base.declared.node.Node.TheVariants as node
use Rattle.trove_stream.specs.declared.parts.TroveParts.{TroveParts}
use Rattle.tree_journal.specs.tree-disk.Tree.{Name, Tree, same_name, is_dir, may_stand, WellFormed, AgreesOutside}
use Rattle.tree_journal.specs.journal-log.declared.put.Want.{Want}
use Rattle.tree_journal.specs.journal-log.declared.put.Want.TheVariants as want
use Rattle.tree_journal.specs.journal-log.declared.put.Put.{Put}
use Rattle.tree_journal.specs.journal-log.Own.{is_own}
use Rattle.tree_journal.specs.journal-log.WriteSet.{Rises}
use Rattle.tree_journal.specs.journal-log.Targets.{node_of, with_targets}
use Rattle.tree_scan.specs.Marks.{fingerprint}
use Rattle.local_db.specs.MarkBytes.{IsMark}
use Rattle.local_db.specs.Installed.{IsInstalled}
use Rattle.local_db.specs.declared.format.Format.{Format}
use Rattle.local_db.specs.declared.format.Format.TheVariants.{Two}
use Rattle.local_db.specs.Formats.{database_bytes, Fits}
use Rattle.local_db.specs.SystemState.{StackItem, SystemState, newest, oldest, is_listed, IsFree, IsTellable}
use Rattle.local_db.specs.Names.{database, record_file, is_job_place, counts}
use Rattle.local_db.specs.Record.{entries_of, IsRecord}
use Rattle.local_db.specs.Stores.{HoldsSaved}

-- ---- jobs

abbrev pub paths_of : List Put → List Name
paths_of puts = map (λ (p : Put). p.path) puts

-- the item that a job with these targets leaves on the stack
abbrev pub old_of : List Put → SystemState → StackItem
old_of puts s = record { number = newest s.stack + 1; before = s.tree; after = with_targets puts s.tree; list = s.installed; paths = paths_of puts }

-- the newest job, and of the others no more than a stack has room for: where there are too many, the oldest is dropped
abbrev pub pushed : StackItem → List StackItem → List StackItem
pushed o olds = o ∷ take (STACK_LIMIT - 1) olds

-- a job with these targets and this new list
abbrev pub after_job : List Put → List TroveParts → SystemState → SystemState
after_job puts list s = record { tree = with_targets puts s.tree; installed = list; stack = pushed (old_of puts s) s.stack }

-- What the tests of a job have shown of its targets, in the managed tree, and of the list after it.
pub record CanJob (puts : List Put) (list : List TroveParts) (s : SystemState) : Type 0 where
  pub rises : Rises puts
  pub free : All (λ (p : Put). IsFree p.path) puts
  pub changes : All (λ (p : Put). get s.tree p.path ≢ node_of p.want) puts
  pub before : All (λ (p : Put). IsTellable (get s.tree p.path)) puts
  pub after : All (λ (p : Put). IsMark (fingerprint (node_of p.want))) puts
  pub well_formed : WellFormed (with_targets puts s.tree)
  pub list_is : IsInstalled list
  pub fits : Fits Two list
  pub number : newest s.stack + 1 ≤ JOBS_LIMIT

-- The names at which a job writes before its write set, the stack being the one after it: the private directory itself, the
-- places of its number, and those of the number two below the oldest, where that is above 2. (The job that was dropped may
-- still be named by the database before: its places are cleared by the next job that drops one.)
abbrev pub is_prepared_name : SystemState → List StackItem → Name → Bool
is_prepared_name s stack q = same_name q private_directory
    || (is_job_place (newest s.stack + 1) q || (nat_lt 2 (oldest stack) && is_job_place (oldest stack - 2) q))

-- ---- rollbacks

abbrev pub want_of : Option Node → Want
want_of None = want.Nothing
want_of (Some (node.Dir mode)) = want.Dir mode
want_of (Some (node.File mode bytes)) = want.File mode bytes
want_of (Some (node.Link target)) = want.Link target

-- the writes of the nodes before the job, at its paths
abbrev pub backs : StackItem → List Put
backs o = map (λ (p : Name). record { path = p; want = want_of (get o.before p) }) o.paths

-- a rollback of the newest job o, with these below it on the stack
abbrev pub after_rollback : StackItem → List StackItem → SystemState → SystemState
after_rollback o olds s = record { tree = with_targets (backs o) s.tree; installed = o.list; stack = olds }

-- at this path the job made a directory, and a name outside its paths stands directly in it
abbrev pub HasForeignEntry : StackItem → Tree → Name → Type 0
HasForeignEntry o tree p = (is_dir (get o.before p) ≡ false) × (is_dir (get o.after p) ≡ true)
    × ((q : Name) × (is_listed o.paths q ≡ false) × (parent q ≡ p) × (get tree q ≢ None))

-- The rollback isn't refused: what stands at each path of the job has the fingerprint that it left, no foreign entry stands in
-- a directory that it made, and the result is well formed.
pub record CanRollBack (o : StackItem) (s : SystemState) : Type 0 where
  pub marks : All (λ p. fingerprint (get s.tree p) ≡ fingerprint (get o.after p)) o.paths
  pub no_foreign_entry : All (λ p. HasForeignEntry o s.tree p → ⊥) o.paths
  pub well_formed : WellFormed (with_targets (backs o) s.tree)

-- several rollbacks, one after the other: of these jobs, the newest first, with the rest below them
abbrev pub after_rollbacks : List StackItem → List StackItem → SystemState → SystemState
after_rollbacks [] rest s = s
after_rollbacks (o ∷ os) rest s = after_rollbacks os rest (after_rollback o (os ++ rest) s)

abbrev pub CanRollBackAll : List StackItem → List StackItem → SystemState → Type 0
CanRollBackAll [] rest s = Unit {0}
CanRollBackAll (o ∷ os) rest s = CanRollBack o s × CanRollBackAll os rest (after_rollback o (os ++ rest) s)

-- ---- the write sets

-- the writes are those of the two lists, in the order of a write set
pub record IsUnion (all some more : List Put) : Type 0 where
  pub rises : Rises all
  pub some_in : All (Contains all) some
  pub more_in : All (Contains all) more
  pub no_other : All (λ p. Contains some p ⊎ Contains more p) all

abbrev pub database_put : Format → ℕ → SystemState → Put
database_put f mode s = record { path = database; want = want.File mode (database_bytes f s.installed (oldest s.stack) (newest s.stack)) }

abbrev pub record_put : ℕ → ℕ → List ℕ → Put
record_put number mode bytes = record { path = record_file number; want = want.File mode bytes }

abbrev pub no_record_put : ℕ → Put
no_record_put number = record { path = record_file number; want = want.Nothing }

-- The tree x1 is x prepared for a job: what counts is as it was, and the old contents are saved. `all` are the writes of the
-- job: its targets, its record and the database.
pub record IsJobReady (f : Format) (puts : List Put) (list : List TroveParts) (s : SystemState) (x x1 : Tree) (all : List Put) : Type 0 where
  pub still : (q : Name) → counts s q ≡ true → get x1 q ≡ get x q
  pub contents : HoldsSaved x1 (old_of puts s)
  pub bytes : List ℕ
  pub record_is : IsRecord f (newest s.stack + 1) s.installed list (entries_of (old_of puts s)) bytes
  pub record_mode : ℕ
  pub database_mode : ℕ
  pub writes : IsUnion all puts (record_put (newest s.stack + 1) record_mode bytes ∷ database_put f database_mode (after_job puts list s) ∷ [])

-- `all` are the writes of a rollback of o: the nodes before the job, no record, and the database.
pub record AreRollbackWrites (f : Format) (o : StackItem) (olds : List StackItem) (s : SystemState) (all : List Put) : Type 0 where
  pub database_mode : ℕ
  pub writes : IsUnion all (backs o) (no_record_put o.number ∷ database_put f database_mode (after_rollback o olds s) ∷ [])

abbrev pub no_records : List StackItem → List Put
no_records os = map (λ (o : StackItem). no_record_put o.number) os

-- `all` are the writes of several rollbacks at once: what they together make of the tree, no records, and the database.
pub record AreRollbacksWrites (f : Format) (os rest : List StackItem) (s : SystemState) (all : List Put) : Type 0 where
  pub nodes : List Put
  pub rises : Rises nodes
  pub free : All (λ (p : Put). IsFree p.path) nodes
  pub together : with_targets nodes s.tree ≡ (after_rollbacks os rest s).tree
  pub database_mode : ℕ
  pub writes : IsUnion all nodes (database_put f database_mode (after_rollbacks os rest s) ∷ no_records os)

-- ---- the migration to format 2

-- the record of each job once more, in format 2, from the newest down
abbrev pub AreMigrated : List TroveParts → List StackItem → List Put → Type 0
AreMigrated after [] [] = Unit {0}
AreMigrated after (o ∷ olds) (p ∷ puts) = ((mode : ℕ) × (bytes : List ℕ) × (p ≡ record_put o.number mode bytes) × IsRecord Two o.number o.list after (entries_of o) bytes) × AreMigrated o.list olds puts
AreMigrated after _ _ = ⊥

pub record IsMigration (s : SystemState) (all : List Put) : Type 0 where
  pub records : List Put
  pub migrated : AreMigrated s.installed s.stack records
  pub database_mode : ℕ
  pub writes : IsUnion all [] (database_put Two database_mode s ∷ records)

-- ---- what the journal asks of the writes

-- A write directly in the private directory, where no directory stands, at none of the journal's own names, of a node that a
-- disk can hold.
pub record IsOwnWrite (x : Tree) (p : Put) : Type 0 where
  pub parent_is : parent p.path ≡ private_directory
  pub reserved : is_reserved p.path ≡ true
  pub no_dir : is_dir (get x p.path) ≡ false
  pub not_own : is_own private_directory p.path ≡ false
  pub node : IsTrue (may_stand (node_of p.want))

-- The private directory stands in a well-formed tree, the writes outside it give a well-formed managed tree t, and what is to
-- go stands.
pub record IsPuttable (some more : List Put) (all : List Put) (x t : Tree) : Type 0 where
  pub writes : IsUnion all some more
  pub free : All (λ (p : Put). IsFree p.path) some
  pub own : All (IsOwnWrite x) more
  pub paths : All (λ (p : Put). IsTrue (is_path p.path)) all
  pub stands : All (λ (p : Put). p.want ≡ want.Nothing → get x p.path ≢ None) all
  pub well_formed : WellFormed x
  pub base : is_dir (get x private_directory) ≡ true
  pub managed : AgreesOutside is_reserved (with_targets all x) t
  pub managed_formed : WellFormed t
