-- Which system a root tree stores.
use Rattle.std.specs.Prelude.{◌≡◌, ◌⊎◌, ℕ, List, [], ◌∷◌, Some, None, Contains}
use Rattle.std.specs.FinMap.{get}
use Rattle.sha1.specs.Sha1.{sha1}
use Rattle.content_store.specs.Store.{file_bytes, stored}
use Rattle.trove_stream.specs.cny-base.Reserved.{private_directory, is_reserved}
use Rattle.trove_stream.specs.cny-base.declared.node.Node.TheVariants as node
use Rattle.trove_stream.specs.declared.parts.TroveParts.{TroveParts}
use Rattle.tree_journal.specs.tree-disk.Tree.{Name, Tree, AgreesOutside}
use Rattle.tree_journal.specs.Recovery.{RecoversTo}
use Rattle.tree_scan.specs.Marks.{fingerprint}
use Rattle.local_db.specs.Installed.{IsInstalled}
use Rattle.local_db.specs.declared.format.Format.{Format}
use Rattle.local_db.specs.declared.format.Format.TheVariants.{One, Two}
use Rattle.local_db.specs.Formats.{database_bytes, AreEnds, Fits}
use Rattle.local_db.specs.SystemState.{StackItem, SystemState, newest, oldest, IsSystemState}
use Rattle.local_db.specs.Names.{database, record_file, saved}
use Rattle.local_db.specs.Record.{entries_of, IsRecord}

-- a file with these bytes stands at the name, of any mode
abbrev pub HoldsFile : Tree → Name → List ℕ → Type 0
HoldsFile x name bytes = file_bytes (get x name) ≡ Some bytes

-- the old contents of each file that the job replaced or removed
abbrev pub HoldsSaved : Tree → StackItem → Type 0
HoldsSaved x o = (path : Name) (mode : ℕ) (bytes : List ℕ) → Contains o.paths path → get o.before path ≡ Some (node.File mode bytes)
    → stored x (saved o.number) (sha1 bytes) ≡ Some bytes

-- the record of a job and the contents that it saved, `after` being the list after the job
pub record HoldsItem (f : Format) (x : Tree) (after : List TroveParts) (o : StackItem) : Type 0 where
  pub bytes : List ℕ
  pub file : HoldsFile x (record_file o.number) bytes
  pub text : IsRecord f o.number o.list after (entries_of o) bytes
  pub contents : HoldsSaved x o
  pub fits : Fits f o.list

-- all records, from the newest down: the list after a job is that before the next newer one
abbrev pub HoldsStack : Format → Tree → List TroveParts → List StackItem → Type 0
HoldsStack f x after [] = Unit {0}
HoldsStack f x after (o ∷ olds) = HoldsItem f x after o × HoldsStack f x o.list olds

-- a list and numbers that a database may have
pub record IsDatabase (f : Format) (list : List TroveParts) (oldest newest : ℕ) : Type 0 where
  pub installed : IsInstalled list
  pub ends : AreEnds oldest newest
  pub fits : Fits f list

-- two databases are one: in one format, with one list and the same numbers
pub record SameDatabase (f g : Format) (list other : List TroveParts) (low high lower higher : ℕ) : Type 0 where
  pub formats : f ≡ g
  pub lists : list ≡ other
  pub oldest : low ≡ lower
  pub newest : high ≡ higher

-- What the database tells. Where nothing stands at its name, the list is empty and both numbers are 0.
pub data HoldsDatabase (f : Format) (x : Tree) (list : List TroveParts) (oldest newest : ℕ) : Type 0 where
  absent : get x database ≡ None → list ≡ [] → oldest ≡ 0 → newest ≡ 0 → HoldsDatabase f x list oldest newest
  written : IsDatabase f list oldest newest → HoldsFile x database (database_bytes f list oldest newest) → HoldsDatabase f x list oldest newest

-- The tree stores the system in a format: the tree of the system outside the private directory, the list and the numbers of
-- its stack in the database, and each of its jobs in a record and saved contents. Other files there don't count.
pub record StoresIn (f : Format) (x : Tree) (s : SystemState) : Type 0 where
  pub system : IsSystemState s
  pub managed : AgreesOutside is_reserved x s.tree
  pub list : HoldsDatabase f x s.installed (oldest s.stack) (newest s.stack)
  pub olds : HoldsStack f x s.installed s.stack

-- all in format 1 or all in format 2
abbrev pub StoresSystem : Tree → SystemState → Type 0
StoresSystem x s = StoresIn One x s ⊎ StoresIn Two x s

-- an image recovers to a system: with the journal's log put where its commit flag is set, it stores the system
abbrev pub RecoversToSystem : Tree → SystemState → Type 0
RecoversToSystem image s = (x : Tree) × RecoversTo private_directory image x × StoresSystem x s

-- ---- what a tree determines

-- Two jobs that a tree doesn't tell apart: only their trees outside the paths may differ, and what stood at them after the
-- job behind equal fingerprints.
pub record SameItemAs (o p : StackItem) : Type 0 where
  pub number : o.number ≡ p.number
  pub list : o.list ≡ p.list
  pub paths : o.paths ≡ p.paths
  pub before : (q : Name) → Contains o.paths q → get o.before q ≡ get p.before q
  pub after : (q : Name) → Contains o.paths q → fingerprint (get o.after q) ≡ fingerprint (get p.after q)

abbrev pub SameStack : List StackItem → List StackItem → Type 0
SameStack [] [] = Unit {0}
SameStack (o ∷ olds) (p ∷ others) = SameItemAs o p × SameStack olds others
SameStack _ _ = ⊥

-- two systems that agree in all on which an answer may depend
pub record Alike (s t : SystemState) : Type 0 where
  pub tree : s.tree ≡ t.tree
  pub list : s.installed ≡ t.installed
  pub olds : SameStack s.stack t.stack
