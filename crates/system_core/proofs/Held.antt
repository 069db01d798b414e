-- A tree holds one database.
use Rattle.std.proofs.Common.{◌≡◌, ℕ, List, None, sym, ◌∙◌, ap}
use Rattle.std.specs.FinMap.{get}
use Rattle.rollback_stack.specs.content-store.Store.{file_bytes}
use Rattle.rollback_stack.specs.trove-stream.declared.parts.TroveParts.{TroveParts}
use Rattle.rollback_stack.specs.tree-disk.Tree.{Tree}
use Rattle.local_db.specs.declared.db.Db.{Db}
use Rattle.local_db.specs.declared.format.Format.{Format}
use Rattle.local_db.specs.declared.format.Format.TheVariants.{Two}
use Rattle.local_db.specs.Formats.{database_bytes}
use Rattle.local_db.specs.Names.{database}
use Rattle.local_db.specs.Stores.{HoldsDatabase, HoldsFile, IsDatabase, SameDatabase, StoresIn, absent, written}
use Rattle.local_db.specs.SystemState.{SystemState, newest, oldest}
use Rattle.local_db.proofs.cny-base.OptionValues.{same_some}

abbrev pub OneDatabase : Type 0
OneDatabase = (f g : Format) (list other : List TroveParts) (low high lower higher : ℕ) → IsDatabase f list low high → IsDatabase g other lower higher
    → database_bytes f list low high ≡ database_bytes g other lower higher → SameDatabase f g list other low high lower higher

pub record SameParts (list other : List TroveParts) (low high lower higher : ℕ) : Type 0 where
  pub lists : list ≡ other
  pub lows : low ≡ lower
  pub highs : high ≡ higher

pub no_file : (x : Tree) (bytes : List ℕ) → get x database ≡ None → HoldsFile x database bytes → ⊥
no_file x bytes none file = absurd (cc (ap file_bytes none, file))

-- a tree holds one database
pub one_held : {f g : Format} → OneDatabase → (x : Tree) (list other : List TroveParts) (low high lower higher : ℕ) → HoldsDatabase f x list low high → HoldsDatabase g x other lower higher
    → SameParts list other low high lower higher
one_held one x list other low high lower higher (absent n l a b) (absent m k c d) = record { lists = l ∙ sym k; lows = a ∙ sym c; highs = b ∙ sym d }
one_held one x list other low high lower higher (absent n l a b) (written is file) = absurd (no_file x _ n file)
one_held one x list other low high lower higher (written is file) (absent n l a b) = absurd (no_file x _ n file)
one_held {f = f} {g = g} one x list other low high lower higher (written is file) (written its too) =
    let same = one f g list other low high lower higher is its (same_some _ _ (sym file ∙ too)) in
    record { lists = same.lists; lows = same.oldest; highs = same.newest }

-- the list of the database is that of each system that the tree stores
pub same_list : OneDatabase → (x : Tree) (db : Db) (s : SystemState) → HoldsDatabase Two x db.installed db.oldest db.newest → StoresIn Two x s → db.installed ≡ s.installed
same_list one x db s holds stores = let same = one_held one x db.installed s.installed db.oldest db.newest (oldest s.stack) (newest s.stack) holds stores.list in same.lists
