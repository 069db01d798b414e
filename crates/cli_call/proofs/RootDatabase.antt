-- The database that a root holds in format 2 is that of each system that it stores.
use Rattle.std.proofs.Common.{◌≡◌, ◌+◌, ℕ, List, [], ◌∷◌, Option, Some, None, refl, sym, ap, ◌∙◌, subst, ⊎_elim, arith}
use Rattle.std.specs.FinMap.{get}
use Rattle.cny_laws.specs.system-core.content-store.Store.{file_bytes}
use Rattle.cny_laws.specs.system-core.cny-base.declared.node.Node.{Node}
use Rattle.cny_laws.specs.system-core.trove-stream.declared.parts.TroveParts.{TroveParts}
use Rattle.cny_laws.specs.system-core.tree-disk.Tree.{Tree}
use Rattle.local_db.specs.declared.db.Db.{Db}
use Rattle.local_db.specs.declared.format.Format.{Format}
use Rattle.local_db.specs.declared.format.Format.TheVariants.{One, Two}
use Rattle.local_db.specs.Formats.{database_bytes}
use Rattle.local_db.specs.Names.{database}
use Rattle.local_db.specs.Stores.{HoldsDatabase, HoldsStack, IsDatabase, SameDatabase, StoresIn, StoresSystem, absent, written}
use Rattle.local_db.specs.SystemState.{AreNumbered, StackItem, SystemState, newest, oldest}
use Rattle.cny_laws.proofs.system-core.Held.{OneDatabase}
use Rattle.repo_load.proofs.Holding.{some_bytes as same_bytes}

-- the tree stores the system in format 2, and this is its database
pub record HasDatabase (x : Tree) (db : Db) (s : SystemState) : Type 0 where
  pub stores : StoresIn Two x s
  pub list : db.installed ≡ s.installed
  pub oldest : db.oldest ≡ oldest s.stack
  pub newest : db.newest ≡ newest s.stack

-- two databases of one tree
pub record AreSame (list other : List TroveParts) (low high lower higher : ℕ) : Type 0 where
  lists : list ≡ other
  lows : low ≡ lower
  highs : high ≡ higher

pub no_file : (n : Option Node) (bytes : List ℕ) → n ≡ None → file_bytes n ≡ Some bytes → ⊥
no_file n bytes none file = absurd (cc (sym (ap file_bytes none) ∙ file))

module _ (law : OneDatabase) (x : Tree) where
  pub same_written : (f g : Format) (list other : List TroveParts) (low high lower higher : ℕ) → IsDatabase f list low high → IsDatabase g other lower higher
      → file_bytes (get x database) ≡ Some (database_bytes f list low high) → file_bytes (get x database) ≡ Some (database_bytes g other lower higher) → SameDatabase f g list other low high lower higher
  same_written f g list other low high lower higher one two first second =
      law f g list other low high lower higher one two (same_bytes (database_bytes f list low high) (database_bytes g other lower higher) (file_bytes (get x database)) first second)

  pub same_held : (list other : List TroveParts) (low high lower higher : ℕ) → HoldsDatabase Two x list low high → HoldsDatabase Two x other lower higher → AreSame list other low high lower higher
  same_held list other low high lower higher (absent none a b c) (absent none' a' b' c') = record { lists = a ∙ sym a'; lows = b ∙ sym b'; highs = c ∙ sym c' }
  same_held list other low high lower higher (absent none a b c) (written is file) = absurd (no_file (get x database) _ none file)
  same_held list other low high lower higher (written is file) (absent none a b c) = absurd (no_file (get x database) _ none file)
  same_held list other low high lower higher (written is file) (written is' file') =
      let same = same_written Two Two list other low high lower higher is is' file file' in
      record { lists = same.lists; lows = same.oldest; highs = same.newest }

  -- ---- in format 1 only a root without a database is one of format 2 too

  pub no_jobs : (stack : List StackItem) → AreNumbered stack → newest stack ≡ 0 → stack ≡ []
  no_jobs [] numbered none = refl
  no_jobs (o ∷ []) numbered none = absurd (omega (arith, numbered, none))
  no_jobs (o ∷ p ∷ olds) numbered none = let next : o.number ≡ p.number + 1 = numbered.0 in absurd (omega (arith, next, none))

  pub not_both : (f g : Format) → f ≡ One → g ≡ Two → f ≡ g → ⊥
  not_both f g one two same = absurd (cc (one, two, same))

  pub in_two : (list : List TroveParts) (low high : ℕ) (s : SystemState) → HoldsDatabase Two x list low high → StoresIn One x s → HoldsDatabase One x s.installed (oldest s.stack) (newest s.stack) → StoresIn Two x s
  in_two list low high s holds one (absent none a b c) = record {
    system = one.system;
    managed = one.managed;
    list = absent none a b c;
    olds = subst (λ (stack : List StackItem). HoldsStack Two x s.installed stack) (sym (no_jobs s.stack one.system.numbered c)) tt;
  }
  in_two list low high s (absent none' a b c) one (written is file) = absurd (no_file (get x database) _ none' file)
  in_two list low high s (written is' file') one (written is file) =
      let same = same_written One Two s.installed list (oldest s.stack) (newest s.stack) low high is is' file file' in
      absurd (not_both One Two refl refl same.formats)

  pub one_format : (list : List TroveParts) (low high : ℕ) (s : SystemState) → HoldsDatabase Two x list low high → StoresSystem x s → StoresIn Two x s
  one_format list low high s holds stored = ⊎_elim (λ one. in_two list low high s holds one one.list) (λ two. two) stored

  pub held_database : (db : Db) (s : SystemState) → HoldsDatabase Two x db.installed db.oldest db.newest → StoresSystem x s → HasDatabase x db s
  held_database db s holds stored =
      let stores = one_format db.installed db.oldest db.newest s holds stored in
      let same = same_held db.installed s.installed db.oldest db.newest (oldest s.stack) (newest s.stack) holds stores.list in
      record { stores = stores; list = same.lists; oldest = same.lows; newest = same.highs }
