-- What the steps of the journal make of a tree, and what they need.
use Rattle.std.specs.Prelude.{◌≡◌, ◌⊎◌, ℕ, Bool, true, false, ◌||◌, not, IsTrue, List, [], ◌∷◌, Option, Some, None}
use Rattle.std.specs.FinMap.{get}
use Rattle.journal_log.specs.cny-base.Below.{is_below}
use Rattle.journal_log.specs.cny-base.Path.{is_path, join}
use Rattle.journal_log.specs.cny-base.declared.node.Node.{Node}
use Rattle.journal_log.specs.cny-base.declared.node.Node.TheVariants as node
use Rattle.journal_log.specs.tree-disk.Tree.{Name, Tree, put, is_file, is_link}
use Rattle.journal_log.specs.tree-disk.Rows.{without}
use Rattle.journal_log.specs.tree-disk.Clear.{is_within, without_tree}
use Rattle.journal_log.specs.tree-disk.Disk.{DiskModel}
use Rattle.journal_log.specs.tree-disk.Confined.{IsSynced}
use Rattle.journal_log.specs.declared.put.Put.{Put}
use Rattle.journal_log.specs.declared.put.Want.{Want}
use Rattle.journal_log.specs.declared.put.Want.TheVariants as want
use Rattle.journal_log.specs.Own.{gate, work, staged, staged_file}
use Rattle.journal_log.specs.LogBytes.{IsSpelled}
use Rattle.journal_log.specs.Numbers.{IsNumbered}
use Rattle.journal_log.specs.Rules.{AreLogged}
use Rattle.journal_log.specs.Staged.{names_staged_at}
use Rattle.journal_log.specs.Targets.{is_target}
use Rattle.journal_log.specs.WriteSet.{IsFormed, Rises}
use Rattle.std.specs.List.{All, filter}
use Rattle.journal_log.specs.tree-disk.Tree.{children}
use Rattle.journal_log.specs.tree-disk.Clear.{without_each}
use Rattle.tree_journal.specs.Recovery.{is_committed, HoldsLog}
use Rattle.tree_journal.specs.Apply.{with_base}
use Rattle.tree_journal.specs.Passes.{CanReplay, all_put}

-- the tree with a file of mode 0600 in place of all that stood at the path
abbrev pub with_own_file : Name → List ℕ → Tree → Tree
with_own_file path bytes tree = put (without_tree tree path) path (Some (node.File 384 bytes))

-- ---- staging

-- none of the writes takes its bytes from a file of this last name
abbrev pub is_stray : List Put → List ℕ → Bool
is_stray puts last = not (names_staged_at puts last)

-- of these names directly below a path, those that no write names are gone, with all below them
abbrev pub without_strays : List Put → Name → List (List ℕ) → Tree → Tree
without_strays puts dir names tree = without_each tree dir (filter (is_stray puts) names)

-- the directory of staged bytes stands, and no name below it but those that writes name
abbrev pub with_stage : Name → List Put → Tree → Tree
with_stage dir puts tree = without_strays puts dir (children (with_base dir tree) dir) (with_base dir tree)

-- the bytes of a file stand in the staged file that its numbered write names
abbrev pub with_bytes : Name → Want → Want → Tree → Tree
with_bytes base (want.File mode bytes) (want.Staged m number size name) tree = with_own_file (staged_file base number) bytes tree
with_bytes base wanted numbered tree = tree

-- the same for all writes
abbrev pub with_all_bytes : Name → List Put → List Put → Tree → Tree
with_all_bytes base [] numbered tree = tree
with_all_bytes base (p ∷ puts) [] tree = tree
with_all_bytes base (p ∷ puts) (n ∷ numbered) tree = with_all_bytes base puts numbered (with_bytes base p.want n.want tree)

-- Below the directory nothing stands but at the names that writes name, and below these.
abbrev pub HasNoStrays : Name → List Put → Tree → Type 0
HasNoStrays dir puts tree = (q : Name) → IsTrue (is_below dir q) → ((last : List ℕ) → IsTrue (names_staged_at puts last) → is_within (join dir last) q ≡ false) → get tree q ≡ None

-- nothing stands where the bytes of a file are to be written
abbrev pub HasRoom : Name → Want → Want → Tree → Type 0
HasRoom base (want.File mode bytes) (want.Staged m number size name) tree = get tree (staged_file base number) ≡ None
HasRoom base wanted numbered tree = Unit {0}

-- the same for each write, once the bytes of those before it are written
abbrev pub HaveRoom : Name → List Put → List Put → Tree → Type 0
HaveRoom base [] numbered tree = Unit {0}
HaveRoom base (p ∷ puts) [] tree = Unit {0}
HaveRoom base (p ∷ puts) (n ∷ numbered) tree = HasRoom base p.want n.want tree × HaveRoom base puts numbered (with_bytes base p.want n.want tree)

abbrev pub with_staged : Name → List Put → List Put → Tree → Tree
with_staged base puts numbered tree = with_all_bytes base puts numbered (with_stage (staged base) puts tree)

-- These are the writes with the bytes of their files under numbers of their own, and the bytes are a log of them.
pub record IsLogOf (base : Name) (puts made : List Put) (bytes : List ℕ) : Type 0 where
  pub rises : Rises puts
  pub numbered : IsNumbered puts made
  pub paths : All (λ p. IsTrue (is_path p.path)) made
  pub formed : All (λ p. IsFormed p.want) made
  pub logged : AreLogged base made
  pub spelled : IsSpelled made bytes

-- ---- the replay

-- all targets stand, nothing at the work name, and the commit flag is gone
abbrev pub replayed : Name → List Put → Tree → Tree
replayed base puts tree = without (all_put base puts tree) (gate base)

-- a file or a link
abbrev pub IsOther : Option Node → Type 0
IsOther node = (is_file node ≡ true) ⊎ (is_link node ≡ true)

-- the names of a replay
abbrev pub is_replay_name : Name → List Put → Name → Bool
is_replay_name base puts q = is_within (gate base) q || (is_within (work base) q || is_target puts q)

-- a whole log that can be put stands below the base
pub record HasLog (base : Name) (puts : List Put) (tree : Tree) : Type 0 where
  pub holds : HoldsLog base puts tree
  pub can : CanReplay base puts tree

-- such a log and a commit flag that is set, and a crash leaves this
pub record IsCommitted {D : Type 0} (disk : DiskModel D) (base : Name) (puts : List Put) (d : D) : Type 0 where
  pub has_log : HasLog base puts (disk.reads d)
  pub flag_set : is_committed base (disk.reads d) ≡ true
  pub synced : IsSynced disk d
