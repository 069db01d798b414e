-- The names that the journal keeps for itself, in its private directory, the base.
use Rattle.std.specs.Prelude.{ℕ, Bool, ◌||◌, codes}
use Rattle.std.specs.Fmt.{decimal}
use Rattle.tree_disk.specs.cny-base.Path.{join}
use Rattle.tree_disk.specs.Tree.{Name, Tree, same_name, AgreesOutside}
use Rattle.tree_disk.specs.Clear.{is_within}

-- the file of the commit flag
abbrev pub gate : Name → Name
gate base = join base (codes "gate")

-- the file of the log
abbrev pub log : Name → Name
log base = join base (codes "log")

-- the name at which a file is made before it is moved into its place
abbrev pub work : Name → Name
work base = join base (codes "w")

-- the directory of staged bytes
abbrev pub staged : Name → Name
staged base = join base (codes "p")

-- the file of the staged bytes with this number
abbrev pub staged_file : Name → ℕ → Name
staged_file base number = join (staged base) (decimal number)

-- these four, and what lies below them
abbrev pub is_own_file : Name → Name → Bool
is_own_file base q = is_within (gate base) q || (is_within (log base) q || (is_within (work base) q || is_within (staged base) q))

-- the journal's own names: the base itself, and its files
abbrev pub is_own : Name → Name → Bool
is_own base q = same_name q base || is_own_file base q

-- Two trees store the same: they are equal at every name that isn't the journal's own.
abbrev pub StoresSame : Name → Tree → Tree → Type 0
StoresSame base a b = AgreesOutside (is_own base) a b
