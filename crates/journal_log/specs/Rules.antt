-- The rules for the paths of a log, put by put.
use Rattle.std.specs.Prelude.{◌≡◌, ◌≢◌, false, true, IsTrue, List, All, Contains}
use Rattle.tree_disk.specs.cny-base.Below.{is_below}
use Rattle.tree_disk.specs.cny-base.Path.{is_path, root}
use Rattle.tree_disk.specs.Tree.{Name}
use Rattle.journal_log.specs.declared.put.Want.TheVariants.{Nothing}
use Rattle.journal_log.specs.declared.put.Put.{Put}
use Rattle.journal_log.specs.Targets.{is_dir_want}
use Rattle.journal_log.specs.WriteSet.{CanBeNamed, CanBeLogged}

-- a log in the private directory can name each path
abbrev pub AreNamed : Name → List Put → Type 0
AreNamed base puts = All (λ p. CanBeNamed base p.path) puts

-- a log in the private directory can tell what is to stand at each
abbrev pub AreLogged : Name → List Put → Type 0
AreLogged base puts = All (λ p. CanBeLogged base p.want) puts

-- below a target that isn't a directory nothing is to stand
abbrev pub NothingBelow : List Put → Type 0
NothingBelow puts = All (λ p. is_dir_want p.want ≡ false → All (λ q. IsTrue (is_below p.path q.path) → q.want ≡ Nothing) puts) puts

-- the same, of any two puts
abbrev pub NoneBelow : List Put → Type 0
NoneBelow puts = (p q : Put) → Contains puts p → Contains puts q → IsTrue (is_below p.path q.path) → is_dir_want p.want ≡ false → q.want ≡ Nothing

-- the same for what stands at one path
abbrev pub MayStand : List Put → Put → Type 0
MayStand puts q = (p : Put) → Contains puts p → IsTrue (is_below p.path q.path) → is_dir_want p.want ≡ false → q.want ≡ Nothing

-- every target above the path is a directory
abbrev pub DirsAbove : List Put → Name → Type 0
DirsAbove puts path = (p : Put) → Contains puts p → IsTrue (is_below p.path path) → is_dir_want p.want ≡ true

-- each target at the path is a directory
abbrev pub DirAt : List Put → Name → Type 0
DirAt puts path = (p : Put) → Contains puts p → p.path ≡ path → is_dir_want p.want ≡ true

-- a path other than `/`
pub record IsInner (path : Name) : Type 0 where
  pub path_is : IsTrue (is_path path)
  pub not_root : path ≢ root

abbrev pub AreInner : List Put → Type 0
AreInner puts = (p : Put) → Contains puts p → IsInner p.path
