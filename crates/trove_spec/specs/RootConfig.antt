-- What the configuration file of a root says.
use Rattle.std.specs.Prelude.{◌≡◌, ℕ, ◌+◌, List, Result, Ok, Err, codes}
use Rattle.repo_index.specs.cny-base.declared.refusal.Refusal.{Refusal}
use Rattle.repo_index.specs.cny-base.declared.refusal.Refusal.TheVariants as refusal
use Rattle.repo_index.specs.cny-base.declared.refusal.What.TheVariants as what
use Rattle.repo_index.specs.cny-base.declared.stop.Stop.{Stop}
use Rattle.tree_disk.specs.Tree.{Name, Tree}
use Rattle.tree_disk.specs.Disk.{DiskModel}
use Rattle.tree_disk.specs.Rows.{bytes_at}
use Rattle.trove_spec.specs.declared.config.Config.{Config}
use Rattle.trove_spec.specs.RootFile.{within_limit, ReadsFile}
use Rattle.trove_spec.specs.Config.{lines_of, IsConfigOf, IsFirstBad}

abbrev pub config_path : Name
config_path = codes "/etc/conaryrc"

-- ---- the file

-- The bytes of the file; none of them where no file stands.
abbrev pub config_file : Tree → Result (List ℕ) Refusal
config_file tree = within_limit what.Config (bytes_at tree config_path)

-- ---- what it says

-- the refusal names the first of the lines that isn't in its grammar, by its number from 1
pub record IsBadConfig (lines : List (List ℕ)) (refused : Refusal) : Type 0 where
  pub before : ℕ
  pub is : refused ≡ refusal.BadConfig (before + 1)
  pub first : IsFirstBad lines before

-- The bytes say this configuration, or are refused for this.
abbrev pub HasConfigIn : Result (List ℕ) Refusal → Result Config Refusal → Type 0
HasConfigIn (Ok bytes) (Ok config) = IsConfigOf (lines_of bytes) config
HasConfigIn (Ok bytes) (Err refused) = IsBadConfig (lines_of bytes) refused
HasConfigIn (Err large) (Ok config) = ⊥
HasConfigIn (Err large) (Err refused) = refused ≡ large

-- The configuration file of the tree says this configuration, or is refused for this. Where no file stands, that is as of an
-- empty one: there are no labels, and the flavor is the empty one.
abbrev pub HasConfig : Tree → Result Config Refusal → Type 0
HasConfig tree result = HasConfigIn (config_file tree) result

-- The configuration was read, and nothing was changed.
abbrev pub ReadsConfig : {D : Type 0} → DiskModel D → D → D → Result Config Stop → Type 0
ReadsConfig disk old new result = ReadsFile HasConfig disk old new result
