-- Bytes that are written.
use Rattle.std.specs.Prelude.{◌≡◌, ℕ, Bool, IsTrue, List, length, take, drop, Option}
use Rattle.std.specs.Io.KnownBytes.{Appends}
use Rattle.tree_disk.specs.cny-base.Path.{is_path}
use Rattle.tree_disk.specs.cny-base.Target.{is_target}
use Rattle.tree_disk.specs.Rows.{bytes_at}
use Rattle.tree_disk.specs.Tree.{Name, Tree}
use Rattle.cny_manifest.specs.Grammar.{IsLine}
use Rattle.cny_manifest.specs.Lines.{with_feed}
use Rattle.cny_manifest.specs.Spelling.{link_line, target_line}
use Rattle.cny_pack.specs.Entries.{IsContent}

-- a line was written, with its line feed
pub record GivesLine (line : List ℕ) (old new : Option (List ℕ)) : Type 0 where
  pub fits : IsLine line
  pub given : Appends old new (with_feed line)

-- the two lines of a link were written
pub record GivesLink (path target : List ℕ) (old new : Option (List ℕ)) : Type 0 where
  pub path_is : IsTrue (is_path path)
  pub target_is : IsTrue (is_target target)
  pub between : Option (List ℕ)
  pub first : GivesLine (link_line path) old between
  pub second : GivesLine (target_line target) between new

-- so many bytes were written: those of the file from that place on, where the disk tells its tree
pub record GivesPiece (tells : Bool) (t : Tree) (path : Name) (at count : ℕ) (old new : Option (List ℕ)) : Type 0 where
  pub bytes : List ℕ
  pub given : Appends old new bytes
  pub long : length bytes ≡ count
  pub told : IsTrue tells → bytes ≡ take count (drop at (bytes_at t path))

-- the content of a file of this size was written
pub record GivesContent (tells : Bool) (t : Tree) (path : Name) (size : ℕ) (old new : Option (List ℕ)) : Type 0 where
  pub content : List ℕ
  pub given : Appends old new content
  pub is : IsContent tells t path size content

-- the content, and a line feed behind it
pub record GivesContentLine (tells : Bool) (t : Tree) (path : Name) (size : ℕ) (old new : Option (List ℕ)) : Type 0 where
  pub content : List ℕ
  pub given : Appends old new (with_feed content)
  pub is : IsContent tells t path size content
