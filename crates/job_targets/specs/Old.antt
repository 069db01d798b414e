-- What a job found at a path, as a fingerprint and the contents that the job saved tell it.
use Rattle.std.specs.Prelude.{◌≡◌, ℕ, Bool, true, false, List, length, Some}
use Rattle.sha1.specs.Sha1.{sha1}
use Rattle.content_store.specs.Store.{content_path, stored}
use Rattle.local_db.specs.journal-log.declared.put.Want.{Want}
use Rattle.local_db.specs.journal-log.declared.put.Want.TheVariants.{Nothing, Dir, File, Link, Staged}
use Rattle.local_db.specs.journal-log.Targets.{node_of}
use Rattle.local_db.specs.tree-disk.Tree.{Name, Tree}
use Rattle.tree_scan.specs.declared.mark.Mark.{Mark}
use Rattle.tree_scan.specs.declared.mark.Mark.TheVariants as mark
use Rattle.tree_scan.specs.Marks.{fingerprint}
use Rattle.local_db.specs.Names.{saved}

-- the bytes of a file are given by their number
abbrev pub is_staged : Want → Bool
is_staged (Staged mode number size name) = true
is_staged Nothing = false
is_staged (Dir mode) = false
is_staged (File mode bytes) = false
is_staged (Link target) = false

-- bytes of this size and this SHA-1
pub record IsContent (size : ℕ) (name bytes : List ℕ) : Type 0 where
  pub long : length bytes ≡ size
  pub named : sha1 bytes ≡ name

-- the directory holds a content of this name and size
pub record HoldsContent (x : Tree) (dir : Name) (size : ℕ) (name bytes : List ℕ) : Type 0 where
  pub there : stored x dir name ≡ Some bytes
  pub content : IsContent size name bytes

-- it holds none
abbrev pub HoldsNoContent : Tree → Name → ℕ → List ℕ → Type 0
HoldsNoContent x dir size name = (bytes : List ℕ) → HoldsContent x dir size name bytes → ⊥

-- what is to stand has this fingerprint, and no bytes of it are staged
pub record HasMark (mark_ : Mark) (want : Want) : Type 0 where
  pub given : is_staged want ≡ false
  pub marked : fingerprint (node_of want) ≡ mark_

-- the bytes of the file that stood there are those that the job of this number saved
abbrev pub IsSaved : Tree → ℕ → Want → Type 0
IsSaved x number (File mode bytes) = stored x (saved number) (sha1 bytes) ≡ Some bytes
IsSaved x number Nothing = Unit {0}
IsSaved x number (Dir mode) = Unit {0}
IsSaved x number (Link target) = Unit {0}
IsSaved x number (Staged mode id size name) = ⊥

-- the path is that of the content which the fingerprint tells, and it isn't saved
abbrev pub IsDamagedOld : Tree → ℕ → Mark → Name → Type 0
IsDamagedOld x number (mark.File mode size name) path = (path ≡ content_path (saved number) name) × HoldsNoContent x (saved number) size name
IsDamagedOld x number mark.Nothing path = ⊥
IsDamagedOld x number (mark.Dir mode) path = ⊥
IsDamagedOld x number (mark.Link target) path = ⊥

-- the path is that of the content of this name in the directory, which holds none of this size
abbrev pub IsDamagedContent : Tree → Name → ℕ → List ℕ → Name → Type 0
IsDamagedContent x dir size name path = (path ≡ content_path dir name) × HoldsNoContent x dir size name
