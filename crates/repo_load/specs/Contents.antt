-- What is read of a repository's contents.
use Rattle.std.specs.Prelude.{◌≡◌, false, true, IsTrue, List, ℕ, length, if◌then◌else◌, Option, Some, None}
use Rattle.sha1.specs.Sha1.{sha1}
use Rattle.repo_index.specs.trove-stream.declared.parts.TroveParts.{TroveParts}
use Rattle.journal_log.specs.tree-disk.Tree.{Name, Tree}
use Rattle.content_store.specs.Store.{content_path, stored}
use Rattle.repo_index.specs.Catalogue.{has_content}
use Rattle.repo_load.specs.State.{records_content}
use Rattle.repo_load.specs.Files.{contents_dir}

-- the bytes have this name, and one of the troves records a file of this name and of their size
pub record IsRecorded (troves : List TroveParts) (name bytes : List ℕ) : Type 0 where
  pub named : sha1 bytes ≡ name
  pub recorded : IsTrue (records_content name (length bytes) troves)

-- the bytes of a file, where one of the troves records a file of this name and of their size
abbrev pub sized_bytes : List TroveParts → List ℕ → Option (List ℕ) → Option (List ℕ)
sized_bytes troves name None = None
sized_bytes troves name (Some bytes) = if records_content name (length bytes) troves then Some bytes else None

-- on any disk: none where no trove names the content
abbrev pub IsSoundAnswer : List TroveParts → List ℕ → Option (List ℕ) → Type 0
IsSoundAnswer troves name (Some bytes) = IsRecorded troves name bytes
IsSoundAnswer troves name None = has_content name troves ≡ false

-- the bytes that stand under the name, which are sound; or none where no trove names the content
abbrev pub FindsContent : List TroveParts → List ℕ → Tree → Option (List ℕ) → Type 0
FindsContent troves name tree (Some bytes) = (stored tree contents_dir name ≡ Some bytes) × IsRecorded troves name bytes
FindsContent troves name tree None = has_content name troves ≡ false

-- A trove names the content, and no bytes that have its name and a size that is recorded stand at this path, which is its.
pub record IsDamagedContent (troves : List TroveParts) (name : List ℕ) (tree : Tree) (path : Name) : Type 0 where
  pub here : path ≡ content_path contents_dir name
  pub recorded : has_content name troves ≡ true
  pub none : (bytes : List ℕ) → stored tree contents_dir name ≡ Some bytes → IsRecorded troves name bytes → ⊥
