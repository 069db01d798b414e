-- Contents that can't be sent.
use Rattle.std.specs.Prelude.{◌≡◌, ℕ, List, Some}
use Rattle.repo_load.specs.trove-stream.declared.parts.TroveParts.{TroveParts}
use Rattle.repo_load.specs.tree-disk.Tree.{Name, Tree}
use Rattle.repo_load.specs.content-store.Store.{content_path, stored}
use Rattle.repo_load.specs.Files.{contents_dir}
use Rattle.repository.specs.Between.{IsSoundContent, SendsContent}

-- The path is that of a content that is sent, and no sound bytes stand there.
pub record IsDamagedBetween (old fresh : List TroveParts) (tree : Tree) (path : Name) : Type 0 where
  pub name : List ℕ
  pub sent : SendsContent old fresh name
  pub here : path ≡ content_path contents_dir name
  pub none : (bytes : List ℕ) → stored tree contents_dir name ≡ Some bytes → IsSoundContent fresh name bytes → ⊥
