-- What a repository has after it took over what it lacked of another one.
use Rattle.std.specs.Prelude.{◌≡◌, ℕ, List, ◌++◌, All, Some}
use Rattle.cny_stream.specs.Item.{item_bytes}
use Rattle.change_set.specs.declared.change.Carried.{Carried}
use Rattle.change_set.specs.declared.change.ChangeSet.{ChangeSet}
use Rattle.change_set.specs.ChangeSet.{change_bytes}
use Rattle.change_set.specs.trove-parts.declared.id.TroveId.{TroveId}
use Rattle.change_set.specs.trove-stream.declared.parts.TroveParts.{TroveParts}
use Rattle.repo_load.specs.State.{troves_of, RepositoryState}
use Rattle.repo_mirror.specs.Replies.{reply_end, reply_magic}
use Rattle.repo_mirror.specs.Absolute.{IsAbsoluteSet}
use Rattle.repo_mirror.specs.Missing.{AreMissing}
use Rattle.repository.specs.Steps.{IsCommitStep}
use Rattle.repo_mirror.specs.Asking.{AreIdsOf}

-- The stream of replies with the one reply that has the missing troves, with their contents.
pub record SendsMissing (other : RepositoryState) (ids : List TroveId) (reply : List ℕ) : Type 0 where
  pub troves : List TroveParts
  pub set : ChangeSet
  pub missing : AreMissing ids other.commits troves
  pub sent : IsAbsoluteSet troves set
  pub held : All (λ (content : Carried). other.contents content.name ≡ Some content.bytes) set.contents
  pub is : reply ≡ reply_magic ++ (item_bytes 0x84 (change_bytes set) ++ reply_end)

-- A repository asked for all troves but its own, another one sent what is missing, with its contents, and the first one committed it.
pub record Mirrors (other own new : RepositoryState) : Type 0 where
  pub ids : List TroveId
  pub troves : List TroveParts
  pub set : ChangeSet
  pub asked : AreIdsOf (troves_of own.commits) ids
  pub missing : AreMissing ids other.commits troves
  pub sent : IsAbsoluteSet troves set
  pub held : All (λ (content : Carried). other.contents content.name ≡ Some content.bytes) set.contents
  pub committed : IsCommitStep own set new
