-- The reply of a repository to one request.
use Rattle.std.specs.Prelude.{◌≡◌, ℕ, ◌+◌, List, ◌++◌, length, map, All, Option, Some, None, Result, Ok, Err}
use Rattle.std.specs.Int.{w32, to_be_bytes}
use Rattle.cny_stream.specs.Item.{item_bytes}
use Rattle.repo_mirror.specs.cny-base.declared.refusal.Refusal.{Refusal}
use Rattle.repo_mirror.specs.trove-parts.declared.id.TroveId.{TroveId}
use Rattle.repo_mirror.specs.trove-stream.declared.parts.TroveParts.{TroveParts}
use Rattle.repo_mirror.specs.change-set.ChangeSet.{change_bytes}
use Rattle.repo_mirror.specs.change-set.declared.change.Carried.{Carried}
use Rattle.repo_mirror.specs.change-set.declared.change.ChangeSet.{ChangeSet}
use Rattle.repo_mirror.specs.Requests.{ids_bytes}
use Rattle.repo_mirror.specs.declared.request.Request.{Request}
use Rattle.repo_mirror.specs.declared.request.Request.TheVariants.{Named, Content, Missing}
use Rattle.repo_index.specs.Catalogue.{named}
use Rattle.repo_load.specs.State.{troves_of, RepositoryState}
use Rattle.repo_mirror.specs.Absolute.{IsAbsoluteSet}
use Rattle.repo_mirror.specs.Lengths.{set_length}
use Rattle.repo_mirror.specs.Missing.{AreMissing, IsTooMuch}

abbrev pub id_of : TroveParts → TroveId
id_of t = t.id

-- the ids of the troves of this name, in the order in which these were committed
abbrev pub ids_named : List ℕ → List TroveParts → List TroveId
ids_named name troves = map id_of (named name troves)

-- how many ids there are, in four bytes with the high byte first, and the ids one behind the other
abbrev pub ids_value : List TroveId → List ℕ
ids_value ids = to_be_bytes w32 (length ids) ++ ids_bytes ids

abbrev pub ids_reply : List TroveId → List ℕ
ids_reply ids = item_bytes 0x80 (ids_value ids)

-- A content's name and its bytes; or the name alone, where there is no such content. A repository has just the contents that its
-- troves name.
abbrev pub content_reply : List ℕ → Option (List ℕ) → List ℕ
content_reply name (Some bytes) = item_bytes 0x81 (name ++ bytes)
content_reply name None = item_bytes 0x82 name

-- the absolute change set of the missing troves, with the contents of the repository
pub record IsMissingReply (r : RepositoryState) (ids : List TroveId) (reply : List ℕ) : Type 0 where
  pub troves : List TroveParts
  pub set : ChangeSet
  pub missing : AreMissing ids r.commits troves
  pub sent : IsAbsoluteSet troves set
  pub held : All (λ (content : Carried). r.contents content.name ≡ Some content.bytes) set.contents
  pub is : reply ≡ item_bytes 0x84 (change_bytes set)

-- The reply to a request; or why there is none, where the missing troves are too much to be sent.
abbrev pub IsReplyTo : RepositoryState → Request → Result (List ℕ) Refusal → Type 0
IsReplyTo r (Named name) (Ok reply) = reply ≡ ids_reply (ids_named name (troves_of r.commits))
IsReplyTo r (Content name) (Ok reply) = reply ≡ content_reply name (r.contents name)
IsReplyTo r (Missing ids) (Ok reply) = IsMissingReply r ids reply
IsReplyTo r (Named name) (Err refusal) = ⊥
IsReplyTo r (Content name) (Err refusal) = ⊥
IsReplyTo r (Missing ids) (Err refusal) = IsTooMuch ids r.commits refusal

-- The length of the reply to a request. That of missing troves is told by their records: no content is looked at.
abbrev pub IsReplyLength : RepositoryState → Request → ℕ → Type 0
IsReplyLength r (Named name) len = len ≡ length (ids_reply (ids_named name (troves_of r.commits)))
IsReplyLength r (Content name) len = len ≡ length (content_reply name (r.contents name))
IsReplyLength r (Missing ids) len = (troves : List TroveParts) × AreMissing ids r.commits troves × (len ≡ 5 + set_length troves)
