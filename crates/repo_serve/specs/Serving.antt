-- What a repository on a disk answers to a stream of requests.
use Rattle.std.specs.Prelude.{◌≡◌, ◌⊎◌, ℕ, ◌+◌, ◌≤◌, false, true, IsTrue, List, [], ◌∷◌, ◌++◌, length, Contains, Some, Result, Ok, Err}
use Rattle.sha1.specs.Sha1.{sha1}
use Rattle.repo_load.specs.cny-base.declared.limits.TheConstants.{MESSAGE_LIMIT}
use Rattle.repo_load.specs.cny-base.declared.refusal.Refusal.{Refusal}
use Rattle.repo_load.specs.cny-base.declared.stop.Stop.{Stop}
use Rattle.repo_load.specs.trove-stream.declared.parts.TroveParts.{TroveParts}
use Rattle.repo_mirror.specs.Requests.{request_bytes, IsRequest}
use Rattle.repo_mirror.specs.declared.request.Request.{Request}
use Rattle.repo_mirror.specs.declared.request.Request.TheVariants.{Named, Content, Missing}
use Rattle.repo_load.specs.tree-disk.Tree.{Name, Tree}
use Rattle.repo_load.specs.tree-disk.Disk.{DiskModel}
use Rattle.repo_load.specs.content-store.Store.{content_path, stored}
use Rattle.repo_index.specs.Catalogue.{has_content, names_content}
use Rattle.repo_load.specs.Files.{contents_dir, HoldsCommits, StoresRepository}
use Rattle.repo_load.specs.State.{records_content, troves_of, Commit, RepositoryState}
use Rattle.repo_mirror.specs.Lengths.{set_length}
use Rattle.repo_mirror.specs.Missing.{has_one_of, AreMissing}
use Rattle.repo_serve.specs.Answers.{Answers}
use Rattle.repo_serve.specs.Reply.{ids_named, ids_reply}
use Rattle.repo_serve.specs.Replies.{AreRequests, Replies}

-- ---- what records tell of replies, whatever the contents are

-- a request has a reply, and this is its length
abbrev pub IsRecordedLength : List Commit → Request → ℕ → Type 0
IsRecordedLength commits (Named name) len = len ≡ length (ids_reply (ids_named name (troves_of commits)))
IsRecordedLength commits (Content name) len = ((has_content name (troves_of commits) ≡ false) × (len ≡ 25))
    ⊎ ((size : ℕ) × IsTrue (records_content name size (troves_of commits)) × (len ≡ 25 + size))
IsRecordedLength commits (Missing ids) len = (troves : List TroveParts) × AreMissing ids commits troves × (len ≡ 5 + set_length troves)

-- each of these requests does, and this is the length of all
abbrev pub IsRecordedSum : List Commit → List Request → ℕ → Type 0
IsRecordedSum commits [] sum = sum ≡ 0
IsRecordedSum commits (request ∷ requests) sum =
    (len : ℕ) × (rest : ℕ) × IsRecordedLength commits request len × IsRecordedSum commits requests rest × (sum ≡ len + rest)

-- none of these requests is refused: each has a reply, and their stream has room in a message
abbrev pub AreAllowed : Tree → List Request → Type 0
AreAllowed tree requests = (commits : List Commit) → HoldsCommits tree commits → (sum : ℕ) × IsRecordedSum commits requests sum × (13 + sum ≤ MESSAGE_LIMIT)

-- ---- contents that are damaged

-- a content of this name is the reply to a request, or goes with it
abbrev pub IsSentWith : List TroveParts → Request → List ℕ → Type 0
IsSentWith troves (Named asked) name = ⊥
IsSentWith troves (Content asked) name = name ≡ asked
IsSentWith troves (Missing ids) name = (t : TroveParts) × Contains troves t × (has_one_of ids t ≡ false) × (names_content name t ≡ true)

-- One of the troves records a content of this name, whose file this is, and no bytes that have the name, and each size that is
-- recorded with that, stand there.
pub record IsUnsound (troves : List TroveParts) (name : List ℕ) (tree : Tree) (path : Name) : Type 0 where
  pub size : ℕ
  pub recorded : IsTrue (records_content name size troves)
  pub here : path ≡ content_path contents_dir name
  pub none : (bytes : List ℕ) → stored tree contents_dir name ≡ Some bytes → sha1 bytes ≡ name
      → ((other : ℕ) → IsTrue (records_content name other troves) → length bytes ≡ other) → ⊥

-- a content that is sent with a request is damaged
pub record IsDamagedFor (troves : List TroveParts) (request : Request) (tree : Tree) (path : Name) : Type 0 where
  pub name : List ℕ
  pub sent : IsSentWith troves request name
  pub unsound : IsUnsound troves name tree path

-- behind some requests, none of which is refused, stands one with which a damaged content is sent
pub record IsDamagedReply (troves : List TroveParts) (stream : List ℕ) (tree : Tree) (path : Name) : Type 0 where
  pub requests : List Request
  pub front : List ℕ
  pub request : Request
  pub more : List ℕ
  pub requests_are : AreRequests requests front
  pub allowed : AreAllowed tree requests
  pub valid : IsRequest request
  pub split : stream ≡ front ++ (request_bytes request ++ more)
  pub damaged : IsDamagedFor troves request tree path

-- ---- the answer

-- that is the outcome of each state that the tree stores
abbrev pub RepliesOf : Tree → List ℕ → Result (List ℕ) Refusal → Type 0
RepliesOf tree stream outcome = (r : RepositoryState) → StoresRepository tree r → Replies r stream outcome

-- A stream was answered for the repository of these troves, and nothing was changed. Where the disk tells its tree, the answer is as
-- the states that the tree stores have it, or names the file of a content that is damaged.
abbrev pub Serves : {D : Type 0} → DiskModel D → List TroveParts → List ℕ → D → D → Result (List ℕ) Stop → Type 0
Serves disk troves stream old new result =
    Answers disk (λ tree out. RepliesOf tree stream (Ok out)) (λ tree refusal. RepliesOf tree stream (Err refusal)) (IsDamagedReply troves stream) old new result
