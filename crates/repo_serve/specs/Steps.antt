-- What the steps of answering a stream give.
use Rattle.std.specs.Prelude.{◌≡◌, ◌⊎◌, ℕ, ◌+◌, ◌<◌, ◌≤◌, true, false, IsTrue, List, [], ◌++◌, length, drop, flat_map, All, Ok, Option, Some, None}
use Rattle.cny_stream.specs.Item.{FitsItem, item_bytes, is_expected, begins_unexpected}
use Rattle.repo_load.specs.cny-base.declared.refusal.Fault.{Fault}
use Rattle.repo_load.specs.cny-base.declared.refusal.Fault.TheVariants as fault
use Rattle.repo_load.specs.cny-base.declared.refusal.Refusal.{Refusal}
use Rattle.repo_load.specs.cny-base.declared.refusal.Refusal.TheVariants.{Malformed}
use Rattle.repo_load.specs.cny-base.Below.{begins_with}
use Rattle.repo_load.specs.cny-base.declared.limits.TheConstants.{MESSAGE_LIMIT}
use Rattle.repo_load.specs.trove-stream.declared.parts.TroveParts.{TroveParts}
use Rattle.repo_load.specs.tree-disk.Tree.{Name, Tree}
use Rattle.repo_mirror.specs.Requests.{request_bytes, request_end, request_tags, FitsRequest, IsGoodRequest, IsRequest}
use Rattle.repo_mirror.specs.change-set.ChangeSet.{change_bytes}
use Rattle.repo_mirror.specs.change-set.declared.change.ChangeSet.{ChangeSet}
use Rattle.repo_mirror.specs.declared.request.Request.{Request}
use Rattle.repo_mirror.specs.declared.request.TheConstants.{REQUESTS_LIMIT}
use Rattle.repo_load.specs.Files.{HoldsCommits, StoresRepository}
use Rattle.repo_load.specs.State.{Commit, RepositoryState}
use Rattle.repository.specs.Between.{HasStored, LeadsBetween}
use Rattle.repo_mirror.specs.Absolute.{IsAbsoluteSet}
use Rattle.repo_mirror.specs.Lengths.{set_length}
use Rattle.repo_serve.specs.Reply.{IsReplyTo}
use Rattle.repo_serve.specs.Replies.{AreReplies, GoesOn, IsRefusedNext, IsUnanswered}
use Rattle.repo_serve.specs.Serving.{IsDamagedFor, IsRecordedLength, IsRecordedSum}
use Rattle.repo_serve.specs.declared.answering.Answered.{Answered}

-- ---- one reply

-- that is the reply of each state that the tree stores, and as long as the records of its commits tell
pub record IsReplyOf (request : Request) (tree : Tree) (reply : List ℕ) : Type 0 where
  pub states : (r : RepositoryState) → StoresRepository tree r → IsReplyTo r request (Ok reply)
  pub recorded : (commits : List Commit) → HoldsCommits tree commits → IsRecordedLength commits request (length reply)

-- each such state has none, behind replies whose stream with its end has so many bytes
abbrev pub IsUnansweredOf : Request → ℕ → Tree → Refusal → Type 0
IsUnansweredOf request sent tree refusal = (r : RepositoryState) → StoresRepository tree r → IsUnanswered r request sent refusal

-- That reply stands behind what was there, and the stream of replies, which had so many bytes with its end, has so many with it.
pub record HasReplied (request : Request) (sent : ℕ) (tree : Tree) (old new : List ℕ) (to : ℕ) : Type 0 where
  pub reply : List ℕ
  pub reply_is : IsReplyOf request tree reply
  pub put : new ≡ old ++ reply
  pub to_is : to ≡ sent + length reply

-- the item of the absolute change set of these troves, with the contents that stand in the tree
pub record IsSetOf (troves : List TroveParts) (tree : Tree) (reply : List ℕ) : Type 0 where
  pub set : ChangeSet
  pub sent : IsAbsoluteSet troves set
  pub leads : LeadsBetween [] troves set
  pub stored : HasStored tree set
  pub is : reply ≡ item_bytes 0x84 (change_bytes set)

-- that item stands behind what was there, and has the length that the records tell
pub record HasPutReply (troves : List TroveParts) (tree : Tree) (old new : List ℕ) : Type 0 where
  pub reply : List ℕ
  pub is : IsSetOf troves tree reply
  pub long : length reply ≡ 5 + set_length troves
  pub put : new ≡ old ++ reply

-- ---- the next item, behind so many requests

-- it begins with a tag that isn't expected, or it is whole and isn't that of a request or the end
pub record IsBadFront (number : ℕ) (bytes : List ℕ) : Type 0 where
  pub tag : ℕ
  pub value : List ℕ
  pub rest : List ℕ
  pub expected : IsTrue (is_expected (request_tags number) tag)
  pub fits : FitsItem value
  pub spelled : bytes ≡ item_bytes tag value ++ rest
  pub bad : IsGoodRequest tag value → ⊥

abbrev pub IsFault : ℕ → List ℕ → Type 0
IsFault number bytes = (begins_unexpected (request_tags number) bytes ≡ true) ⊎ IsBadFront number bytes

-- none is whole
pub record IsCut (number : ℕ) (bytes : List ℕ) : Type 0 where
  pub none : (tag : ℕ) (value rest : List ℕ) → IsTrue (is_expected (request_tags number) tag) → FitsItem value → bytes ≡ item_bytes tag value ++ rest → ⊥
  pub expected : begins_unexpected (request_tags number) bytes ≡ false

-- no request stands there: none is whole, or it is the end
abbrev pub IsOver : ℕ → List ℕ → Type 0
IsOver number bytes = IsCut number bytes ⊎ (bytes ≡ request_end ++ drop 5 bytes)

-- the item of this request stands there, up to `to`
pub record IsNext (number : ℕ) (bytes : List ℕ) (request : Request) (to : ℕ) : Type 0 where
  pub few : number < REQUESTS_LIMIT
  pub valid : IsRequest request
  pub fits : FitsRequest request
  pub within : to ≤ length bytes
  pub goes_on : 0 < to
  pub spelled : bytes ≡ request_bytes request ++ drop to bytes

-- its first byte is the place of the fault, or memory ran out
abbrev pub IsFaultOrMemory : Answered → List ℕ → Fault → Type 0
IsFaultOrMemory answered bytes (fault.Refused refusal) = (refusal ≡ Malformed answered.at) × IsFault answered.number bytes
IsFaultOrMemory answered bytes fault.Memory = Unit {0}

-- one more request was answered: its item has so many bytes, and its reply so many
pub record HasMoved (from to : Answered) (item reply : ℕ) : Type 0 where
  pub number : to.number ≡ from.number + 1
  pub at : to.at ≡ from.at + item
  pub sent : to.sent ≡ from.sent + reply

-- The next request was answered, and its reply is behind what was there; or there is none, and all is as it was.
pub record HasAnswered (tree : Tree) (from to : Answered) (bytes old new : List ℕ) (end : ℕ) : Type 0 where
  pub request : Request
  pub reply : List ℕ
  pub next : IsNext from.number bytes request end
  pub reply_is : IsReplyOf request tree reply
  pub moved : HasMoved from to end (length reply)
  pub put : new ≡ old ++ reply

abbrev pub AnswersOne : Tree → Answered → Answered → List ℕ → List ℕ → List ℕ → Option ℕ → Type 0
AnswersOne tree from to bytes old new (Some end) = HasAnswered tree from to bytes old new end
AnswersOne tree from to bytes old new None = IsOver from.number bytes × (to ≡ from) × (new ≡ old)

-- ---- some requests

-- Of these bytes some requests were answered with these replies, and the rest is left.
pub record Advances (tree : Tree) (from to : Answered) (bytes rest replies : List ℕ) : Type 0 where
  pub requests : List Request
  pub split : bytes ≡ flat_map request_bytes requests ++ rest
  pub requests_are : All IsRequest requests
  pub fits : All FitsRequest requests
  pub replies_are : (r : RepositoryState) → StoresRepository tree r → AreReplies r requests replies
  pub recorded : (commits : List Commit) → HoldsCommits tree commits → IsRecordedSum commits requests (length replies)
  pub number : to.number ≡ from.number + length requests
  pub at : to.at ≡ from.at + length (flat_map request_bytes requests)
  pub sent : to.sent ≡ from.sent + length replies

-- what the count of requests and the length of replies keep within
pub record IsWithin (answered : Answered) : Type 0 where
  pub few : answered.number ≤ REQUESTS_LIMIT
  pub room : answered.sent ≤ MESSAGE_LIMIT

-- all requests that stand there one behind the other were answered: they have so many bytes
pub record AnswersAll (tree : Tree) (from to : Answered) (bytes old new : List ℕ) (used : ℕ) : Type 0 where
  pub replies : List ℕ
  pub advances : Advances tree from to bytes (drop used bytes) replies
  pub over : IsOver to.number (drop used bytes)
  pub put : new ≡ old ++ replies

-- the next item decides: it is at fault, or the request has no reply
abbrev pub Decides : Tree → Answered → List ℕ → Refusal → Type 0
Decides tree answered rest refusal =
    ((refusal ≡ Malformed answered.at) × IsFault answered.number rest)
    ⊎ ((r : RepositoryState) → StoresRepository tree r → IsRefusedNext r answered.number answered.sent rest refusal)

-- behind some requests that are answered the next item decides
pub record IsDecided (tree : Tree) (from : Answered) (bytes : List ℕ) (refusal : Refusal) : Type 0 where
  pub to : Answered
  pub rest : List ℕ
  pub replies : List ℕ
  pub advances : Advances tree from to bytes rest replies
  pub within : IsWithin to
  pub decides : Decides tree to rest refusal

-- the next request is one with which a damaged content is sent
pub record IsDamagedNext (troves : List TroveParts) (number : ℕ) (bytes : List ℕ) (tree : Tree) (path : Name) : Type 0 where
  pub request : Request
  pub to : ℕ
  pub next : IsNext number bytes request to
  pub damaged : IsDamagedFor troves request tree path

-- behind some requests, none of which is refused, stands one with which a damaged content is sent
pub record IsDamagedBehind (troves : List TroveParts) (from : Answered) (bytes : List ℕ) (tree : Tree) (path : Name) : Type 0 where
  pub requests : List Request
  pub sum : ℕ
  pub recorded : (commits : List Commit) → HoldsCommits tree commits → IsRecordedSum commits requests sum
  pub room : from.sent + sum ≤ MESSAGE_LIMIT
  pub request : Request
  pub more : List ℕ
  pub few : from.number + length requests < REQUESTS_LIMIT
  pub requests_are : All IsRequest requests
  pub fits : All FitsRequest requests
  pub valid : IsRequest request
  pub fit : FitsRequest request
  pub split : bytes ≡ flat_map request_bytes requests ++ (request_bytes request ++ more)
  pub damaged : IsDamagedFor troves request tree path

-- ---- the end

-- At `at` the end item doesn't stand, and the place is where the bytes end; or it stands there, and more behind it.
abbrev pub IsLastFault : List ℕ → ℕ → ℕ → Type 0
IsLastFault bytes at place = ((begins_with request_end (drop at bytes) ≡ false) × (place ≡ length bytes)) ⊎ GoesOn bytes at place
