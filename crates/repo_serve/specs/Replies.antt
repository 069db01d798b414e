-- The replies of a repository to a stream of requests.
use Rattle.std.specs.Prelude.{◌≡◌, ◌≢◌, ◌⊎◌, ℕ, ◌+◌, ◌<◌, ◌≤◌, List, [], ◌∷◌, ◌++◌, length, drop, flat_map, All, Result, Ok, Err}
use Rattle.repo_mirror.specs.cny-base.declared.limits.TheConstants.{MESSAGE_LIMIT}
use Rattle.repo_mirror.specs.cny-base.declared.refusal.Refusal.{Refusal}
use Rattle.repo_mirror.specs.cny-base.declared.refusal.Refusal.TheVariants.{Malformed, TooLarge}
use Rattle.repo_mirror.specs.cny-base.declared.refusal.What.TheVariants.{Message}
use Rattle.repo_mirror.specs.Faults.{IsItemFault, LacksMagic}
use Rattle.repo_mirror.specs.Replies.{reply_end, reply_magic}
use Rattle.repo_mirror.specs.Requests.{request_bytes, request_end, request_magic, request_tags, FitsRequest, IsGoodRequest, IsRequest, IsRequestStream}
use Rattle.repo_mirror.specs.declared.request.Request.{Request}
use Rattle.repo_mirror.specs.declared.request.TheConstants.{REQUESTS_LIMIT}
use Rattle.repo_load.specs.State.{RepositoryState}
use Rattle.repo_serve.specs.Reply.{IsReplyLength, IsReplyTo}

-- ---- all replies

-- the bytes are the replies to these requests, one behind the other
abbrev pub AreReplies : RepositoryState → List Request → List ℕ → Type 0
AreReplies r [] bytes = bytes ≡ []
AreReplies r (request ∷ requests) bytes =
    (reply : List ℕ) × (rest : List ℕ) × IsReplyTo r request (Ok reply) × AreReplies r requests rest × (bytes ≡ reply ++ rest)

-- the stream of replies: the magic, the replies, and the end item
abbrev pub reply_stream : List ℕ → List ℕ
reply_stream replies = reply_magic ++ (replies ++ reply_end)

-- The stream is one of requests, and this is the stream of their replies, which is no longer than a message may be.
pub record IsServed (r : RepositoryState) (stream out : List ℕ) : Type 0 where
  pub requests : List Request
  pub replies : List ℕ
  pub stream_is : IsRequestStream requests stream
  pub replies_are : AreReplies r requests replies
  pub is : out ≡ reply_stream replies
  pub fits : length out ≤ MESSAGE_LIMIT

-- ---- the first item that isn't answered

-- the bytes are the magic, and an item for each of these requests
pub record AreRequests (requests : List Request) (bytes : List ℕ) : Type 0 where
  pub few : length requests ≤ REQUESTS_LIMIT
  pub requests_are : All IsRequest requests
  pub fits : All FitsRequest requests
  pub text : bytes ≡ request_magic ++ flat_map request_bytes requests

-- these requests have replies that have room in a message, and these are they
pub record AreAnswered (r : RepositoryState) (requests : List Request) (front replies : List ℕ) : Type 0 where
  pub requests_are : AreRequests requests front
  pub replies_are : AreReplies r requests replies
  pub fits : length (reply_stream replies) ≤ MESSAGE_LIMIT

-- behind the end item, which begins at `at`, there is more
pub record GoesOn (stream : List ℕ) (at place : ℕ) : Type 0 where
  pub rest : List ℕ
  pub spelled : drop at stream ≡ request_end ++ rest
  pub more : rest ≢ []
  pub place_is : place ≡ at + 5

-- At `at`, behind so many requests, stands neither a request nor the end, or the stream doesn't end with its end item. No more
-- than the greatest number of requests may stand there.
abbrev pub IsFaultAt : ℕ → List ℕ → ℕ → ℕ → Type 0
IsFaultAt number stream at place = IsItemFault IsGoodRequest (request_tags number) at stream place ⊎ GoesOn stream at place

-- The stream of replies, its end counted, has so many bytes; with the reply to this request it would be longer than a message may
-- be, and so long.
pub record IsTooLong (r : RepositoryState) (request : Request) (sent : ℕ) (refusal : Refusal) : Type 0 where
  pub len : ℕ
  pub len_is : IsReplyLength r request len
  pub long : MESSAGE_LIMIT < sent + len
  pub refused : refusal ≡ TooLarge Message (sent + len)

-- there is no reply to a request: what is missing is too much to be sent, or the reply is too long
abbrev pub IsUnanswered : RepositoryState → Request → ℕ → Refusal → Type 0
IsUnanswered r request sent refusal = IsReplyTo r request (Err refusal) ⊎ IsTooLong r request sent refusal

-- behind so many requests stands one that has no reply
pub record IsRefusedNext (r : RepositoryState) (number sent : ℕ) (rest : List ℕ) (refusal : Refusal) : Type 0 where
  pub request : Request
  pub more : List ℕ
  pub few : number < REQUESTS_LIMIT
  pub valid : IsRequest request
  pub fits : FitsRequest request
  pub spelled : rest ≡ request_bytes request ++ more
  pub refused : IsUnanswered r request sent refusal

abbrev pub IsMalformedAt : (ℕ → Type 0) → Refusal → Type 0
IsMalformedAt P refusal = (place : ℕ) × (refusal ≡ Malformed place) × P place

-- Behind the first requests, which are answered, the stream is at fault, or the next request has no reply.
pub record IsStopped (r : RepositoryState) (stream : List ℕ) (refusal : Refusal) : Type 0 where
  pub requests : List Request
  pub front : List ℕ
  pub rest : List ℕ
  pub replies : List ℕ
  pub split : stream ≡ front ++ rest
  pub answered : AreAnswered r requests front replies
  pub decides : IsMalformedAt (IsFaultAt (length requests) stream (length front)) refusal
      ⊎ IsRefusedNext r (length requests) (length (reply_stream replies)) rest refusal

-- ---- the outcome

-- The stream of replies to a stream of requests; or the refusal of the first item that isn't answered: it is at fault, or it has
-- no reply.
abbrev pub Replies : RepositoryState → List ℕ → Result (List ℕ) Refusal → Type 0
Replies r stream (Ok out) = IsServed r stream out
Replies r stream (Err refusal) = IsMalformedAt (LacksMagic request_magic stream) refusal ⊎ IsStopped r stream refusal
