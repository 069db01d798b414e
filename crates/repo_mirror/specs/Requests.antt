-- Requests to a repository, and their one stream.
use Rattle.std.specs.Prelude.{◌≡◌, ◌⊎◌, ℕ, ◌≤◌, nat_lt, if◌then◌else◌, IsTrue, List, [], ◌∷◌, ◌++◌, length, flat_map, All}
use Rattle.cny_stream.specs.Item.{FitsItem, item_bytes}
use Rattle.change_set.specs.cny-base.Name.{is_name}
use Rattle.change_set.specs.trove-parts.declared.id.TroveId.{TroveId}
use Rattle.change_set.specs.trove-parts.Id.{id_bytes}
use Rattle.change_set.specs.trove-parts.Refs.{AreRefs}
use Rattle.repo_mirror.specs.declared.request.Request.{Request}
use Rattle.repo_mirror.specs.declared.request.Request.TheVariants.{Named, Content, Missing}
use Rattle.repo_mirror.specs.declared.request.TheConstants.{REQUESTS_LIMIT}

-- ---- requests

-- the ids strictly rise by name, version text and flavor text
abbrev pub IsRequest : Request → Type 0
IsRequest (Named name) = IsTrue (is_name name)
IsRequest (Content name) = length name ≡ 20
IsRequest (Missing ids) = AreRefs ids

abbrev pub request_tag : Request → ℕ
request_tag (Named name) = 0x70
request_tag (Content name) = 0x71
request_tag (Missing ids) = 0x72

-- ids, one behind the other
abbrev pub ids_bytes : List TroveId → List ℕ
ids_bytes ids = flat_map id_bytes ids

abbrev pub request_value : Request → List ℕ
request_value (Named name) = name
request_value (Content name) = name
request_value (Missing ids) = ids_bytes ids

abbrev pub request_bytes : Request → List ℕ
request_bytes request = item_bytes (request_tag request) (request_value request)

abbrev pub FitsRequest : Request → Type 0
FitsRequest request = FitsItem (request_value request)

-- ---- the stream

-- `CNYRQ01` and a line feed
abbrev pub request_magic : List ℕ
request_magic = 67 ∷ 78 ∷ 89 ∷ 82 ∷ 81 ∷ 48 ∷ 49 ∷ 10 ∷ []

abbrev pub request_end : List ℕ
request_end = item_bytes 0x7F []

-- the bytes are the magic, an item for each of the requests, and the end item
pub record IsRequestStream (requests : List Request) (bytes : List ℕ) : Type 0 where
  pub few : length requests ≤ REQUESTS_LIMIT
  pub requests_are : All IsRequest requests
  pub fits : All FitsRequest requests
  pub text : bytes ≡ request_magic ++ (flat_map request_bytes requests ++ request_end)

-- ---- what may follow

-- a request or the end; behind the greatest number of requests the end alone
abbrev pub request_tags : ℕ → List ℕ
request_tags requests = if nat_lt requests REQUESTS_LIMIT then 0x70 ∷ 0x71 ∷ 0x72 ∷ 0x7F ∷ [] else 0x7F ∷ []

-- the item is that of this request
pub record IsItemOf (tag : ℕ) (value : List ℕ) (request : Request) : Type 0 where
  pub valid : IsRequest request
  pub tagged : tag ≡ request_tag request
  pub spelled : value ≡ request_value request

-- the item of a request, or the end
abbrev pub IsGoodRequest : ℕ → List ℕ → Type 0
IsGoodRequest tag value = ((request : Request) × IsItemOf tag value request) ⊎ ((tag ≡ 0x7F) × (value ≡ []))
