-- What a repository asks another one for.
use Rattle.std.specs.Prelude.{◌≡◌, ℕ, nat_lt, if◌then◌else◌, true, List, [], ◌∷◌, ◌++◌, length, Contains, Result, Ok, Err}
use Rattle.change_set.specs.cny-base.declared.limits.TheConstants.{MESSAGE_LIMIT}
use Rattle.change_set.specs.cny-base.declared.refusal.Fault.{Fault}
use Rattle.change_set.specs.cny-base.declared.refusal.Fault.TheVariants as fault
use Rattle.change_set.specs.cny-base.declared.refusal.Refusal.{Refusal}
use Rattle.change_set.specs.cny-base.declared.refusal.Refusal.TheVariants.{TooLarge}
use Rattle.change_set.specs.cny-base.declared.refusal.What.TheVariants.{Message}
use Rattle.change_set.specs.trove-parts.declared.id.TroveId.{TroveId}
use Rattle.change_set.specs.trove-parts.Refs.{AreRefs}
use Rattle.change_set.specs.trove-stream.declared.parts.TroveParts.{TroveParts}
use Rattle.repo_mirror.specs.Requests.{request_bytes, request_end, request_magic, IsRequestStream}
use Rattle.repo_mirror.specs.declared.request.Request.TheVariants.{Missing}
use Rattle.repo_mirror.specs.Missing.{has_one_of}

-- the ids of these troves, and no others, strictly rising
pub record AreIdsOf (troves : List TroveParts) (ids : List TroveId) : Type 0 where
  pub rising : AreRefs ids
  pub each : (t : TroveParts) → Contains troves t → has_one_of ids t ≡ true
  pub own : (id : TroveId) → Contains ids id → (t : TroveParts) × Contains troves t × (t.id ≡ id)

-- the stream with the one request for the troves that have none of these ids
abbrev pub asking_bytes : List TroveId → List ℕ
asking_bytes ids = request_magic ++ (request_bytes (Missing ids) ++ request_end)

-- that stream; where it is longer than a message may be it is refused, with its length
abbrev pub asking : List TroveId → Result (List ℕ) Refusal
asking ids = if nat_lt MESSAGE_LIMIT (length (asking_bytes ids)) then Err (TooLarge Message (length (asking_bytes ids))) else Ok (asking_bytes ids)

-- what a repository with these troves asks for: all troves but its own
pub record IsAsked (troves : List TroveParts) (outcome : Result (List ℕ) Refusal) : Type 0 where
  pub ids : List TroveId
  pub are : AreIdsOf troves ids
  pub is : outcome ≡ asking ids

-- so it asked, or memory ran out
abbrev pub AsksSo : List TroveParts → Result (List ℕ) Fault → Type 0
AsksSo troves (Ok bytes) = IsAsked troves (Ok bytes)
AsksSo troves (Err (fault.Refused refusal)) = IsAsked troves (Err refusal)
AsksSo troves (Err fault.Memory) = Unit {0}

-- the bytes have one request, for the troves that have none of the ids of these
pub record AsksForOthers (troves : List TroveParts) (bytes : List ℕ) : Type 0 where
  pub ids : List TroveId
  pub are : AreIdsOf troves ids
  pub stream : IsRequestStream (Missing ids ∷ []) bytes
