-- Which troves of a repository are sent to one that has others.
use Rattle.std.specs.Prelude.{◌≡◌, ◌≢◌, ℕ, not, nat_lt, if◌then◌else◌, Bool, List, [], ◌∷◌, ◌++◌, length, take, drop, filter, Option, Some, None, Result, Ok, Err}
use Rattle.std.specs.List.{list_any}
use Rattle.change_set.specs.cny-base.declared.limits.TheConstants.{PARTS_LIMIT}
use Rattle.change_set.specs.cny-base.declared.refusal.Fault.{Fault}
use Rattle.change_set.specs.cny-base.declared.refusal.Fault.TheVariants as fault
use Rattle.change_set.specs.cny-base.declared.refusal.Refusal.{Refusal}
use Rattle.change_set.specs.cny-base.declared.refusal.Refusal.TheVariants.{TooLarge}
use Rattle.change_set.specs.cny-base.declared.refusal.What.TheVariants as what
use Rattle.change_set.specs.trove-parts.declared.id.TroveId.{TroveId}
use Rattle.change_set.specs.trove-stream.declared.parts.TroveParts.{TroveParts}
use Rattle.repo_index.specs.Catalogue.{has_id}
use Rattle.repo_load.specs.State.{troves_of, Commit}
use Rattle.repo_mirror.specs.Lengths.{set_length}
use Rattle.repo_mirror.specs.declared.missing_troves.TheConstants.{SENT_LIMIT}

-- the trove has one of these ids
abbrev pub has_one_of : List TroveId → TroveParts → Bool
has_one_of ids t = list_any (λ (id : TroveId). has_id id t) ids

-- the troves that have none of these ids, in their order
abbrev pub missing_of : List TroveId → List TroveParts → List TroveParts
missing_of ids troves = filter (λ (t : TroveParts). not (has_one_of ids t)) troves

-- The troves are too many for a change set, with their number; or its stream is too long for a reply, with its length.
abbrev pub too_much : List TroveParts → Option Refusal
too_much troves =
    if nat_lt PARTS_LIMIT (length troves) then Some (TooLarge what.ChangeSet (length troves))
    else if nat_lt SENT_LIMIT (set_length troves) then Some (TooLarge what.ChangeSet (set_length troves))
    else None

-- The missing troves of the first commits, as many as may be sent at once: those of no longer beginning may be. There are
-- none only where nothing is missing.
pub record AreMissing (ids : List TroveId) (commits : List Commit) (troves : List TroveParts) : Type 0 where
  pub first : List Commit
  pub rest : List Commit
  pub split : commits ≡ first ++ rest
  pub are : troves ≡ missing_of ids (troves_of first)
  pub fit : too_much troves ≡ None
  pub longest : (more after : List Commit) → rest ≡ more ++ after → more ≢ [] → too_much (missing_of ids (troves_of (first ++ more))) ≢ None
  pub some : troves ≡ [] → missing_of ids (troves_of commits) ≡ []

-- Those of the first commit that has any are too much by themselves, so that none can ever be sent.
pub record IsTooMuch (ids : List TroveId) (commits : List Commit) (refusal : Refusal) : Type 0 where
  pub before : List Commit
  pub commit : Commit
  pub after : List Commit
  pub split : commits ≡ before ++ commit ∷ after
  pub none : missing_of ids (troves_of before) ≡ []
  pub refused : too_much (missing_of ids commit) ≡ Some refusal

-- What is sent of these commits to a repository that has troves of these ids, or why nothing can be.
abbrev pub IsMissing : List TroveId → List Commit → Result (List TroveParts) Refusal → Type 0
IsMissing ids commits (Ok troves) = AreMissing ids commits troves
IsMissing ids commits (Err refusal) = IsTooMuch ids commits refusal

-- that refusal, or want of memory
abbrev pub IsTooMuchOrMemory : List TroveId → List Commit → Fault → Type 0
IsTooMuchOrMemory ids commits (fault.Refused refusal) = IsTooMuch ids commits refusal
IsTooMuchOrMemory ids commits fault.Memory = Unit {0}

-- the commits of these troves, of which each has so many
abbrev pub commits_of : List TroveParts → List ℕ → List Commit
commits_of troves [] = []
commits_of troves (count ∷ counts) = take count troves ∷ commits_of (drop count troves) counts
