-- Ids of the troves of a list, as a look-up finds them.
use Rattle.std.proofs.Common.{◌≡◌, ℕ, true, List, is_some, slice_get, Contains, All, Option, Some, None, sym, ap, ◌∙◌, true≢false}
use Rattle.std.specs.Prelude.{IfSome, IsSome, IsTrue}
use Rattle.std.proofs.lemmas.List.Elements.{All-contains}
use Rattle.std.proofs.lemmas.Option.{slice_get-get_or}
use Rattle.repo_index.specs.trove-parts.declared.id.TroveId.{TroveId}
use Rattle.repo_index.specs.trove-parts.Id.{IsTroveId}
use Rattle.repo_index.specs.trove-parts.Order.{id_eq}
use Rattle.repo_index.specs.trove-stream.declared.parts.TroveParts.{TroveParts}
use Rattle.repo_index.specs.trove-stream.Trove.{IsTrove}
use Rattle.repo_index.specs.Catalogue.{has_id, found}
use Rattle.repo_index.specs.Places.{IsPlaceOf}
use Rattle.repo_shadow.specs.Within.{HasId, RefersWithin, AllReferWithin, AllRefsAreFound}
use Rattle.repo_shadow.proofs.Lists.{find_some, is_some_of}
use Rattle.cny_version.proofs.cny-base.Lists.{all_from, contains_at}

place_in : {A : Type 0} (xs : List A) (x : A) → Contains xs x → (i : ℕ) × (slice_get xs i ≡ Some x)
place_in {A} xs x among = (among.0, slice_get-get_or xs among.0 x among.1 ∙ ap (λ (y : A). Some y) among.2)

-- a place is found exactly where a trove has the id
pub from_place : (troves : List TroveParts) (id : TroveId) (place : Option ℕ) → IfSome place (IsPlaceOf troves id) → is_some place ≡ true → HasId troves id
from_place troves id None is none = absurd (true≢false (sym none))
from_place troves id (Some p) is some = record { trove = is.trove; there = contains_at troves p is.trove is.stands; id_is = is.id_is }

pub to_place : (troves : List TroveParts) (id : TroveId) (place : Option ℕ) → ((p : ℕ) → IsPlaceOf troves id p → place ≡ Some p) → HasId troves id → is_some place ≡ true
to_place troves id place only has =
    let at = place_in troves has.trove has.there in
    ap (λ (o : Option ℕ). is_some o) (only at.0 (record { trove = has.trove; stands = at.1; id_is = has.id_is }))

-- ids that are equal by their texts are one
abbrev pub OneId : Type 0
OneId = (a b : TroveId) → IsTroveId a → IsTroveId b → IsTrue (id_eq a b) → a ≡ b

module _ (one_id : OneId) (troves : List TroveParts) (are : All IsTrove troves) where
  of_found : (id : TroveId) → IsTroveId id → IsSome (found id troves) → HasId troves id
  of_found id valid some =
      let is = is_some_of (found id troves) some in
      let there = find_some (has_id id) troves is.0 is.1 in
      record { trove = is.0; there = there.0; id_is = one_id is.0.id id (All-contains IsTrove troves is.0 are there.0).lists.id valid there.1 }

  pub all_within : AllRefsAreFound troves → AllReferWithin troves
  all_within refs = all_from (RefersWithin troves) troves (λ t among. all_from (HasId troves) t.refs (λ id refers.
      of_found id
      (All-contains IsTroveId t.refs id (All-contains IsTrove troves t are among).lists.refs.valid refers)
      (All-contains (λ (i : TroveId). IsSome (found i troves)) t.refs id (All-contains (λ (u : TroveParts). All (λ (i : TroveId). IsSome (found i troves)) u.refs) troves t refs among) refers)))
