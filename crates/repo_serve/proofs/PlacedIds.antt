-- The ids of the troves at some places.
use Rattle.std.proofs.Common.{◌≡◌, ℕ, List, [], ◌∷◌, ◌++◌, map, Option, Some, None, ap, ◌∙◌, append-nil, slice_get}
use Rattle.std.specs.List.{cons_option}
use Rattle.std.proofs.lemmas.Grind.{flat_map-append}
use Rattle.std.proofs.lemmas.List.{map-append}
use Rattle.std.proofs.lemmas.List.Elements.{filter_map-append}
use Rattle.repo_load.specs.trove-parts.Id.{id_bytes}
use Rattle.repo_load.specs.trove-parts.declared.id.TroveId.{TroveId}
use Rattle.repo_load.specs.trove-stream.declared.parts.TroveParts.{TroveParts}
use Rattle.repo_index.specs.Places.{troves_at}
use Rattle.repo_mirror.specs.Requests.{ids_bytes}
use Rattle.repo_serve.specs.Reply.{id_of}

abbrev pub ids_at : List TroveParts → List ℕ → List TroveId
ids_at troves places = map id_of (troves_at troves places)

module _ (troves : List TroveParts) (places : List ℕ) (place : ℕ) where
  pushed : troves_at troves (places ++ place ∷ []) ≡ troves_at troves places ++ cons_option (slice_get troves place) []
  pushed = filter_map-append (slice_get troves) places (place ∷ [])

  -- one more
  pub one_more : (t : TroveParts) → slice_get troves place ≡ Some t → ids_at troves (places ++ place ∷ []) ≡ ids_at troves places ++ id_of t ∷ []
  one_more t is =
      ap (map id_of) (pushed ∙ ap (λ (o : Option TroveParts). troves_at troves places ++ cons_option o []) is) ∙ map-append id_of (troves_at troves places) (t ∷ [])

  -- none there
  pub none_more : slice_get troves place ≡ None → ids_at troves (places ++ place ∷ []) ≡ ids_at troves places
  none_more is = ap (map id_of) (pushed ∙ ap (λ (o : Option TroveParts). troves_at troves places ++ cons_option o []) is ∙ append-nil (troves_at troves places))

-- the bytes of one more
pub bytes_more : (ids : List TroveId) (id : TroveId) → ids_bytes (ids ++ id ∷ []) ≡ ids_bytes ids ++ id_bytes id
bytes_more ids id = flat_map-append id_bytes ids (id ∷ []) ∙ ap (λ (l : List ℕ). ids_bytes ids ++ l) (append-nil (id_bytes id))
