-- The troves of an expansion that refer only to one another, moved.
use Rattle.std.proofs.Common.{◌≡◌, ℕ, ⊎_elim, Bool, cond, List, [], ◌∷◌, map, find, get_or, Contains, All, None, sym, ap, subst, ◌∙◌, arith}
use Rattle.std.specs.Cmp.Lexicographic.{slice_cmp, nat_list_cmp_total}
use Rattle.std.specs.List.Sorted.{IsStrictlySortedBy}
use Rattle.std.specs.Ordering.{nat_cmp}
use Rattle.std.specs.declared.cmp.Ordering.TheVariants.{Less}
use Rattle.std.proofs.lemmas.Cmp.{tied_itself}
use Rattle.std.proofs.lemmas.List.Elements.{All-contains, All-map, All-from_recursion, recursion_from_All, Contains-get_or}
use Rattle.std.proofs.lemmas.Map.Keys.{sorted_head, sorted_tail}
use Rattle.cny_version.specs.Label.{LabelParts}
use Rattle.cny_version.specs.Version.{last_label}
use Rattle.repo_index.specs.trove-parts.declared.id.TroveId.{TroveId}
use Rattle.repo_index.specs.trove-parts.Order.{id_eq, id_equiv}
use Rattle.repo_index.specs.trove-stream.declared.parts.TroveParts.{TroveParts}
use Rattle.repo_index.specs.Catalogue.{has_id, found}
use Rattle.trove_spec.specs.Expansion.{IsClosedIn}
use Rattle.repo_shadow.specs.declared.way.Way.{Way}
use Rattle.repo_shadow.specs.Moved.{moved_id, moved_ref, moved_trove, moved_troves, moved_ids, is_too_long, too_large_refusal, too_large, exists_refusal, is_taken, taken}
use Rattle.repo_shadow.specs.Steps.{Fits, CanMove, wholly_moved}
use Rattle.repo_shadow.specs.Within.{HasId, RefersWithin, AllReferWithin}
use Rattle.repo_shadow.proofs.Lists.{map_same, find_none, is_found, mapped_none}
use Rattle.repo_shadow.proofs.Versions.{last_moved}
use Rattle.cny_version.proofs.cny-base.Lists.{all_from, contains_cases, contains_map, from_map, not_some}
use Rattle.repo_index.specs.trove-stream.NameOrder.{by_name_cmp, HasRisingNames}

-- ---- names that strictly rise

not_below : (x z : TroveParts) (xs : List TroveParts) → HasRisingNames (x ∷ xs) → Contains xs z → x.id.name ≡ z.id.name → ⊥
not_below x z xs rising among same =
    let below : by_name_cmp x z ≡ Less = All-contains (λ y. by_name_cmp x y ≡ Less) xs z (All-from_recursion (λ y. by_name_cmp x y ≡ Less) xs (sorted_head by_name_cmp x xs rising)) among in
    let itself : slice_cmp nat_cmp z.id.name z.id.name ≡ Less = ap (λ (n : List ℕ). slice_cmp nat_cmp n z.id.name) (sym same) ∙ below in
    absurd (cc (tied_itself nat_list_cmp_total z.id.name, itself))

one_of_name : (troves : List TroveParts) → HasRisingNames troves → (u v : TroveParts) → Contains troves u → Contains troves v → u.id.name ≡ v.id.name → u ≡ v
one_of_name [] rising u v at other same = absurd (let within = at.1 in omega (arith, within))
one_of_name (x ∷ xs) rising u v at other same = ⊎_elim
    (λ first. ⊎_elim
    (λ second. sym first ∙ second)
    (λ later. absurd (not_below x v xs rising later (ap (λ (t : TroveParts). t.id.name) first ∙ same)))
    (contains_cases x v xs other))
    (λ later. ⊎_elim
    (λ second. absurd (not_below x u xs rising later (ap (λ (t : TroveParts). t.id.name) second ∙ sym same)))
    (λ last. one_of_name xs (sorted_tail by_name_cmp x xs rising) u v later last same)
    (contains_cases x v xs other))
    (contains_cases x u xs at)

-- ---- what is asked of the troves that move

module _ (troves : List TroveParts) (moving : List TroveParts) (within : AllReferWithin troves) (there : (t : TroveParts) → Contains moving t → Contains troves t) (closed : IsClosedIn troves moving) where
  -- each reference is that of one that moves
  pub refs_move : (t : TroveParts) → Contains moving t → (id : TroveId) → Contains t.refs id → HasId moving id
  refs_move t among id refers =
      let to : HasId troves id = All-contains (HasId troves) t.refs id (All-contains (RefersWithin troves) troves t within (there t among)) refers in
      record { trove = to.trove; there = closed t to.trove among to.there (subst (λ (i : TroveId). Contains t.refs i) (sym to.id_is) refers); id_is = to.id_is }

  module _ (way : Way) (label : LabelParts) where
    -- ---- each may move

    module _ (rising : HasRisingNames moving) (none : too_large (moved_ids way label moving) ≡ None) where
      fits_each : (t : TroveParts) → Contains moving t → Fits way label t.id
      fits_each t among =
          find_none is_too_long (moved_ids way label moving) (mapped_none too_large_refusal (find is_too_long (moved_ids way label moving)) none) (moved_id way label t.id)
          (contains_map (λ (u : TroveParts). moved_id way label u.id) moving t among)

      ref_fits : (id : TroveId) → HasId moving id → Fits way label id
      ref_fits id to = subst (λ (i : TroveId). Fits way label i) to.id_is (fits_each to.trove to.there)

      refs_apart : (r s : TroveId) → HasId moving r → HasId moving s → r.name ≡ s.name → r ≡ s
      refs_apart r s to other same =
          let names : to.trove.id.name ≡ other.trove.id.name = ap (λ (i : TroveId). i.name) to.id_is ∙ same ∙ ap (λ (i : TroveId). i.name) (sym other.id_is) in
          sym to.id_is ∙ ap (λ (t : TroveParts). t.id) (one_of_name moving rising to.trove other.trove to.there other.there names) ∙ other.id_is

      pub all_can_move : All (CanMove way label) moving
      all_can_move = all_from (CanMove way label) moving (λ t among. record {
        fits = fits_each t among;
        refs_fit = all_from (Fits way label) t.refs (λ id refers. ref_fits id (refs_move t among id refers));
        apart = λ r s at other. refs_apart r s (refs_move t among r at) (refs_move t among s other);
      })

    -- ---- what they become

    pub moves : (id : TroveId) → HasId moving id → moved_ref way label moving id ≡ moved_id way label id
    moves id to =
        ap (λ (b : Bool). cond b (moved_id way label id) id)
        (is_found (has_id id) moving to.trove to.there (ap (λ (i : TroveId). id_eq i id) to.id_is ∙ id_equiv.refl id))

    refs_along : (t : TroveParts) → Contains moving t → wholly_moved way label t ≡ moved_trove way label moving t
    refs_along t among =
        ap (λ (refs : List TroveId). record { id = moved_id way label t.id; files = t.files; refs = refs; requires_ = t.requires_; provides = t.provides })
        (map_same (moved_id way label) (moved_ref way label moving) t.refs (λ id refers. sym (moves id (refs_move t among id refers))))

    pub all_along : map (wholly_moved way label) moving ≡ moved_troves way label moving
    all_along = map_same (wholly_moved way label) (moved_trove way label moving) moving refs_along

    -- they refer only to one another
    pub refs_within : AllReferWithin (moved_troves way label moving)
    refs_within = all_from (RefersWithin made) made (λ t' among. (let t = from_map (moved_trove way label moving) moving t' among in subst (RefersWithin made) t.2 (refers t.0 t.1)))
      where
        made : List TroveParts
        made = moved_troves way label moving

        refers : (t : TroveParts) → Contains moving t → RefersWithin made (moved_trove way label moving t)
        refers t among = all_from (HasId made) (map (moved_ref way label moving) t.refs) (λ id' at. (
            let r = from_map (moved_ref way label moving) t.refs id' at in
            let to = refs_move t among r.0 r.1 in
            record {
              trove = moved_trove way label moving to.trove;
              there = contains_map (moved_trove way label moving) moving to.trove to.there;
              id_is = ap (moved_id way label) to.id_is ∙ sym (moves r.0 to) ∙ r.2;
            }
            ))

-- ---- what holds of them

module _ (way : Way) (label : LabelParts) where
  names_rise : (moving more : List TroveParts) → HasRisingNames more → HasRisingNames (map (moved_trove way label moving) more)
  unfolding IsStrictlySortedBy
  names_rise moving [] rising = tt
  names_rise moving (t ∷ more) rising = (
    recursion_from_All (λ u. by_name_cmp t u ≡ Less) (map (moved_trove way label moving) more)
        (All-map (λ u. by_name_cmp t u ≡ Less) (moved_trove way label moving) more (All-from_recursion (λ u. by_name_cmp t u ≡ Less) more rising.0)),
    names_rise moving more rising.1,
  )

  pub moved_names : (moving : List TroveParts) → HasRisingNames moving → HasRisingNames (moved_troves way label moving)
  moved_names moving rising = names_rise moving moving rising

  pub all_on_label : (moving : List TroveParts) → All (λ (t : TroveParts). last_label t.id.version.branch ≡ label) (moved_troves way label moving)
  all_on_label moving = All-map (λ (t : TroveParts). last_label t.id.version.branch ≡ label) (moved_trove way label moving) moving (λ k d within. last_moved way label (get_or moving k d).id.version)

  pub all_fresh : (troves : List TroveParts) (moving : List TroveParts) → taken troves (moved_ids way label moving) ≡ None → All (λ (t : TroveParts). found t.id troves ≡ None) (moved_troves way label moving)
  all_fresh troves moving none = All-map (λ (t : TroveParts). found t.id troves ≡ None) (moved_trove way label moving) moving (λ k d within. free (get_or moving k d) (Contains-get_or moving k d within))
    where
      free : (t : TroveParts) → Contains moving t → found (moved_id way label t.id) troves ≡ None
      free t among = not_some (found (moved_id way label t.id) troves)
          (find_none (is_taken troves) (moved_ids way label moving) (mapped_none exists_refusal (find (is_taken troves) (moved_ids way label moving)) none) (moved_id way label t.id)
          (contains_map (λ (u : TroveParts). moved_id way label u.id) moving t among))
