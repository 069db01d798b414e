-- Ids that move, the refusal of versions that are too long, and references.
use Rattle.std.proofs.Common.{◌≡◌, ℕ, zero, suc, ◌≤◌, Bool, true, false, cond, List, [], ◌∷◌, length, get_or, map, slice_get, Contains, All, Option, Some, None, sym, ap, subst, ◌∙◌, true≢false, arith}
use Rattle.std.specs.Prelude.{IsTrue}
use Rattle.std.specs.Str.{bytes_eq}
use Rattle.std.specs.Cmp.{first_so}
use Rattle.std.specs.List.{dedup, dedup_from}
use Rattle.std.specs.List.Retain.{IsFiltered, DiffersFromLast}
use Rattle.std.specs.List.Sorted.{IsPermutation, IsSorted}
use Rattle.std.proofs.lemmas.Bool.{lt-ltb, le-ltb}
use Rattle.std.proofs.lemmas.List.Elements.{All-contains}
use Rattle.std.proofs.lemmas.List.Filters.{dedup_is}
use Rattle.std.proofs.lemmas.List.Kept.{Any-dedup, Contains-from_dedup, IsStrictlySortedBy-dedup}
use Rattle.std.proofs.lemmas.List.Sorted.{Contains-permutation, IsPermutation-sym, length_permutation}
use Rattle.std.proofs.lemmas.Option.{same_Some, slice_get-get_or, slice_get_within}
use Rattle.std.proofs.lemmas.Slice.Eq.{bytes_eq-Decides}
use Rattle.update_job.specs.cny-base.Name.{kind_of_name}
use Rattle.update_job.specs.cny-base.declared.limits.TheConstants.{VERSION_LIMIT}
use Rattle.update_job.specs.cny-base.declared.refusal.Fault.{Fault}
use Rattle.update_job.specs.cny-base.declared.refusal.Fault.TheVariants.{Refused, Memory}
use Rattle.update_job.specs.cny-base.declared.refusal.Refusal.{Refusal}
use Rattle.update_job.specs.cny-base.declared.refusal.Refusal.TheVariants as refusal
use Rattle.update_job.specs.cny-base.declared.refusal.What.TheVariants as what
use Rattle.update_job.specs.trove-stream.Installed.{IsNameless, IsPlaceOf}
use Rattle.update_job.specs.trove-parts.declared.id.TroveId.{TroveId}
use Rattle.update_job.specs.trove-parts.Id.{IsTroveId}
use Rattle.update_job.specs.trove-parts.Order.{id_cmp, id_eq, id_equiv, id_total, id_ties}
use Rattle.update_job.specs.trove-stream.declared.parts.TroveParts.{TroveParts}
use Rattle.root_edits.specs.Moved.{is_moving, keeps_others, local_id, local_ref, local_refs, local_size, too_long, AreLocalRefs}
use Rattle.root_edits.specs.Steps.{HasIdAt, IsTooLong}
use Rattle.root_edits.proofs.Members.{filter_short}
use Rattle.cny_version.specs.cny-base.Refusals.{IsRefusalOrMemory}
use Rattle.cny_version.proofs.cny-base.Lists.{all_from, contains_at, place_in, one_passes}
use Rattle.cny_version.proofs.cny-base.Recorded.{any_of}
use Rattle.cny_version.proofs.cny-base.Bools.{not_true}

-- ---- faults

-- ---- the first version that is too long

abbrev too_long_by : Bool → TroveId → Option Refusal → Option Refusal
too_long_by b id rest = cond b (Some (refusal.TooLarge what.Version (local_size id))) rest

pub next_fits : (t : TroveParts) (rest : List TroveParts) → local_size t.id ≤ VERSION_LIMIT → too_long (t ∷ rest) ≡ too_long rest
next_fits t rest fits = ap (λ (b : Bool). too_long_by b t.id (too_long rest)) (le-ltb VERSION_LIMIT (local_size t.id) fits)

pub next_fault : (t : TroveParts) (rest : List TroveParts) (fault : Fault) → IsTooLong t.id fault → IsRefusalOrMemory (too_long (t ∷ rest)) fault
next_fault t rest (Refused reason) long =
    ap (λ (b : Bool). too_long_by b t.id (too_long rest)) (lt-ltb VERSION_LIMIT (local_size t.id) long.1) ∙ ap (λ (r : Refusal). Some r) (sym long.0)
next_fault t rest Memory long = tt

-- ---- the trove of an id

-- ids that `==` takes for equal are one
abbrev pub SameIds : Type 0
SameIds = (a b : TroveId) → IsTroveId a → IsTroveId b → IsTrue (id_eq a b) → a ≡ b

-- names of equal ids are equal
names_same : (a b : TroveId) → id_eq a b ≡ true → a.name ≡ b.name
names_same a b is = (bytes_eq-Decides a.name b.name).0 (first_so (bytes_eq a.name b.name) _ (first_so _ _ is))

-- no trove has the name, so none has the id
pub nameless_stays : (troves : List TroveParts) (id : TroveId) → IsNameless id.name troves → is_moving troves id ≡ false
nameless_stays troves id none = not_true (is_moving troves id) (λ is.
    let one = one_passes (λ (t : TroveParts). id_eq t.id id) troves is in
    none one.0 one.1 (names_same one.0.id id one.2))

-- the trove of the name has another id, so none has it
pub other_stays : (troves : List TroveParts) (id : TroveId) (place : ℕ) (t : TroveParts) → slice_get troves place ≡ Some t → ((p : ℕ) → IsPlaceOf id.name troves p → Some place ≡ Some p) → id_eq t.id id ≡ false
    → is_moving troves id ≡ false
other_stays troves id place t at only differs = not_true (is_moving troves id) (λ is.
    let one = one_passes (λ (u : TroveParts). id_eq u.id id) troves is in
    let among = place_in troves one.0 one.1 in
    let same : place ≡ among.0 = same_Some place among.0 (only among.0 (record { trove = one.0; there = among.2; named = names_same one.0.id id one.2 })) in
    let both : t ≡ one.0 = same_Some t one.0 (sym at ∙ ap (slice_get troves) same ∙ among.2) in
    true≢false (sym one.2 ∙ ap (λ (u : TroveParts). id_eq u.id id) (sym both) ∙ differs))

-- one has it
pub id_moves : (troves : List TroveParts) (id : TroveId) (place : ℕ) → HasIdAt troves id place → is_moving troves id ≡ true
id_moves troves id place has =
    any_of (λ (t : TroveParts). id_eq t.id id) troves has.trove (contains_at troves place has.trove has.there) (ap (λ (i : TroveId). id_eq i id) has.id_is ∙ id_equiv.refl id)

-- ---- references

at_map : {A B : Type 0} (f : A → B) (xs : List A) (i : ℕ) (x : A) → slice_get xs i ≡ Some x → slice_get (map f xs) i ≡ Some (f x)
at_map f [] i x at = absurd (cc at)
at_map {B = B} f (y ∷ xs) zero x at = ap (λ z. Some (f z)) (same_Some y x at)
at_map f (y ∷ xs) (suc i) x at = at_map f xs i x at

-- the new id at the place of a trove
pub id_at : (troves : List TroveParts) (ids : List TroveId) (place : ℕ) (t : TroveParts) → ids ≡ map (λ (u : TroveParts). local_id u.id) troves → slice_get troves place ≡ Some t → slice_get ids place ≡ Some (local_id t.id)
id_at troves ids place t is at = ap (λ (l : List TroveId). slice_get l place) is ∙ at_map (λ (u : TroveParts). local_id u.id) troves place t at

-- a reference to a trove that moves
pub ref_moves : (keeps : Bool) (troves : List TroveParts) (id : TroveId) → is_moving troves id ≡ true → local_ref keeps troves id ≡ Some (local_id id)
ref_moves keeps troves id is = ap (λ (b : Bool). cond b (Some (local_id id)) (cond keeps (Some id) None)) is

-- no more stay than there were
dedup_from_short : (k : TroveId) (xs : List TroveId) → length (dedup_from id_eq k xs) ≤ suc (length xs)
dedup_from_short k [] = omega arith
dedup_from_short k (x ∷ xs) = by (id_eq x k) (dedup_from_short k xs) (dedup_from_short x xs)
  where
    by : (b : Bool) → length (dedup_from id_eq k xs) ≤ suc (length xs) → length (dedup_from id_eq x xs) ≤ suc (length xs) → length (cond b (dedup_from id_eq k xs) (k ∷ dedup_from id_eq x xs)) ≤ suc (suc (length xs))
    by true same other = omega (arith, same)
    by false same other = omega (arith, other)

dedup_short : (xs : List TroveId) → length (dedup id_eq xs) ≤ length xs
dedup_short [] = omega arith
dedup_short (x ∷ xs) = dedup_from_short x xs

pub refs_few : (troves : List TroveParts) (t : TroveParts) (refs sorted kept made : List TroveId) → refs ≡ local_refs troves t → IsPermutation refs sorted → IsFiltered (DiffersFromLast id_eq) [] sorted kept → made ≡ kept
    → length made ≤ length t.refs
refs_few troves t refs sorted kept made is moved filtered made_is =
    let kept_len = ap (λ (l : List TroveId). length l) (made_is ∙ dedup_is id_eq sorted kept filtered) in
    let short = dedup_short sorted in
    let same = length_permutation refs sorted moved in
    let told = ap (λ (l : List TroveId). length l) is in
    let few = filter_short (local_ref (keeps_others (kind_of_name t.id.name)) troves) t.refs in
    omega (arith, kept_len, short, same, told, few)

-- sorted and each once
pub refs_once : SameIds → (troves : List TroveParts) (t : TroveParts) (refs sorted kept made : List TroveId) → refs ≡ local_refs troves t → All IsTroveId refs → IsPermutation refs sorted → IsSorted id_cmp sorted
    → IsFiltered (DiffersFromLast id_eq) [] sorted kept → made ≡ kept → AreLocalRefs troves t made × All IsTroveId made
refs_once same_ids troves t refs sorted kept made is valid moved order filtered made_is =
    let kept_is : kept ≡ dedup id_eq sorted = dedup_is id_eq sorted kept filtered in
    let in_refs : (id : TroveId) → Contains (dedup id_eq sorted) id → Contains refs id =
    λ id h. Contains-permutation sorted refs id (IsPermutation-sym refs sorted moved) (Contains-from_dedup id_eq sorted id h) in
    subst (λ (l : List TroveId). AreLocalRefs troves t l × All IsTroveId l) (sym (made_is ∙ kept_is)) (
      record {
        rising = IsStrictlySortedBy-dedup id_total id_ties sorted order;
        each = λ id. (
          (λ h. subst (λ (l : List TroveId). Contains l id) is (in_refs id h)),
          (λ h.
              let there : Contains refs id = subst (λ (l : List TroveId). Contains l id) (sym is) h in
              let a = Any-dedup id_equiv sorted id (Contains-permutation refs sorted id moved there) in
              let among : Contains (dedup id_eq sorted) a.1 = (a.0, a.2, a.3) in
              let same : id ≡ a.1 = same_ids id a.1 (All-contains IsTroveId refs id valid there) (All-contains IsTroveId refs a.1 valid (in_refs a.1 among)) a.4 in
              subst (Contains (dedup id_eq sorted)) (sym same) among),
        );
      },
      all_from IsTroveId (dedup id_eq sorted) (λ id h. All-contains IsTroveId refs id valid (in_refs id h)),
    )

-- what is read of the new ids at the place of the trove that has the id
pub new_id_at : (troves : List TroveParts) (ids : List TroveId) (id : TroveId) (place : ℕ) (new : TroveId) → ids ≡ map (λ (u : TroveParts). local_id u.id) troves → HasIdAt troves id place → new ≡ get_or ids place new
    → new ≡ local_id id
new_id_at troves ids id place new is has read =
    let at = id_at troves ids place has.trove is has.there in
    let within = slice_get_within ids place (local_id has.trove.id) at in
    read ∙ same_Some (get_or ids place new) (local_id has.trove.id) (sym (slice_get-get_or ids place new within) ∙ at) ∙ ap local_id has.id_is

pub new_id_in : (troves : List TroveParts) (ids : List TroveId) (id : TroveId) (place : ℕ) (new : TroveId) → ids ≡ map (λ (u : TroveParts). local_id u.id) troves → All IsTroveId ids → HasIdAt troves id place → new ≡ get_or ids place new
    → IsTroveId new
new_id_in troves ids id place new is valid has read =
    let at = id_at troves ids place has.trove is has.there in
    subst IsTroveId (sym read) (valid place new (slice_get_within ids place (local_id has.trove.id) at))
