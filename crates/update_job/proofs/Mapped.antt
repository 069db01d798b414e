-- Troves in a map by their names, and the list of such a map.
use Rattle.std.proofs.Common.{◌≡◌, ℕ, zero, suc, ◌+◌, ◌<◌, ◌⊎◌, ⊎_elim, inl, inr, Bool, true, false, cond, List, [], ◌∷◌, length, get_or, take, slice_get, Contains, true≢false, Option, Some, refl, sym, ap, subst, ◌∙◌, arith}
use Rattle.std.specs.BTreeMap.{IsOrdered, values, is_at}
use Rattle.std.specs.Cmp.{Equal-is}
use Rattle.std.specs.Cmp.Lexicographic.{slice_cmp, nat_list_cmp_total}
use Rattle.std.specs.FinMap.{nat_cmp-IsAntisymmetric, slice_cmp-IsAntisymmetric}
use Rattle.std.specs.List.{AllByRecursion}
use Rattle.std.specs.List.Sorted.{IsStrictlySortedBy}
use Rattle.std.specs.Map.{keys_of, values_of}
use Rattle.std.specs.Ordering.{nat_cmp, is_eq}
use Rattle.std.specs.declared.cmp.Ordering.TheVariants.{Less, Equal}
use Rattle.std.proofs.lemmas.Bool.{cases_lt}
use Rattle.std.proofs.lemmas.Cmp.{tied_itself}
use Rattle.std.proofs.lemmas.List.Elements.{Contains-get_or}
use Rattle.std.proofs.lemmas.Map.Entries.{place_from_lookup, btree_map_get_place}
use Rattle.std.proofs.lemmas.Map.Keys.{Less-from_sorted}
use Rattle.std.proofs.lemmas.Option.{slice_get-get_or, slice_get_within, same_Some}
use Rattle.change_set.specs.cny-base.declared.refusal.Fault.{Fault}
use Rattle.change_set.specs.cny-base.declared.refusal.Fault.TheVariants.{Refused, Memory}
use Rattle.change_set.specs.trove-stream.Installed.{by_name, IsRising}
use Rattle.change_set.specs.trove-stream.declared.parts.TroveParts.{TroveParts}
use Rattle.update_job.specs.Lists.{IsOneOfEach, IsUnupdated}
use Rattle.update_job.specs.Places.{ArePlaces}
use Rattle.update_job.specs.ByName.{ByName, found, same, AreNamed, HasPut, HasPutAt, IsAtOne, HasPutAll, AreByName, HasAdmitted, IsNotAdmitted}
use Rattle.update_job.proofs.Elements.{in_more, more_in, next_in}
use Rattle.change_rel.proofs.cny-base.Lists.{contains_at, nothing_in, place_in}

-- ---- names

pub same_means : (x y : List ℕ) → same x y ≡ true → x ≡ y
same_means x y h = slice_cmp-IsAntisymmetric nat_cmp-IsAntisymmetric x y ((Equal-is (slice_cmp nat_cmp x y)).0 h)

pub same_itself : (x : List ℕ) → same x x ≡ true
same_itself x = ap is_eq (tied_itself nat_list_cmp_total x)

pub same_from : (x y : List ℕ) → x ≡ y → same x y ≡ true
same_from x y e = subst (λ (n : List ℕ). same x n ≡ true) e (same_itself x)

-- two troves of a rising list with one name are one trove
less_names : (list : List TroveParts) → IsRising list → (i j : ℕ) (t u : TroveParts) → i < j → slice_get list i ≡ Some t → slice_get list j ≡ Some u → t.id.name ≡ u.id.name → ⊥
less_names list rises i j t u less at_i at_j names =
    let within : j < length list = slice_get_within list j u at_j in
    let below : by_name (get_or list i t) (get_or list j t) ≡ Less = Less-from_sorted by_name list i j t rises less within in
    let first : get_or list i t ≡ t = same_Some (get_or list i t) t (sym (slice_get-get_or list i t (slice_get_within list i t at_i)) ∙ at_i) in
    let second : get_or list j t ≡ u = same_Some (get_or list j t) u (sym (slice_get-get_or list j t within) ∙ at_j) in
    let apart : slice_cmp nat_cmp t.id.name t.id.name ≡ Less =
    ap (slice_cmp nat_cmp t.id.name) names ∙ ap (λ (w : TroveParts). slice_cmp nat_cmp t.id.name w.id.name) (sym second)
    ∙ ap (λ (w : TroveParts). slice_cmp nat_cmp w.id.name (get_or list j t).id.name) (sym first) ∙ below in
    let own : slice_cmp nat_cmp t.id.name t.id.name ≡ Equal = tied_itself nat_list_cmp_total t.id.name in
    absurd (cc (own, apart))

pub one_named : (list : List TroveParts) → IsRising list → (i j : ℕ) (t u : TroveParts) → slice_get list i ≡ Some t → slice_get list j ≡ Some u → t.id.name ≡ u.id.name → t ≡ u
one_named list rises i j t u at_i at_j names = elim (cases_lt i j) [
  | inl less ↦ absurd (less_names list rises i j t u less at_i at_j names)
  | inr most ↦ elim (cases_lt j i) [
    | inl less ↦ absurd (less_names list rises j i u t less at_j at_i (sym names))
    | inr same_place ↦ (let e : i ≡ j = omega (arith, most, same_place) in same_Some t u (sym at_i ∙ ap (slice_get list) e ∙ at_j))
  ]
]

-- ---- one trove put

put_same : (b : Bool) (t : TroveParts) (before now : Option TroveParts) → now ≡ cond b (Some t) before → b ≡ true → now ≡ Some t
put_same b t before now is equal = is ∙ ap (λ (c : Bool). cond c (Some t) before) equal

put_other : (b : Bool) (t : TroveParts) (before now : Option TroveParts) → now ≡ cond b (Some t) before → b ≡ false → now ≡ before
put_other b t before now is other = is ∙ ap (λ (c : Bool). cond c (Some t) before) other

-- ---- the troves at some places

pub put_none : (list : List TroveParts) (old : ByName) → HasPutAll list [] old old
put_none list old = record {
  put = λ name t is. absurd (nothing_in is.place is.among);
  from = λ name t is. inl is;
  kept = λ name t is none. is;
}

module _ (list : List TroveParts) (rises : IsRising list) (places : List ℕ) (i : ℕ) (old before now : ByName) (within : i < length places) (t : TroveParts)
    (at : slice_get list (get_or places i 0) ≡ Some t) (so_far : HasPutAll list (take i places) old before) (puts : HasPut t before now) where
  at_more : (name : List ℕ) (u : TroveParts) → IsAtOne list (take i places) name u → IsAtOne list (take (i + 1) places) name u
  at_more name u is = record { place = is.place; among = more_in places i 0 (get_or places i 0) within refl is.place is.among; there = is.there; named = is.named }

  at_last : (name : List ℕ) → t.id.name ≡ name → IsAtOne list (take (i + 1) places) name t
  at_last name named = record { place = get_or places i 0; among = next_in places i 0 (get_or places i 0) within refl; there = at; named = named }

  put_one : (name : List ℕ) (u : TroveParts) → IsAtOne list (take (i + 1) places) name u → (b : Bool) → same t.id.name name ≡ b → found now name ≡ Some u
  put_one name u is true equal =
      let one : t ≡ u = one_named list rises (get_or places i 0) is.place t u at is.there (same_means t.id.name name equal ∙ sym is.named) in
      put_same (same t.id.name name) t (found before name) (found now name) (puts name) equal ∙ ap (λ (v : TroveParts). Some v) one
  put_one name u is false other =
      put_other (same t.id.name name) t (found before name) (found now name) (puts name) other
      ∙ ⊎_elim
      (λ earlier. so_far.put name u (record { place = is.place; among = earlier; there = is.there; named = is.named }))
      (λ last. absurd (true≢false (sym (same_from t.id.name name (ap (λ (v : TroveParts). v.id.name) (same_Some t u (sym at ∙ ap (slice_get list) last ∙ is.there)) ∙ is.named)) ∙ other)))
      (in_more places i 0 (get_or places i 0) within refl is.place is.among)

  from_one : (name : List ℕ) (u : TroveParts) → found now name ≡ Some u → (b : Bool) → same t.id.name name ≡ b → (found old name ≡ Some u) ⊎ IsAtOne list (take (i + 1) places) name u
  from_one name u is true equal =
      let one : t ≡ u = same_Some t u (sym (put_same (same t.id.name name) t (found before name) (found now name) (puts name) equal) ∙ is) in
      inr (subst (IsAtOne list (take (i + 1) places) name) one (at_last name (same_means t.id.name name equal)))
  from_one name u is false other = ⊎_elim
      (λ there. inl there)
      (λ placed. inr (at_more name u placed))
      (so_far.from name u (sym (put_other (same t.id.name name) t (found before name) (found now name) (puts name) other) ∙ is))

  kept_one : (name : List ℕ) (u : TroveParts) → found old name ≡ Some u → ((v : TroveParts) → IsAtOne list (take (i + 1) places) name v → ⊥) → (b : Bool) → same t.id.name name ≡ b → found now name ≡ Some u
  kept_one name u is none true equal = absurd (none t (at_last name (same_means t.id.name name equal)))
  kept_one name u is none false other =
      put_other (same t.id.name name) t (found before name) (found now name) (puts name) other ∙ so_far.kept name u is (λ v placed. none v (at_more name v placed))

  pub put_more : HasPutAll list (take (i + 1) places) old now
  put_more = record {
    put = λ name u is. put_one name u is (same t.id.name name) refl;
    from = λ name u is. from_one name u is (same t.id.name name) refl;
    kept = λ name u is none. kept_one name u is none (same t.id.name name) refl;
  }

-- what was put so far
pub record PutSoFar (list : List TroveParts) (places : List ℕ) (old new : ByName) : Type 0 where
  pub ordered : IsOrdered (slice_cmp nat_cmp) new
  pub all : HasPutAll list places old new

pub put_next : (list : List TroveParts) → IsRising list → (places : List ℕ) (i : ℕ) (old before now : ByName) → i < length places → ArePlaces list places → PutSoFar list (take i places) old before
    → HasPutAt list (get_or places i 0) before now → IsOrdered (slice_cmp nat_cmp) now → PutSoFar list (take (i + 1) places) old now
put_next list rises places i old before now within stand so_far puts ordered =
    let here = stand (get_or places i 0) (Contains-get_or places i 0 within) in record {
      ordered = ordered;
      all = put_more list rises places i old before now within here.0 here.1 so_far.all (puts here.0 here.1);
    }

-- ---- new troves

-- what was admitted so far
pub record AdmittedSoFar (list : List TroveParts) (troves : ByName) : Type 0 where
  pub ordered : IsOrdered (slice_cmp nat_cmp) troves
  pub all : AreByName list troves

pub once_of : (list : List TroveParts) (troves : ByName) → AreByName list troves → IsOneOfEach list
once_of list troves by t u t_in u_in names = same_Some t u (sym (by.all t t_in) ∙ ap (found troves) names ∙ by.all u u_in)

module _ (list : List TroveParts) (i : ℕ) (t : TroveParts) (before : ByName) (within : i < length list) (is : t ≡ get_or list i t) (so_far : AreByName (take i list) before) where
  admitted_from : (now : ByName) → HasAdmitted before t now → (name : List ℕ) (u : TroveParts) → found now name ≡ Some u → (b : Bool) → same t.id.name name ≡ b → Contains (take (i + 1) list) u × (u.id.name ≡ name)
  admitted_from now adds name u some true equal =
      let one : t ≡ u = same_Some t u (sym (put_same (same t.id.name name) t (found before name) (found now name) (adds.put name) equal) ∙ some) in
      (subst (Contains (take (i + 1) list)) one (next_in list i t t within is), sym (ap (λ (v : TroveParts). v.id.name) one) ∙ same_means t.id.name name equal)
  admitted_from now adds name u some false other =
      let was = so_far.from name u (sym (put_other (same t.id.name name) t (found before name) (found now name) (adds.put name) other) ∙ some) in
      (more_in list i t t within is u was.0, was.1)

  admitted_in : (now : ByName) → HasAdmitted before t now → (u : TroveParts) → Contains (take (i + 1) list) u → (b : Bool) → same t.id.name u.id.name ≡ b → found now u.id.name ≡ Some u
  admitted_in now adds u among true equal =
      let here = put_same (same t.id.name u.id.name) t (found before u.id.name) (found now u.id.name) (adds.put u.id.name) equal in
      let one : t ≡ u = ⊎_elim
      (λ earlier. sym (adds.was u (ap (found before) (same_means t.id.name u.id.name equal) ∙ so_far.all u earlier)))
      (λ last. last)
      (in_more list i t t within is u among) in
      here ∙ ap (λ (v : TroveParts). Some v) one
  admitted_in now adds u among false other =
      put_other (same t.id.name u.id.name) t (found before u.id.name) (found now u.id.name) (adds.put u.id.name) other
      ∙ ⊎_elim
      (λ earlier. so_far.all u earlier)
      (λ last. absurd (true≢false (sym (same_from t.id.name u.id.name (ap (λ (v : TroveParts). v.id.name) last)) ∙ other)))
      (in_more list i t t within is u among)

  pub admitted_more : (now : ByName) → HasAdmitted before t now → AreByName (take (i + 1) list) now
  admitted_more now adds = record {
    from = λ name u some. admitted_from now adds name u some (same t.id.name name) refl;
    all = λ u among. admitted_in now adds u among (same t.id.name u.id.name) refl;
  }

  pub not_admitted : (fault : Fault) → IsNotAdmitted before t fault → IsUnupdated list fault
  not_admitted (Refused refused) another = record {
    place = i;
    trove = t;
    earlier = another.0;
    there = slice_get-get_or list i t within ∙ ap (λ (v : TroveParts). Some v) (sym is);
    before = (so_far.from t.id.name another.0 another.1).0;
    same_name = (so_far.from t.id.name another.0 another.1).1;
    differs = another.2;
    first = once_of (take i list) before so_far;
    refusal_is = another.3;
  }
  not_admitted Memory another = tt

-- ---- the list of a map

-- an entry has the name of its trove as its key
abbrev HasNames : List (List ℕ × TroveParts) → Type 0
HasNames es = (i : ℕ) (k : List ℕ) (t : TroveParts) → slice_get es i ≡ Some (k, t) → t.id.name ≡ k

above : (name : List ℕ) (es : List (List ℕ × TroveParts)) → AllByRecursion (λ (k : List ℕ). slice_cmp nat_cmp name k ≡ Less) (keys_of es) → HasNames es
    → AllByRecursion (λ (u : TroveParts). slice_cmp nat_cmp name u.id.name ≡ Less) (values_of es)
above name [] all named = tt
above name (e ∷ es) all named = (ap (slice_cmp nat_cmp name) (named 0 e.0 e.1 refl) ∙ all.0, above name es all.1 (λ i k t is. named (suc i) k t is))

rises_by : (es : List (List ℕ × TroveParts)) → IsStrictlySortedBy (slice_cmp nat_cmp) (keys_of es) → HasNames es → IsRising (values_of es)
unfolding IsStrictlySortedBy
rises_by [] sorted named = tt
rises_by (e ∷ es) sorted named = (
  subst (λ (n : List ℕ). AllByRecursion (λ (u : TroveParts). slice_cmp nat_cmp n u.id.name ≡ Less) (values_of es)) (sym (named 0 e.0 e.1 refl)) (above e.0 es sorted.0 (λ i k t is. named (suc i) k t is)),
  rises_by es sorted.1 (λ i k t is. named (suc i) k t is),
)

value_place : (es : List (List ℕ × TroveParts)) (i : ℕ) (t : TroveParts) → slice_get (values_of es) i ≡ Some t → (k : List ℕ) × (slice_get es i ≡ Some (k, t))
value_place [] i t is = (let within = slice_get_within [] i t is in absurd (omega (arith, within)))
value_place (e ∷ es) zero t is = (e.0, ap (λ (w : TroveParts). Some (e.0, w)) (same_Some e.1 t is))
value_place (e ∷ es) (suc i) t is = value_place es i t is

value_at : (es : List (List ℕ × TroveParts)) (i : ℕ) (k : List ℕ) (t : TroveParts) → slice_get es i ≡ Some (k, t) → slice_get (values_of es) i ≡ Some t
value_at [] i k t is = (let within = slice_get_within [] i (k, t) is in absurd (omega (arith, within)))
value_at (e ∷ es) zero k t is = ap (λ (w : List ℕ × TroveParts). Some w.1) (same_Some e (k, t) is)
value_at (e ∷ es) (suc i) k t is = value_at es i k t is

module _ (m : ByName) (ordered : IsOrdered (slice_cmp nat_cmp) m) (named : AreNamed m) where
  entries_named : HasNames m.entries
  entries_named i k t is = named k t (btree_map_get_place nat_list_cmp_total m i k t ordered is)

  pub values_rise : IsRising (values m)
  values_rise = rises_by m.entries ordered entries_named

  pub found_value : (t : TroveParts) → Contains (values m) t → found m t.id.name ≡ Some t
  found_value t among =
      let at = place_in (values m) t among in
      let entry = value_place m.entries at.0 t at.2 in
      let here : found m entry.0 ≡ Some t = btree_map_get_place nat_list_cmp_total m at.0 entry.0 t ordered entry.1 in
      ap (found m) (named entry.0 t here) ∙ here

  pub value_found : (name : List ℕ) (t : TroveParts) → found m name ≡ Some t → Contains (values m) t
  value_found name t is =
      let at = place_from_lookup (is_at (slice_cmp nat_cmp name)) m.entries t is in
      contains_at (values m) at.0 t (value_at m.entries at.0 at.1 t at.2)
