-- The troves whose places are among some.
use Rattle.std.proofs.Common.{◌≡◌, ℕ, zero, suc, ◌+◌, ◌<◌, ⊎_elim, Bool, true, false, cond, List, [], ◌∷◌, ◌++◌, length, get_or, take, slice_get, Contains, eqb, Some, refl, sym, ap, subst, ◌∙◌, arith}
use Rattle.std.specs.List.{list_any, AllByRecursion}
use Rattle.std.proofs.lemmas.Map.Keys.{sorted_head, sorted_tail}
use Rattle.std.proofs.lemmas.Bool.{eqb-true, eq-eqb}
use Rattle.std.proofs.lemmas.Map.Views.{Contains-from_any}
use Rattle.std.proofs.lemmas.List.{length-take}
use Rattle.std.proofs.lemmas.Option.{same_Some}
use Rattle.std.specs.declared.cmp.Ordering.TheVariants.{Less}
use Rattle.update_job.specs.trove-stream.Installed.{by_name, IsPlaceOf, IsRising}
use Rattle.update_job.specs.trove-stream.declared.parts.TroveParts.{TroveParts}
use Rattle.update_job.specs.Gone.{Leads}
use Rattle.root_edits.specs.Reached.{AreReached}
use Rattle.update_job.specs.Places.{ArePlacesFrom}
use Rattle.root_edits.specs.Steps.{chosen}
use Rattle.update_job.proofs.Searching.{reached_also}
use Rattle.root_edits.proofs.Members.{next_one, rises_cons}
use Rattle.cny_version.proofs.cny-base.Recorded.{any_of}
use Rattle.cny_version.proofs.cny-base.Lists.{contains_cases, contains_first, contains_rest, nothing_in}
use Rattle.cny_version.proofs.cny-base.Sorted.{rising_nil as rises_none}

module _ (places : List ℕ) where
  -- one trove more
  pub chosen_push : (k : ℕ) (xs : List TroveParts) (x : TroveParts) → chosen places k (xs ++ x ∷ []) ≡ chosen places k xs ++ cond (list_any (eqb (k + length xs)) places) (x ∷ []) []
  chosen_push k [] x =
      let first : k + 0 ≡ k = omega arith in
      ap (λ (n : ℕ). cond (list_any (eqb n) places) (x ∷ []) []) (sym first)
  chosen_push k (y ∷ ys) x =
      let next : suc k + length ys ≡ k + suc (length ys) = omega arith in
      let more = cond (list_any (eqb (k + suc (length ys))) places) (x ∷ []) [] in
      let rest : chosen places (suc k) (ys ++ x ∷ []) ≡ chosen places (suc k) ys ++ more =
      chosen_push (suc k) ys x ∙ ap (λ (n : ℕ). chosen places (suc k) ys ++ cond (list_any (eqb n) places) (x ∷ []) []) next in
      ap (λ (l : List TroveParts). cond (list_any (eqb k) places) (y ∷ l) l) rest ∙ by (list_any (eqb k) places) (chosen places (suc k) ys) more
    where
      by : (b : Bool) (l more : List TroveParts) → cond b (y ∷ (l ++ more)) (l ++ more) ≡ cond b (y ∷ l) l ++ more
      by true l more = refl
      by false l more = refl

  -- a chosen trove stands at one of the places
  pub from_chosen : (k : ℕ) (list : List TroveParts) (t : TroveParts) → Contains (chosen places k list) t → (i : ℕ) × (slice_get list i ≡ Some t) × (list_any (eqb (k + i)) places ≡ true)
  from_chosen k [] t h = absurd (nothing_in t h)
  from_chosen k (x ∷ list) t h = by (list_any (eqb k) places) refl h (λ later. further (from_chosen (suc k) list t later))
    where
      further : (i : ℕ) × (slice_get list i ≡ Some t) × (list_any (eqb (suc k + i)) places ≡ true) → (i : ℕ) × (slice_get (x ∷ list) i ≡ Some t) × (list_any (eqb (k + i)) places ≡ true)
      further rest =
          let next : suc k + rest.0 ≡ k + suc rest.0 = omega arith in
          (suc rest.0, rest.1, ap (λ (n : ℕ). list_any (eqb n) places) (sym next) ∙ rest.2)

      by : (b : Bool) → list_any (eqb k) places ≡ b → Contains (cond b (x ∷ chosen places (suc k) list) (chosen places (suc k) list)) t
          → (Contains (chosen places (suc k) list) t → (i : ℕ) × (slice_get (x ∷ list) i ≡ Some t) × (list_any (eqb (k + i)) places ≡ true))
          → (i : ℕ) × (slice_get (x ∷ list) i ≡ Some t) × (list_any (eqb (k + i)) places ≡ true)
      by true e h later = ⊎_elim
          (λ same.
          let first : k + 0 ≡ k = omega arith in
          (zero, ap (λ (u : TroveParts). Some u) same, ap (λ (n : ℕ). list_any (eqb n) places) first ∙ e))
          later
          (contains_cases x t (chosen places (suc k) list) h)
      by false e h later = later h

  -- and the trove at each of the places is chosen
  pub in_chosen : (k : ℕ) (list : List TroveParts) (i : ℕ) (t : TroveParts) → slice_get list i ≡ Some t → list_any (eqb (k + i)) places ≡ true → Contains (chosen places k list) t
  in_chosen k [] i t at is = absurd (cc at)
  in_chosen k (x ∷ list) zero t at is = by (list_any (eqb k) places) (ap (λ (n : ℕ). list_any (eqb n) places) first ∙ is)
    where
      first : k ≡ k + 0
      first = omega arith

      by : (b : Bool) → b ≡ true → Contains (cond b (x ∷ chosen places (suc k) list) (chosen places (suc k) list)) t
      by true e = subst (λ (u : TroveParts). Contains (x ∷ chosen places (suc k) list) u) (same_Some x t at) (contains_first x (chosen places (suc k) list))
      by false e = absurd (cc e)
  in_chosen k (x ∷ list) (suc i) t at is =
      let next : suc k + i ≡ k + suc i = omega arith in
      by (list_any (eqb k) places) (in_chosen (suc k) list i t at (ap (λ (n : ℕ). list_any (eqb n) places) next ∙ is))
    where
      by : (b : Bool) → Contains (chosen places (suc k) list) t → Contains (cond b (x ∷ chosen places (suc k) list) (chosen places (suc k) list)) t
      by true h = contains_rest x t (chosen places (suc k) list) h
      by false h = h

  all_chosen : (P : TroveParts → Type 0) (k : ℕ) (list : List TroveParts) → AllByRecursion P list → AllByRecursion P (chosen places k list)
  all_chosen P k [] all = tt
  all_chosen P k (x ∷ list) all = by (list_any (eqb k) places) (all_chosen P (suc k) list all.1)
    where
      by : (b : Bool) → AllByRecursion P (chosen places (suc k) list) → AllByRecursion P (cond b (x ∷ chosen places (suc k) list) (chosen places (suc k) list))
      by true rest = (all.0, rest)
      by false rest = rest

  -- they are in the order of the list
  pub chosen_rises : (k : ℕ) (list : List TroveParts) → IsRising list → IsRising (chosen places k list)
  chosen_rises k [] rises = rises_none by_name
  chosen_rises k (x ∷ list) rises =
      by (list_any (eqb k) places) (all_chosen (λ (y : TroveParts). by_name x y ≡ Less) (suc k) list (sorted_head by_name x list rises)) (chosen_rises (suc k) list (sorted_tail by_name x list rises))
    where
      by : (b : Bool) → AllByRecursion (λ (y : TroveParts). by_name x y ≡ Less) (chosen places (suc k) list) → IsRising (chosen places (suc k) list)
          → IsRising (cond b (x ∷ chosen places (suc k) list) (chosen places (suc k) list))
      by true all rest = rises_cons by_name x (chosen places (suc k) list) all rest
      by false all rest = rest

-- the troves at the places that are reached
pub reached_are : (list : List TroveParts) (name : List ℕ) (start : ℕ) (places : List ℕ) → IsRising list → IsPlaceOf name list start → ((place : ℕ) → IsPlaceOf name list place → Some start ≡ Some place)
    → ArePlacesFrom list start places → AreReached list name (chosen places 0 list)
reached_are list name start places rises here only are = record {
  rising = chosen_rises places 0 list rises;
  from = λ t among.
      let one = from_chosen places 0 list t among in
      let zero_on : 0 + one.0 ≡ one.0 = omega arith in
      let in' : Contains places one.0 = Contains-from_any eqb-true one.0 places (ap (λ (n : ℕ). list_any (eqb n) places) (sym zero_on) ∙ one.2) in record {
        place = one.0;
        there = one.1;
        reached = reached_also (Leads list) (Leads list) (λ (p : ℕ). p ≡ start) (IsPlaceOf name list) (λ x y step. step) (λ p same. subst (IsPlaceOf name list) (sym same) here) (length list) one.0 (are.reached one.0 in');
      };
  all = λ t is.
      let to_start : (p : ℕ) → IsPlaceOf name list p → p ≡ start = λ p at. sym (same_Some start p (only p at)) in
      let in' : Contains places is.place = are.all is.place (reached_also (Leads list) (Leads list) (IsPlaceOf name list) (λ (p : ℕ). p ≡ start) (λ x y step. step) to_start (length list) is.place is.reached) in
      let zero_on : 0 + is.place ≡ is.place = omega arith in
      in_chosen places 0 list is.place t is.there (ap (λ (n : ℕ). list_any (eqb n) places) zero_on ∙ any_of (eqb is.place) places is.place in' (eq-eqb is.place is.place refl));
}

-- one more of the first troves
pub chosen_next : (places : List ℕ) (list : List TroveParts) (i : ℕ) (t : TroveParts) (b : Bool) → i < length list → t ≡ get_or list i t → list_any (eqb i) places ≡ b
    → chosen places 0 (take (i + 1) list) ≡ chosen places 0 (take i list) ++ cond b (t ∷ []) []
chosen_next places list i t b within is tested =
    let count : 0 + length (take i list) ≡ i = (let len = length-take i list in omega (arith, len, within)) in
    ap (chosen places 0) (next_one list i t within is) ∙ chosen_push places 0 (take i list) t
    ∙ ap (λ (n : ℕ). chosen places 0 (take i list) ++ cond (list_any (eqb n) places) (t ∷ []) []) count
    ∙ ap (λ (c : Bool). chosen places 0 (take i list) ++ cond c (t ∷ []) []) tested
