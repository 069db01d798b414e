-- Steps of a pass over lists that rise by their keys, from places on.
use Rattle.std.proofs.Common.{◌≡◌, ℕ, ◌+◌, ◌<◌, ◌≤◌, ⊎_elim, List, [], ◌∷◌, ◌++◌, length, get_or, drop, map, All, Contains, Ordering, sym, ap, ◌∙◌, subst, arith, length-drop}
use Rattle.std.specs.Cmp.{IsTotalOrder}
use Rattle.std.specs.List.Sorted.{IsStrictlySortedBy}
use Rattle.std.specs.Ordering.{ordering_reverse}
use Rattle.std.specs.declared.cmp.Ordering.TheVariants.{Less, Greater}
use Rattle.std.proofs.lemmas.List.Elements.{All-cons, All-head, All-tail, All-weaker, All-contains}
use Rattle.trove_stream.specs.Amends.{HasKey, Fits, by_key, IsBelow, IsAmended}
use Rattle.change_rel.specs.Turns.{IsFateByKeys, IsFate}
use Rattle.change_rel.specs.declared.amending.Fate.{Fate}
use Rattle.change_rel.specs.declared.amending.Fate.TheVariants as fate
use Rattle.trove_stream.proofs.Members.{contains_drop, pushed, rising_head, front_is, first_is, drop_all}
use Rattle.change_rel.proofs.Steps.{step_gone, step_kept, step_set, step_replaced, rest_set, rest_gone, new_below, not_key, not_in}
use Rattle.trove_stream.proofs.cny-base.Lists.{all_from, contains_cases, contains_first, contains_rest, nothing_in}
use Rattle.trove_stream.proofs.Merging.{below_rest, front_at, rising_drop}

-- what holds of the rest of the two lists holds of the whole ones, with what was found so far
pub record Differs {A K : Type 0} (key : A → K) (order : K → K → Ordering) (gone : List K) (set old_rest new_rest old new : List A) : Type 0 where
  pub whole : (more : List K) (others : List A) → IsAmended key order more others old_rest new_rest → IsAmended key order (gone ++ more) (set ++ others) old new

-- the same of the three lists of which a new one is made; and changes that fit the whole list fit its rest
pub record Amending {A K : Type 0} (key : A → K) (order : K → K → Ordering) (gone_rest gone : List K) (set_rest set old_rest old made : List A) : Type 0 where
  pub whole : (more : List A) → IsAmended key order gone_rest set_rest old_rest more → IsAmended key order gone set old (made ++ more)
  pub fits : Fits key gone set old → Fits key gone_rest set_rest old_rest

module _ {A K : Type 0} (key : A → K) (order : K → K → Ordering) (o : IsTotalOrder order) where
  pub turned : (k m : K) → order k m ≡ Greater → order m k ≡ Less
  turned k m greater = o.antisymm m k ∙ ap ordering_reverse greater

  pub below_front : (k : K) (x : A) (xs : List A) → order k (key x) ≡ Less → IsBelow key order (key x) xs → IsBelow key order k (x ∷ xs)
  below_front k x xs less below =
      All-cons (λ y. order k (key y) ≡ Less) x xs less (All-weaker (λ y. order (key x) (key y) ≡ Less) (λ y. order k (key y) ≡ Less) (λ y after. o.trans k (key x) (key y) less after) xs below)

  -- a key below the element at a place is below all from there on
  pub below_from : (k : K) (i : ℕ) (xs : List A) (x : A) → i < length xs → x ≡ get_or xs i x → IsStrictlySortedBy (by_key key order) xs → order k (key x) ≡ Less → IsBelow key order k (drop i xs)
  below_from k i xs x within is rises less =
      subst (λ (l : List A). IsBelow key order k l) (sym (front_at i xs x within is)) (below_front k x (drop (i + 1) xs) less (below_rest (by_key key order) i xs x within is rises))

  pub keys_below_from : (k : K) (i : ℕ) (ks : List K) (g : K) → i < length ks → g ≡ get_or ks i g → IsStrictlySortedBy order ks → order k g ≡ Less → All (λ m. order k m ≡ Less) (drop i ks)
  keys_below_from k i ks g within is rises less =
      subst (λ (l : List K). All (λ m. order k m ≡ Less) l) (sym (front_at i ks g within is))
      (All-cons (λ m. order k m ≡ Less) g (drop (i + 1) ks) less (All-weaker (λ m. order g m ≡ Less) (λ m. order k m ≡ Less) (λ m after. o.trans k g m less after) (drop (i + 1) ks) (below_rest order i ks g within is rises)))

  pub below_same : (k m : K) (xs : List A) → k ≡ m → IsBelow key order k xs → IsBelow key order m xs
  below_same k m xs same below = subst (λ (l : K). IsBelow key order l xs) same below

  -- ---- the difference of two lists

  module _ (old fresh : List A) (i j : ℕ) (a b : A) (i_in : i < length old) (j_in : j < length fresh) (a_is : a ≡ get_or old i a) (b_is : b ≡ get_or fresh j b)
      (old_rises : IsStrictlySortedBy (by_key key order) old) (fresh_rises : IsStrictlySortedBy (by_key key order) fresh) (gone : List K) (set : List A) where
    pub differ_gone : order (key a) (key b) ≡ Less → IsAmended key order gone set (drop (i + 1) old) (drop j fresh) → IsAmended key order (key a ∷ gone) set (drop i old) (drop j fresh)
    differ_gone less d =
        subst (λ (l : List A). IsAmended key order (key a ∷ gone) set l (drop j fresh)) (sym (front_at i old a i_in a_is))
        (step_gone key order o gone set (drop (i + 1) old) (drop j fresh) d a (below_rest (by_key key order) i old a i_in a_is old_rises) (below_from (key a) j fresh b j_in b_is fresh_rises less))

    pub differ_set : order (key a) (key b) ≡ Greater → IsAmended key order gone set (drop i old) (drop (j + 1) fresh) → IsAmended key order gone (b ∷ set) (drop i old) (drop j fresh)
    differ_set greater d =
        subst (λ (l : List A). IsAmended key order gone (b ∷ set) (drop i old) l) (sym (front_at j fresh b j_in b_is))
        (step_set key order o gone set (drop i old) (drop (j + 1) fresh) d b (below_from (key b) i old a i_in a_is old_rises (turned (key a) (key b) greater)) (below_rest (by_key key order) j fresh b j_in b_is fresh_rises))

    pub differ_kept : a ≡ b → IsAmended key order gone set (drop (i + 1) old) (drop (j + 1) fresh) → IsAmended key order gone set (drop i old) (drop j fresh)
    differ_kept same d =
        let fronts : drop j fresh ≡ a ∷ drop (j + 1) fresh = front_at j fresh b j_in b_is ∙ ap (λ (x : A). x ∷ drop (j + 1) fresh) (sym same) in
        subst (λ (l : List A). IsAmended key order gone set (drop i old) l) (sym fronts)
        (subst (λ (l : List A). IsAmended key order gone set l (a ∷ drop (j + 1) fresh)) (sym (front_at i old a i_in a_is))
        (step_kept key order o gone set (drop (i + 1) old) (drop (j + 1) fresh) d a (below_rest (by_key key order) i old a i_in a_is old_rises)
        (below_same (key b) (key a) (drop (j + 1) fresh) (ap key (sym same)) (below_rest (by_key key order) j fresh b j_in b_is fresh_rises))))

    pub differ_replaced : key a ≡ key b → (a ≡ b → ⊥) → IsAmended key order gone set (drop (i + 1) old) (drop (j + 1) fresh) → IsAmended key order gone (b ∷ set) (drop i old) (drop j fresh)
    differ_replaced same other d =
        subst (λ (l : List A). IsAmended key order gone (b ∷ set) (drop i old) l) (sym (front_at j fresh b j_in b_is))
        (subst (λ (l : List A). IsAmended key order gone (b ∷ set) l (b ∷ drop (j + 1) fresh)) (sym (front_at i old a i_in a_is))
        (step_replaced key order o gone set (drop (i + 1) old) (drop (j + 1) fresh) d a b same other
        (below_same (key a) (key b) (drop (i + 1) old) same (below_rest (by_key key order) i old a i_in a_is old_rises)) (below_rest (by_key key order) j fresh b j_in b_is fresh_rises)))

  -- ---- changes that fit a list fit the rest of it

  pub fits_old : (gone : List K) (set old : List A) (a : A) → (Contains gone (key a) → ⊥) → Fits key gone set (a ∷ old) → Fits key gone set old
  fits_old gone set old a other fits = record {
    had = all_from (HasKey key old) gone (λ g in'.
        let h : HasKey key (a ∷ old) g = All-contains (HasKey key (a ∷ old)) gone g fits.had in' in
        ⊎_elim (λ e. absurd (other (subst (Contains gone) (sym (ap key e ∙ h.2)) in'))) (λ later. (h.0, later, h.2)) (contains_cases a h.0 old h.1));
    lacked = All-weaker (λ x. Contains (a ∷ old) x → ⊥) (λ x. Contains old x → ⊥) (λ x none in'. none (contains_rest a x old in')) set fits.lacked;
  }

  pub fits_gone : (g : K) (gone : List K) (set old : List A) → Fits key (g ∷ gone) set old → Fits key gone set old
  fits_gone g gone set old fits = record { had = All-tail (HasKey key old) g gone fits.had; lacked = fits.lacked }

  pub fits_set : (gone : List K) (b : A) (set old : List A) → Fits key gone (b ∷ set) old → Fits key gone set old
  fits_set gone b set old fits = record { had = fits.had; lacked = All-tail (λ x. Contains old x → ⊥) b set fits.lacked }

  -- a key that is gone below the first element is that of none
  pub unfit_key : (a : A) (g : K) (gone : List K) (set old : List A) → order (key a) g ≡ Greater → IsBelow key order (key a) old → Fits key (g ∷ gone) set (a ∷ old) → ⊥
  unfit_key a g gone set old greater below fits =
      let less = turned (key a) g greater in
      not_key key order o g (a ∷ old) (below_front g a old less below) (All-head (HasKey key (a ∷ old)) g gone fits.had)

  pub unfit_set : (a b : A) (gone : List K) (set old : List A) → a ≡ b → Fits key gone (b ∷ set) (a ∷ old) → ⊥
  unfit_set a b gone set old same fits =
      All-head (λ x. Contains (a ∷ old) x → ⊥) b set fits.lacked (subst (Contains (a ∷ old)) same (contains_first a old))

  -- ---- what becomes of an old element

  pub fate_from : (x : A) (gone : List K) (set : List A) (f : Fate) → IsFateByKeys key order x gone f → IsBelow key order (key x) set → IsFate key order x gone set f
  fate_from x gone set fate.Kept by below = (by, below)
  fate_from x gone set fate.Gone by below = (by, below)
  fate_from x gone set fate.Replaced by below = absurd by
  fate_from x gone set fate.Behind by below = absurd by
  fate_from x gone set fate.Unfit by below = λ old below_old fits. by set old below_old fits

  module _ (gone : List K) (set old : List A) (away next at : ℕ) (a : A) (at_in : at < length old) (a_is : a ≡ get_or old at a)
      (gone_rises : IsStrictlySortedBy order gone) (set_rises : IsStrictlySortedBy (by_key key order) set) (old_rises : IsStrictlySortedBy (by_key key order) old)
      (apart : (k : K) → Contains gone k → HasKey key set k → ⊥) (made : List A) (s : Amending key order (drop away gone) gone (drop next set) set (drop at old) old made) where
    front : drop at old ≡ a ∷ drop (at + 1) old
    front = front_at at old a at_in a_is

    below_old : IsBelow key order (key a) (drop (at + 1) old)
    below_old = below_rest (by_key key order) at old a at_in a_is old_rises

    on_front : Fits key (drop away gone) (drop next set) (drop at old) → Fits key (drop away gone) (drop next set) (a ∷ drop (at + 1) old)
    on_front fits = subst (λ (l : List A). Fits key (drop away gone) (drop next set) l) front fits

    whole_front : (gone' : List K) (set' : List A) (more : List A) → IsAmended key order gone' set' (a ∷ drop (at + 1) old) more → IsAmended key order gone' set' (drop at old) more
    whole_front gone' set' more d = subst (λ (l : List A). IsAmended key order gone' set' l more) (sym front) d

    pub amend_kept : IsFate key order a (drop away gone) (drop next set) fate.Kept → (made' : List A) → made' ≡ made ++ a ∷ [] → Amending key order (drop away gone) gone (drop next set) set (drop (at + 1) old) old made'
    amend_kept is made' made_is = record {
      whole = λ more d.
          subst (λ (l : List A). IsAmended key order gone set old l) (pushed made made' a more made_is)
          (s.whole (a ∷ more) (whole_front (drop away gone) (drop next set) (a ∷ more)
          (step_kept key order o (drop away gone) (drop next set) (drop (at + 1) old) more d a below_old (new_below key order o (drop away gone) (drop next set) (drop (at + 1) old) more d (key a) below_old is.1))));
      fits = λ fits. fits_old (drop away gone) (drop next set) (drop (at + 1) old) a (not_in key order o (key a) (drop away gone) is.0) (on_front (s.fits fits));
    }

    pub amend_gone : IsFate key order a (drop away gone) (drop next set) fate.Gone → Amending key order (drop (away + 1) gone) gone (drop next set) set (drop (at + 1) old) old made
    amend_gone is =
        let gone_front : drop away gone ≡ key a ∷ drop (away + 1) gone = front_is away gone (key a) is.0.0 is.0.1 in
        let rises : IsStrictlySortedBy order (key a ∷ drop (away + 1) gone) = subst (λ (l : List K). IsStrictlySortedBy order l) gone_front (rising_drop order away gone gone_rises) in
        record {
          whole = λ more d. s.whole more (whole_front (drop away gone) (drop next set) more
              (subst (λ (l : List K). IsAmended key order l (drop next set) (a ∷ drop (at + 1) old) more) (sym gone_front)
              (step_gone key order o (drop (away + 1) gone) (drop next set) (drop (at + 1) old) more d a below_old (new_below key order o (drop (away + 1) gone) (drop next set) (drop (at + 1) old) more d (key a) below_old is.1))));
          fits = λ fits. fits_old (drop (away + 1) gone) (drop next set) (drop (at + 1) old) a (not_in key order o (key a) (drop (away + 1) gone) (rising_head order (key a) (drop (away + 1) gone) rises))
              (fits_gone (key a) (drop (away + 1) gone) (drop next set) (a ∷ drop (at + 1) old) (subst (λ (l : List K). Fits key l (drop next set) (a ∷ drop (at + 1) old)) gone_front (on_front (s.fits fits))));
        }

    pub amend_unfit : IsFate key order a (drop away gone) (drop next set) fate.Unfit → Fits key gone set old → ⊥
    amend_unfit is fits = is (drop (at + 1) old) below_old (on_front (s.fits fits))

    module _ (b : A) (b_in : next < length set) (b_is : b ≡ get_or set next b) (made' : List A) (made_is : made' ≡ made ++ b ∷ []) where
      set_front : drop next set ≡ b ∷ drop (next + 1) set
      set_front = front_at next set b b_in b_is

      below_set : IsBelow key order (key b) (drop (next + 1) set)
      below_set = below_rest (by_key key order) next set b b_in b_is set_rises

      pub amend_behind : IsFate key order a (drop away gone) (drop next set) fate.Behind → Amending key order (drop away gone) gone (drop (next + 1) set) set (drop at old) old made'
      amend_behind is =
          let same : is.0 ≡ b = first_is (drop next set) is.0 b is.1 (drop (next + 1) set) is.2 set_front in
          let less : order (key b) (key a) ≡ Less = subst (λ (y : A). order (key y) (key a) ≡ Less) same is.3 in
          let below : IsBelow key order (key b) (drop at old) = below_from (key b) at old a at_in a_is old_rises less in
          record {
            whole = λ more d.
                subst (λ (l : List A). IsAmended key order gone set old l) (pushed made made' b more made_is)
                (s.whole (b ∷ more) (subst (λ (l : List A). IsAmended key order (drop away gone) l (drop at old) (b ∷ more)) (sym set_front)
                (step_set key order o (drop away gone) (drop (next + 1) set) (drop at old) more d b below (new_below key order o (drop away gone) (drop (next + 1) set) (drop at old) more d (key b) below below_set))));
            fits = λ fits. fits_set (drop away gone) b (drop (next + 1) set) (drop at old) (subst (λ (l : List A). Fits key (drop away gone) l (drop at old)) set_front (s.fits fits));
          }

      pub amend_replaced : IsFate key order a (drop away gone) (drop next set) fate.Replaced → Amending key order (drop away gone) gone (drop (next + 1) set) set (drop (at + 1) old) old made'
      amend_replaced is =
          let same_set : is.0 ≡ b = first_is (drop next set) is.0 b is.1 (drop (next + 1) set) is.2 set_front in
          let same : key a ≡ key b = is.3 ∙ ap key same_set in
          let other : a ≡ b → ⊥ = λ (e : a ≡ b). is.4 (e ∙ sym same_set) in
          let below : IsBelow key order (key b) (drop (at + 1) old) = below_same (key a) (key b) (drop (at + 1) old) same below_old in
          record {
            whole = λ more d.
                subst (λ (l : List A). IsAmended key order gone set old l) (pushed made made' b more made_is)
                (s.whole (b ∷ more) (whole_front (drop away gone) (drop next set) (b ∷ more)
                (subst (λ (l : List A). IsAmended key order (drop away gone) l (a ∷ drop (at + 1) old) (b ∷ more)) (sym set_front)
                (step_replaced key order o (drop away gone) (drop (next + 1) set) (drop (at + 1) old) more d a b same other below (new_below key order o (drop away gone) (drop (next + 1) set) (drop (at + 1) old) more d (key b) below below_set)))));
            fits = λ fits. fits_old (drop away gone) (drop (next + 1) set) (drop (at + 1) old) a
                (λ h. apart (key a) (contains_drop away gone (key a) h) (b, (next, b_in, sym b_is), sym same))
                (fits_set (drop away gone) b (drop (next + 1) set) (a ∷ drop (at + 1) old) (subst (λ (l : List A). Fits key (drop away gone) l (a ∷ drop (at + 1) old)) set_front (on_front (s.fits fits))));
          }

  -- ---- the ends of the passes

  pub differ_rest_set : (old fresh : List A) (i j : ℕ) → length old ≤ i → IsStrictlySortedBy (by_key key order) fresh → IsAmended key order [] (drop j fresh) (drop i old) (drop j fresh)
  differ_rest_set old fresh i j past rises =
      subst (λ (l : List A). IsAmended key order [] (drop j fresh) l (drop j fresh)) (sym (drop_all i old past)) (rest_set key order o (drop j fresh) (rising_drop (by_key key order) j fresh rises))

  pub differ_rest_gone : (old fresh : List A) (i j : ℕ) → length fresh ≤ j → IsStrictlySortedBy (by_key key order) old → IsAmended key order (map key (drop i old)) [] (drop i old) (drop j fresh)
  differ_rest_gone old fresh i j past rises =
      subst (λ (l : List A). IsAmended key order (map key (drop i old)) [] (drop i old) l) (sym (drop_all j fresh past)) (rest_gone key order o (drop i old) (rising_drop (by_key key order) i old rises))

  pub amend_rest : (gone : List K) (set old made : List A) (away next at : ℕ) → length old ≤ at → length gone ≤ away → IsStrictlySortedBy (by_key key order) set
      → Amending key order (drop away gone) gone (drop next set) set (drop at old) old made → (made' : List A) → made' ≡ made ++ drop next set → IsAmended key order gone set old made'
  amend_rest gone set old made away next at past gone_past rises s made' made_is =
      subst (λ (l : List A). IsAmended key order gone set old l) (sym made_is)
      (s.whole (drop next set) (subst (λ (l : List K). IsAmended key order l (drop next set) (drop at old) (drop next set)) (sym (drop_all away gone gone_past))
      (differ_rest_set old set at next past rises)))

  pub amend_left : (gone : List K) (set old made : List A) (away next at : ℕ) → length old ≤ at → away < length gone
      → Amending key order (drop away gone) gone (drop next set) set (drop at old) old made → Fits key gone set old → ⊥
  amend_left gone set old made away next at past left s fits =
      let fits_rest : Fits key (drop away gone) (drop next set) [] = subst (λ (l : List A). Fits key (drop away gone) (drop next set) l) (drop_all at old past) (s.fits fits) in
      none_left (drop away gone) (omega (arith, length-drop away gone)) fits_rest.had
    where
      none_left : (ks : List K) → 0 < length ks → All (HasKey key []) ks → ⊥
      none_left [] within had = omega arith
      none_left (k ∷ ks) within had = let h : HasKey key [] k = All-head (HasKey key []) k ks had in nothing_in h.0 h.1

  -- ---- what is found so far

  pub as_found : (gone : List K) (set old new : List A) → IsAmended key order gone set old new → (gone' : List K) (set' : List A) → gone' ≡ gone → set' ≡ set → IsAmended key order gone' set' old new
  as_found gone set old new d gone' set' gone_is set_is =
      subst (λ (l : List K). IsAmended key order l set' old new) (sym gone_is) (subst (λ (l : List A). IsAmended key order gone l old new) (sym set_is) d)

  module _ (gone : List K) (set old_rest new_rest old new : List A) (s : Differs key order gone set old_rest new_rest old new) where
    pub more_gone : (k : K) (gone' : List K) → gone' ≡ gone ++ k ∷ [] → (old_rest' new_rest' : List A)
        → ((more : List K) (others : List A) → IsAmended key order more others old_rest' new_rest' → IsAmended key order (k ∷ more) others old_rest new_rest) → Differs key order gone' set old_rest' new_rest' old new
    more_gone k gone' gone_is old_rest' new_rest' step = record {
      whole = λ more others d. subst (λ (l : List K). IsAmended key order l (set ++ others) old new) (pushed gone gone' k more gone_is) (s.whole (k ∷ more) others (step more others d));
    }

    pub more_set : (x : A) (set' : List A) → set' ≡ set ++ x ∷ [] → (old_rest' new_rest' : List A)
        → ((more : List K) (others : List A) → IsAmended key order more others old_rest' new_rest' → IsAmended key order more (x ∷ others) old_rest new_rest) → Differs key order gone set' old_rest' new_rest' old new
    more_set x set' set_is old_rest' new_rest' step = record {
      whole = λ more others d. subst (λ (l : List A). IsAmended key order (gone ++ more) l old new) (pushed set set' x others set_is) (s.whole more (x ∷ others) (step more others d));
    }

    pub no_more_set : (set' : List A) → set' ≡ set → (old_rest' new_rest' : List A)
        → ((more : List K) (others : List A) → IsAmended key order more others old_rest' new_rest' → IsAmended key order more others old_rest new_rest) → Differs key order gone set' old_rest' new_rest' old new
    no_more_set set' set_is old_rest' new_rest' step = record {
      whole = λ more others d. subst (λ (l : List A). IsAmended key order (gone ++ more) (l ++ others) old new) (sym set_is) (s.whole more others (step more others d));
    }
