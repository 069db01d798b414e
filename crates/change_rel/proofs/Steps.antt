-- What one element before all others adds to lists that are amended.
use Rattle.std.proofs.Common.{◌≡◌, ◌⊎◌, ⊎_elim, inl, inr, List, [], ◌∷◌, map, All, Contains, Ordering, refl, sym, ap, ◌∙◌, subst}
use Rattle.std.specs.Cmp.{IsTotalOrder}
use Rattle.std.specs.List.Sorted.{IsStrictlySortedBy}
use Rattle.std.specs.declared.cmp.Ordering.TheVariants.{Less}
use Rattle.std.proofs.lemmas.Cmp.{tied_itself}
use Rattle.std.proofs.lemmas.List.Elements.{All-nil, All-cons, All-weaker, All-contains}
use Rattle.std.proofs.lemmas.Map.Keys.{sorted_tail}
use Rattle.trove_stream.specs.Amends.{HasKey, Remains, by_key, IsBelow, IsAmended}
use Rattle.trove_stream.proofs.Members.{rising_cons, rising_head}
use Rattle.trove_stream.proofs.cny-base.Lists.{all_from, contains_cases, contains_first, contains_rest, nothing_in}
use Rattle.trove_stream.proofs.cny-base.Sorted.{rising_nil}

module _ {A K : Type 0} (key : A → K) (order : K → K → Ordering) (o : IsTotalOrder order) where
  not_itself : (k : K) → order k k ≡ Less → ⊥
  not_itself k less = absurd (cc (tied_itself o k, less))

  -- a key below all elements is that of none
  pub not_key : (k : K) (xs : List A) → IsBelow key order k xs → HasKey key xs k → ⊥
  not_key k xs below h =
      not_itself k (subst (λ (m : K). order k m ≡ Less) h.2 (All-contains (λ y. order k (key y) ≡ Less) xs h.0 below h.1))

  -- a key below all keys is none of them
  pub not_in : (k : K) (ks : List K) → All (λ g. order k g ≡ Less) ks → Contains ks k → ⊥
  not_in k ks below h = not_itself k (All-contains (λ g. order k g ≡ Less) ks k below h)

module _ {A K : Type 0} (key : A → K) (order : K → K → Ordering) (o : IsTotalOrder order) (gone : List K) (set old new : List A) (d : IsAmended key order gone set old new) where
  set_in_new : (x : A) → Contains set x → Contains new x
  set_in_new x in' = (d.amends.result x).1 (inr in')

  -- a key below all new elements is below those that are set
  set_below : (k : K) → IsBelow key order k new → IsBelow key order k set
  set_below k below = all_from (λ y. order k (key y) ≡ Less) set (λ y in'. All-contains (λ y. order k (key y) ≡ Less) new y below (set_in_new y in'))

  -- and one below all old elements is below all keys that are gone
  gone_below : (k : K) → IsBelow key order k old → All (λ g. order k g ≡ Less) gone
  gone_below k below = all_from (λ g. order k g ≡ Less) gone (λ g in'.
      let h : HasKey key old g = All-contains (HasKey key old) gone g d.amends.fits.had in' in
      subst (λ (m : K). order k m ≡ Less) h.2 (All-contains (λ y. order k (key y) ≡ Less) old h.0 below h.1))

  not_gone : (k : K) → IsBelow key order k old → Contains gone k → ⊥
  not_gone k below = not_in key order o k gone (gone_below k below)

  not_set : (k : K) → IsBelow key order k new → HasKey key set k → ⊥
  not_set k below h = not_key key order o k new below (h.0, set_in_new h.0 h.1, h.2)

  -- a key below all old elements and those that are set is below all new ones
  pub new_below : (k : K) → IsBelow key order k old → IsBelow key order k set → IsBelow key order k new
  new_below k below below_set = all_from (λ y. order k (key y) ≡ Less) new (λ y in'. ⊎_elim
      (λ r. All-contains (λ y. order k (key y) ≡ Less) old y below r.0)
      (λ s. All-contains (λ y. order k (key y) ≡ Less) set y below_set s)
      ((d.amends.result y).0 in'))

  still_had : (a : A) → All (HasKey key (a ∷ old)) gone
  still_had a = All-weaker (HasKey key old) (HasKey key (a ∷ old)) (λ g h. (h.0, contains_rest a h.0 old h.1, h.2)) gone d.amends.fits.had

  still_lacked : (a : A) → (Contains set a → ⊥) → All (λ x. Contains (a ∷ old) x → ⊥) set
  still_lacked a other = all_from (λ x. Contains (a ∷ old) x → ⊥) set (λ x in' h. ⊎_elim
      (λ e. other (subst (Contains set) (sym e) in'))
      (λ later. All-contains (λ x. Contains old x → ⊥) set x d.amends.fits.lacked in' later)
      (contains_cases a x old h))

  -- ---- an old element that is gone

  gone_forth : (a x : A) → IsBelow key order (key a) old → Contains new x → Remains key (key a ∷ gone) set (a ∷ old) x ⊎ Contains set x
  gone_forth a x below h = ⊎_elim
      (λ r. inl (contains_rest a x old r.0, (λ g. ⊎_elim (λ e. not_key key order o (key a) old below (x, r.0, sym e)) (λ later. r.1 later) (contains_cases (key a) (key x) gone g)), r.2))
      (λ s. inr s)
      ((d.amends.result x).0 h)

  gone_back : (a x : A) → Remains key (key a ∷ gone) set (a ∷ old) x ⊎ Contains set x → Contains new x
  gone_back a x h = ⊎_elim
      (λ r. ⊎_elim
      (λ e. absurd (r.1 (subst (λ (y : A). Contains (key a ∷ gone) (key y)) e (contains_first (key a) gone))))
      (λ later. (d.amends.result x).1 (inl (later, (λ g. r.1 (contains_rest (key a) (key x) gone g)), r.2)))
      (contains_cases a x old r.0))
      (λ s. (d.amends.result x).1 (inr s))
      h

  pub step_gone : (a : A) → IsBelow key order (key a) old → IsBelow key order (key a) new → IsAmended key order (key a ∷ gone) set (a ∷ old) new
  step_gone a below below_new = record {
    amends = record {
      fits = record {
        had = All-cons (HasKey key (a ∷ old)) (key a) gone (a, contains_first a old, refl) (still_had a);
        lacked = still_lacked a (λ h. not_set (key a) below_new (a, h, refl));
      };
      result = λ x. (gone_forth a x below, gone_back a x);
    };
    gone_rises = rising_cons order (key a) gone (gone_below (key a) below) d.gone_rises;
    set_rises = d.set_rises;
    new_rises = d.new_rises;
    apart = λ k in' h. ⊎_elim (λ e. not_set (key a) below_new (subst (HasKey key set) (sym e) h)) (λ later. d.apart k later h) (contains_cases (key a) k gone in');
  }

  -- ---- an old element that remains

  kept_forth : (a x : A) → IsBelow key order (key a) old → IsBelow key order (key a) new → Contains (a ∷ new) x → Remains key gone set (a ∷ old) x ⊎ Contains set x
  kept_forth a x below below_new h = ⊎_elim
      (λ e. inl (subst (Contains (a ∷ old)) e (contains_first a old), (λ g. not_gone (key a) below (subst (Contains gone) (ap key (sym e)) g)), (λ s. not_set (key a) below_new (subst (HasKey key set) (ap key (sym e)) s))))
      (λ later. ⊎_elim (λ r. inl (contains_rest a x old r.0, r.1, r.2)) (λ s. inr s) ((d.amends.result x).0 later))
      (contains_cases a x new h)

  kept_back : (a x : A) → Remains key gone set (a ∷ old) x ⊎ Contains set x → Contains (a ∷ new) x
  kept_back a x h = ⊎_elim
      (λ r. ⊎_elim
      (λ e. subst (Contains (a ∷ new)) e (contains_first a new))
      (λ later. contains_rest a x new ((d.amends.result x).1 (inl (later, r.1, r.2))))
      (contains_cases a x old r.0))
      (λ s. contains_rest a x new ((d.amends.result x).1 (inr s)))
      h

  pub step_kept : (a : A) → IsBelow key order (key a) old → IsBelow key order (key a) new → IsAmended key order gone set (a ∷ old) (a ∷ new)
  step_kept a below below_new = record {
    amends = record {
      fits = record {
        had = still_had a;
        lacked = still_lacked a (λ h. not_set (key a) below_new (a, h, refl));
      };
      result = λ x. (kept_forth a x below below_new, kept_back a x);
    };
    gone_rises = d.gone_rises;
    set_rises = d.set_rises;
    new_rises = rising_cons (by_key key order) a new below_new d.new_rises;
    apart = d.apart;
  }

  -- ---- an element that is set

  set_forth : (b x : A) → IsBelow key order (key b) old → Contains (b ∷ new) x → Remains key gone (b ∷ set) old x ⊎ Contains (b ∷ set) x
  set_forth b x below h = ⊎_elim
      (λ e. inr (subst (Contains (b ∷ set)) e (contains_first b set)))
      (λ later. ⊎_elim
      (λ r. inl (r.0, r.1, (λ s. ⊎_elim (λ e. not_key key order o (key b) old below (x, r.0, sym (ap key e ∙ s.2))) (λ more. r.2 (s.0, more, s.2)) (contains_cases b s.0 set s.1))))
      (λ s. inr (contains_rest b x set s))
      ((d.amends.result x).0 later))
      (contains_cases b x new h)

  set_back : (b x : A) → Remains key gone (b ∷ set) old x ⊎ Contains (b ∷ set) x → Contains (b ∷ new) x
  set_back b x h = ⊎_elim
      (λ r. contains_rest b x new ((d.amends.result x).1 (inl (r.0, r.1, (λ s. r.2 (s.0, contains_rest b s.0 set s.1, s.2))))))
      (λ s. ⊎_elim
      (λ e. subst (Contains (b ∷ new)) e (contains_first b new))
      (λ later. contains_rest b x new ((d.amends.result x).1 (inr later)))
      (contains_cases b x set s))
      h

  pub step_set : (b : A) → IsBelow key order (key b) old → IsBelow key order (key b) new → IsAmended key order gone (b ∷ set) old (b ∷ new)
  step_set b below below_new = record {
    amends = record {
      fits = record {
        had = d.amends.fits.had;
        lacked = All-cons (λ x. Contains old x → ⊥) b set (λ in'. not_key key order o (key b) old below (b, in', refl)) d.amends.fits.lacked;
      };
      result = λ x. (set_forth b x below, set_back b x);
    };
    gone_rises = d.gone_rises;
    set_rises = rising_cons (by_key key order) b set (set_below (key b) below_new) d.set_rises;
    new_rises = rising_cons (by_key key order) b new below_new d.new_rises;
    apart = λ k in' h. ⊎_elim (λ e. not_gone (key b) below (subst (Contains gone) (sym (ap key e ∙ h.2)) in')) (λ later. d.apart k in' (h.0, later, h.2)) (contains_cases b h.0 set h.1);
  }

  -- ---- an old element whose key is that of one that is set

  hidden_forth : (a x : A) → Contains new x → Remains key gone set (a ∷ old) x ⊎ Contains set x
  hidden_forth a x h = ⊎_elim (λ r. inl (contains_rest a x old r.0, r.1, r.2)) (λ s. inr s) ((d.amends.result x).0 h)

  hidden_back : (a x : A) → HasKey key set (key a) → Remains key gone set (a ∷ old) x ⊎ Contains set x → Contains new x
  hidden_back a x shared h = ⊎_elim
      (λ r. ⊎_elim
      (λ e. absurd (r.2 (subst (λ (y : A). HasKey key set (key y)) e shared)))
      (λ later. (d.amends.result x).1 (inl (later, r.1, r.2)))
      (contains_cases a x old r.0))
      (λ s. (d.amends.result x).1 (inr s))
      h

  pub step_hidden : (a : A) → HasKey key set (key a) → (Contains set a → ⊥) → IsAmended key order gone set (a ∷ old) new
  step_hidden a shared other = record {
    amends = record {
      fits = record { had = still_had a; lacked = still_lacked a other };
      result = λ x. (hidden_forth a x, hidden_back a x shared);
    };
    gone_rises = d.gone_rises;
    set_rises = d.set_rises;
    new_rises = d.new_rises;
    apart = d.apart;
  }

  pub not_set_below : (k : K) → IsBelow key order k new → HasKey key set k → ⊥
  not_set_below = not_set

module _ {A K : Type 0} (key : A → K) (order : K → K → Ordering) (o : IsTotalOrder order) where
  -- an old element in whose place another one of its key is set
  pub step_replaced : (gone : List K) (set old new : List A) → IsAmended key order gone set old new → (a b : A) → key a ≡ key b → (a ≡ b → ⊥) → IsBelow key order (key b) old → IsBelow key order (key b) new
      → IsAmended key order gone (b ∷ set) (a ∷ old) (b ∷ new)
  step_replaced gone set old new d a b same other below below_new =
      step_hidden key order o gone (b ∷ set) old (b ∷ new) (step_set key order o gone set old new d b below below_new) a (b, contains_first b set, sym same)
      (λ h. ⊎_elim (λ e. other (sym e)) (λ later. not_set_below key order o gone set old new d (key b) below_new (a, later, same)) (contains_cases b a set h))

  pub no_more : IsAmended key order [] [] [] []
  no_more = record {
    amends = record {
      fits = record { had = All-nil (HasKey key []); lacked = All-nil (λ x. Contains [] x → ⊥) };
      result = λ x. ((λ h. absurd (nothing_in x h)), (λ h. ⊎_elim (λ r. absurd (nothing_in x r.0)) (λ s. absurd (nothing_in x s)) h));
    };
    gone_rises = rising_nil order;
    set_rises = rising_nil (by_key key order);
    new_rises = rising_nil (by_key key order);
    apart = λ k in' h. nothing_in k in';
  }

  -- all that is left is set
  pub rest_set : (xs : List A) → IsStrictlySortedBy (by_key key order) xs → IsAmended key order [] xs [] xs
  rest_set [] rises = no_more
  rest_set (x ∷ xs) rises =
      step_set key order o [] xs [] xs (rest_set xs (sorted_tail (by_key key order) x xs rises)) x (All-nil (λ y. order (key x) (key y) ≡ Less)) (rising_head (by_key key order) x xs rises)

  -- all that is left is gone
  pub rest_gone : (xs : List A) → IsStrictlySortedBy (by_key key order) xs → IsAmended key order (map key xs) [] xs []
  rest_gone [] rises = no_more
  rest_gone (x ∷ xs) rises =
      step_gone key order o (map key xs) [] xs [] (rest_gone xs (sorted_tail (by_key key order) x xs rises)) x (rising_head (by_key key order) x xs rises) (All-nil (λ y. order (key x) (key y) ≡ Less))
