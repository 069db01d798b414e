-- What comes, noted by its names.
use Rattle.std.proofs.Common.{◌≡◌, ℕ, ◌+◌, ◌<◌, ◌⊎◌, ⊎_elim, inl, inr, Bool, true, false, cond, IsSome, is_some, List, [], ◌∷◌, length, get_or, take, drop, slice_get, Contains, Option, Some, None, refl, sym, ap, ◌∙◌, subst, arith}
use Rattle.std.specs.Prelude.{IsTrue}
use Rattle.std.specs.BTreeSet.{BTreeSet}
use Rattle.std.proofs.lemmas.Bool.{cases_lt}
use Rattle.std.proofs.lemmas.List.{take-append-drop}
use Rattle.std.proofs.lemmas.List.Elements.{Contains-append_left, Contains-get_or, Contains-push, Contains-push_cases}
use Rattle.std.proofs.lemmas.Option.{none-some, same_Some}
use Rattle.repo_index.specs.trove-stream.declared.parts.TroveParts.{TroveParts}
use Rattle.repo_index.proofs.cny-base.Lists.{nothing_in}
use Rattle.update_job.specs.Lists.{HasTroveOf}
use Rattle.update_job.specs.ByName.{same}
use Rattle.update_job.proofs.Mapped.{same_itself, same_means}
use Rattle.update_job.proofs.Elements.{in_more, more_in, next_in}
use Rattle.sys_model.specs.Fit.{Fresh, place_of}
use Rattle.sys_model.specs.Growing.{is_doubted, HasMore, HasNoted, HasNotedAll, HasTwo, IsNamedAt, IsTaken}
use Rattle.sys_model.proofs.Gathering.{more_first, more_then}

contains_take : {A : Type 0} (n : ℕ) (xs : List A) (x : A) → Contains (take n xs) x → Contains xs x
contains_take n xs x h = subst (λ l. Contains l x) (take-append-drop n xs) (Contains-append_left (take n xs) (drop n xs) x h)

-- a number is another one, or the two are one
same_or : (m n : ℕ) → ((m ≡ n → ⊥) → ⊥) → m ≡ n
same_or m n never = elim (cases_lt m n) [
  | inl less ↦ absurd (never (λ e. absurd (omega (arith, e, less))))
  | inr most ↦ elim (cases_lt n m) [
    | inl less ↦ absurd (never (λ e. absurd (omega (arith, e, less))))
    | inr also ↦ omega (arith, most, also)
  ]
]

module _ (troves installed : List TroveParts) where
  pub none_noted : (fresh : Fresh) (doubted : BTreeSet (List ℕ)) (replaced : List (List ℕ)) → HasNotedAll troves installed [] fresh fresh doubted doubted replaced replaced
  none_noted fresh doubted replaced = record {
    kept = λ name place under. under;
    from = λ name place under. inl under;
    all = λ place t among. absurd (nothing_in place among);
    still = λ name is. is;
    doubts = λ place t among. absurd (nothing_in place among);
    more = more_first replaced;
    replaces = λ name among. absurd (nothing_in name among);
    replaces_all = λ place t among. absurd (nothing_in place among);
  }

module _ (troves installed : List TroveParts) (places : List ℕ) (i place : ℕ) (within : i < length places) (here : place ≡ get_or places i 0) (first fresh after : Fresh)
    (doubted_first doubted doubted_after : BTreeSet (List ℕ)) (replaced_first replaced replaced_after : List (List ℕ))
    (so_far : HasNotedAll troves installed (take i places) first fresh doubted_first doubted replaced_first replaced) where
  -- no trove stands at the place
  pub skipped : slice_get troves place ≡ None → HasNotedAll troves installed (take (i + 1) places) first fresh doubted_first doubted replaced_first replaced
  skipped none = record {
    kept = so_far.kept;
    from = λ name q under. ⊎_elim
        inl
        (λ named. inr (record { among = more_in places i 0 place within here q named.among; trove = named.trove; there = named.there; named = named.named }))
        (so_far.from name q under);
    all = λ q t among there. ⊎_elim (λ before. so_far.all q t before there) (λ same. absurd (nowhere q t same there)) (in_more places i 0 place within here q among);
    still = so_far.still;
    doubts = λ q t among there. ⊎_elim (λ before. so_far.doubts q t before there) (λ same. absurd (nowhere q t same there)) (in_more places i 0 place within here q among);
    more = so_far.more;
    replaces = so_far.replaces;
    replaces_all = λ q t among there has. ⊎_elim (λ before. so_far.replaces_all q t before there has) (λ same. absurd (nowhere q t same there)) (in_more places i 0 place within here q among);
  }
    where
      nowhere : (q : ℕ) (t : TroveParts) → place ≡ q → slice_get troves q ≡ Some t → ⊥
      nowhere q t same there = none-some t (sym none ∙ ap (slice_get troves) same ∙ there)

  module _ (t : TroveParts) (there : slice_get troves place ≡ Some t) (free : IsTaken fresh t.id.name place → ⊥)
      (one : HasNoted installed t.id.name place fresh after doubted doubted_after replaced replaced_after) where
    own : place_of after t.id.name ≡ Some place
    own = one.fresh_is t.id.name ∙ ap (λ (b : Bool). cond b (Some place) (place_of fresh t.id.name)) (same_itself t.id.name)

    -- the place under its name was this one
    only : (q : ℕ) → place_of fresh t.id.name ≡ Some q → q ≡ place
    only q under = same_or q place (λ differs. free (q, under, differs))

    kept_one : (name : List ℕ) (q : ℕ) → place_of fresh name ≡ Some q → place_of after name ≡ Some q
    kept_one name q under = at (same t.id.name name) refl
      where
        at : (b : Bool) → same t.id.name name ≡ b → place_of after name ≡ Some q
        at true is =
            let same = same_means t.id.name name is in
            ap (place_of after) (sym same) ∙ own ∙ ap (λ (n : ℕ). Some n) (sym (only q (ap (place_of fresh) same ∙ under)))
        at false is = one.fresh_is name ∙ ap (λ (b : Bool). cond b (Some place) (place_of fresh name)) is ∙ under

    same_trove : (q : ℕ) (u : TroveParts) → place ≡ q → slice_get troves q ≡ Some u → t ≡ u
    same_trove q u same at = same_Some t u (sym there ∙ ap (slice_get troves) same ∙ at)

    from_one : (name : List ℕ) (q : ℕ) → place_of after name ≡ Some q → (place_of first name ≡ Some q) ⊎ IsNamedAt troves (take (i + 1) places) name q
    from_one name q under = at (same t.id.name name) refl
      where
        at : (b : Bool) → same t.id.name name ≡ b → (place_of first name ≡ Some q) ⊎ IsNamedAt troves (take (i + 1) places) name q
        at true is =
            let same = same_means t.id.name name is in
            let e : place ≡ q = same_Some place q (sym own ∙ ap (place_of after) same ∙ under) in
            inr (record { among = subst (Contains (take (i + 1) places)) e (next_in places i 0 place within here); trove = t; there = ap (slice_get troves) (sym e) ∙ there; named = same })
        at false is = ⊎_elim
            inl
            (λ named. inr (record { among = more_in places i 0 place within here q named.among; trove = named.trove; there = named.there; named = named.named }))
            (so_far.from name q (sym (one.fresh_is name ∙ ap (λ (b : Bool). cond b (Some place) (place_of fresh name)) is) ∙ under))

    still_one : (name : List ℕ) → IsTrue (is_doubted doubted name) → IsTrue (is_doubted doubted_after name)
    still_one name is = one.still name is

    own_doubted : IsTrue (is_doubted doubted_after t.id.name)
    own_doubted = one.own

    still_some : (name : List ℕ) → IsSome (place_of fresh name) → IsSome (place_of after name)
    still_some name some = at (place_of fresh name) refl some
      where
        at : (o : Option ℕ) → place_of fresh name ≡ o → IsSome o → IsSome (place_of after name)
        at None e none = absurd (cc none)
        at (Some q) e is = ap is_some (kept_one name q e)

    -- the fields that don't speak of what is replaced
    with_replaced : (more : HasMore replaced_first replaced_after) → ((name : List ℕ) → Contains more.more name → IsSome (place_of after name) × HasTroveOf installed name)
        → ((name : List ℕ) → Contains replaced name → Contains replaced_after name) → (HasTroveOf installed t.id.name → Contains replaced_after t.id.name)
        → HasNotedAll troves installed (take (i + 1) places) first after doubted_first doubted_after replaced_first replaced_after
    with_replaced more replaces kept_replaced own_replaced = record {
      kept = λ name q under. kept_one name q (so_far.kept name q under);
      from = from_one;
      all = λ q u among at. ⊎_elim
          (λ before. kept_one u.id.name q (so_far.all q u before at))
          (λ same. ap (λ (v : TroveParts). place_of after v.id.name) (sym (same_trove q u same at)) ∙ own ∙ ap (λ (n : ℕ). Some n) same)
          (in_more places i 0 place within here q among);
      still = λ name is. still_one name (so_far.still name is);
      doubts = λ q u among at. ⊎_elim
          (λ before. still_one u.id.name (so_far.doubts q u before at))
          (λ same. subst (λ (v : TroveParts). IsTrue (is_doubted doubted_after v.id.name)) (same_trove q u same at) own_doubted)
          (in_more places i 0 place within here q among);
      more = more;
      replaces = replaces;
      replaces_all = λ q u among at has. ⊎_elim
          (λ before. kept_replaced u.id.name (so_far.replaces_all q u before at has))
          (λ same.
          (let e = same_trove q u same at in
          subst (λ (v : TroveParts). Contains replaced_after v.id.name) e (own_replaced (subst (λ (v : TroveParts). HasTroveOf installed v.id.name) (sym e) has))))
          (in_more places i 0 place within here q among);
    }

    pub noted_more : HasNotedAll troves installed (take (i + 1) places) first after doubted_first doubted_after replaced_first replaced_after
    noted_more = ⊎_elim
        (λ pushed. with_replaced (more_then replaced_first replaced replaced_after (t.id.name ∷ []) so_far.more pushed.0)
        (λ name among. ⊎_elim
        (λ before. (let was = so_far.replaces name before in (still_some name was.0, was.1)))
        (λ same. (subst (λ (n : List ℕ). IsSome (place_of after n)) same (ap is_some own), subst (HasTroveOf installed) same pushed.1))
        (Contains-push_cases so_far.more.more t.id.name name among))
        (λ name among. subst (λ (l : List (List ℕ)). Contains l name) (sym pushed.0) (Contains-append_left replaced (t.id.name ∷ []) name among))
        (λ has. subst (λ (l : List (List ℕ)). Contains l t.id.name) (sym pushed.0) (Contains-push replaced t.id.name)))
        (λ kept. with_replaced (record { more = so_far.more.more; new_is = kept.0 ∙ so_far.more.new_is })
        (λ name among. (let was = so_far.replaces name among in (still_some name was.0, was.1)))
        (λ name among. subst (λ (l : List (List ℕ)). Contains l name) (sym kept.0) among)
        (λ has. absurd (kept.1 has.0 has.1 has.2)))
        one.replaced_is

  -- another place stands under the name
  pub two_of : (t : TroveParts) → slice_get troves place ≡ Some t → IsTaken fresh t.id.name place → HasTwo troves places first
  two_of t there taken = record {
    place = place;
    among = subst (Contains places) (sym here) (Contains-get_or places i 0 within);
    trove = t;
    there = there;
    other = taken.0;
    differs = taken.2;
    stood = ⊎_elim
        inl
        (λ named. inr (record { among = contains_take i places taken.0 named.among; trove = named.trove; there = named.there; named = named.named }))
        (so_far.from t.id.name taken.0 taken.1);
  }
