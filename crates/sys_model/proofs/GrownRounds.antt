-- A round with more roots.
use Rattle.std.proofs.Common.{◌≡◌, ℕ, ◌≤◌, ◌⊎◌, ⊎_elim, inl, inr, IsSome, is_some, List, [], ◌∷◌, ◌++◌, length, slice_get, Contains, eqb, Option, Some, None, refl, sym, ap, ◌∙◌, subst, arith, append-nil, length-append}
use Rattle.std.specs.Prelude.{IsTrue}
use Rattle.std.specs.BTreeSet.{BTreeSet}
use Rattle.std.specs.List.{IsDistinct}
use Rattle.std.proofs.lemmas.List.Elements.{All-weaker, Contains-append_cases, Contains-append_left, Contains-append_right}
use Rattle.std.proofs.lemmas.Option.{none-some}
use Rattle.cny_dep.specs.Dep.{Dependency}
use Rattle.repo_index.specs.trove-parts.declared.id.TroveId.{TroveId}
use Rattle.repo_index.specs.trove-parts.Order.{id_eq, id_equiv}
use Rattle.repo_index.specs.trove-stream.declared.parts.TroveParts.{TroveParts}
use Rattle.repo_index.specs.trove-stream.Installed.{trove_of}
use Rattle.repo_index.specs.Catalogue.{HasDistinctIds}
use Rattle.repo_index.proofs.cny-base.Lists.{contains_at, nothing_in}
use Rattle.repo_index.proofs.trove-stream.Names.{is_named, is_there}
use Rattle.dep_closure.specs.Slots.{IsMetBy, IsServed}
use Rattle.trove_spec.specs.Reached.{ArePlacesReached}
use Rattle.update_job.specs.Lists.{HasTroveOf, IsErased, IsPlaceOfOne}
use Rattle.update_job.proofs.Leaving.{root_goes}
use Rattle.sys_model.specs.declared.round.Round.{Round}
use Rattle.sys_model.specs.Fit.{Fresh, place_of}
use Rattle.sys_model.specs.Growing.{is_doubted, AreByName, AreGathered, AreReplaced, HasMore, HasNotedAll, HasTwo, IsRoundOf, ReachTwo}
use Rattle.sys_model.specs.Held.{held, held_by, AreServedBut}
use Rattle.sys_model.proofs.Gathering.{gathered_all}

-- ---- all names are doubted

pub served_all : (troves : List TroveParts) (fresh : Fresh) (kept : List TroveParts) (doubted : BTreeSet (List ℕ)) → ((name : List ℕ) → IsSome (place_of fresh name) → IsTrue (is_doubted doubted name))
    → ((t : TroveParts) → Contains kept t → IsTrue (is_doubted doubted t.id.name)) → AreServedBut (held troves fresh kept) doubted
served_all troves fresh kept doubted comers stayers name = at (place_of fresh name) refl
  where
    none_held : place_of fresh name ≡ None → trove_of name kept ≡ None → IsServed (held troves fresh kept) name
    none_held e none = λ t there. absurd (none-some t (sym none ∙ sym (ap (λ (o : Option ℕ). held_by troves o (trove_of name kept)) e) ∙ there))

    stays : place_of fresh name ≡ None → (o : Option TroveParts) → trove_of name kept ≡ o → IsServed (held troves fresh kept) name ⊎ IsTrue (is_doubted doubted name)
    stays e None none = inl (none_held e none)
    stays e (Some t) is = inr (subst (λ (n : List ℕ). IsTrue (is_doubted doubted n)) (is_named kept name t is) (stayers t (is_there kept name t is)))

    at : (o : Option ℕ) → place_of fresh name ≡ o → IsServed (held troves fresh kept) name ⊎ IsTrue (is_doubted doubted name)
    at None e = stays e (trove_of name kept) refl
    at (Some place) e = inr (comers name (ap is_some e))

-- ---- nothing comes

pub none_distinct : IsDistinct eqb []
unfolding IsDistinct
none_distinct = tt

pub none_by_name : (troves : List TroveParts) (fresh : Fresh) → ((name : List ℕ) → place_of fresh name ≡ None) → AreByName troves [] fresh
none_by_name troves fresh empty = record {
  from = λ name place under. absurd (none-some place (sym (empty name) ∙ under));
  all = λ place t among. absurd (nothing_in place among);
}

pub none_replaced : (installed : List TroveParts) (fresh : Fresh) → ((name : List ℕ) → place_of fresh name ≡ None) → AreReplaced installed fresh []
none_replaced installed fresh empty = record {
  comes = λ name among. absurd (nothing_in name among);
  installed_ = λ name among. absurd (nothing_in name among);
  all = λ name some. absurd (cc (some, empty name));
}

-- ---- more comes

module _ (troves installed : List TroveParts) (front : List TroveId) (old : Round) (is : IsRoundOf troves installed front old) (places : List ℕ) (fresh : Fresh) (doubted : BTreeSet (List ℕ)) (replaced : List (List ℕ))
    (more : HasMore old.places places) (noted : HasNotedAll troves installed more.more old.fresh fresh old.doubted doubted old.replaced.items replaced) where
  old_in : (place : ℕ) → Contains old.places place → Contains places place
  old_in place among = subst (λ (l : List ℕ). Contains l place) (sym more.new_is) (Contains-append_left old.places more.more place among)

  more_in : (place : ℕ) → Contains more.more place → Contains places place
  more_in place among = subst (λ (l : List ℕ). Contains l place) (sym more.new_is) (Contains-append_right old.places more.more place among)

  pub grown_names : AreByName troves places fresh
  grown_names = record {
    from = λ name place under. ⊎_elim
        (λ before. (let named = is.by_name.from name place before in record { among = old_in place named.among; trove = named.trove; there = named.there; named = named.named }))
        (λ named. record { among = more_in place named.among; trove = named.trove; there = named.there; named = named.named })
        (noted.from name place under);
    all = λ place t among there. ⊎_elim
        (λ before. noted.kept t.id.name place (is.by_name.all place t before there))
        (λ later. noted.all place t later there)
        (Contains-append_cases old.places more.more place (subst (λ (l : List ℕ). Contains l place) more.new_is among));
  }

  still_some : (name : List ℕ) → IsSome (place_of old.fresh name) → IsSome (place_of fresh name)
  still_some name some = at (place_of old.fresh name) refl some
    where
      at : (o : Option ℕ) → place_of old.fresh name ≡ o → IsSome o → IsSome (place_of fresh name)
      at None e none = absurd (cc none)
      at (Some place) e one = ap is_some (noted.kept name place e)

  replaced_cases : (name : List ℕ) → Contains replaced name → Contains old.replaced.items name ⊎ Contains noted.more.more name
  replaced_cases name among = Contains-append_cases old.replaced.items noted.more.more name (subst (λ (l : List (List ℕ)). Contains l name) noted.more.new_is among)

  still_replaced : (name : List ℕ) → Contains old.replaced.items name → Contains replaced name
  still_replaced name among = subst (λ (l : List (List ℕ)). Contains l name) (sym noted.more.new_is) (Contains-append_left old.replaced.items noted.more.more name among)

  pub grown_replaced : AreReplaced installed fresh replaced
  grown_replaced = record {
    comes = λ name among. ⊎_elim (λ before. still_some name (is.replaced.comes name before)) (λ later. (noted.replaces name later).0) (replaced_cases name among);
    installed_ = λ name among. ⊎_elim (λ before. is.replaced.installed_ name before) (λ later. (noted.replaces name later).1) (replaced_cases name among);
    all = all_replaced;
  }
    where
      all_replaced : (name : List ℕ) → IsSome (place_of fresh name) → HasTroveOf installed name → Contains replaced name
      all_replaced name some has = at (place_of fresh name) refl some
        where
          at : (o : Option ℕ) → place_of fresh name ≡ o → IsSome o → Contains replaced name
          at None e none = absurd (cc none)
          at (Some place) e one = ⊎_elim
              (λ before. still_replaced name (is.replaced.all name (ap is_some before) has))
              (λ named.
              subst (Contains replaced) named.named
              (noted.replaces_all place named.trove named.among named.there (subst (HasTroveOf installed) (sym named.named) has)))
              (noted.from name place e)

  -- ---- no more is replaced

  module _ (few : length replaced ≤ length old.replaced.items) where
    none_more : (l : List (List ℕ)) → length l ≤ 0 → l ≡ []
    none_more [] short = refl
    none_more (x ∷ l) short = absurd (omega (arith, short))

    same_replaced : replaced ≡ old.replaced.items
    same_replaced =
        let short : length noted.more.more ≤ 0 = omega (arith, few, ap length noted.more.new_is, length-append old.replaced.items noted.more.more) in
        noted.more.new_is ∙ ap (λ (l : List (List ℕ)). old.replaced.items ++ l) (none_more noted.more.more short) ∙ append-nil old.replaced.items

    pub same_erased : IsErased installed replaced old.kept
    same_erased = subst (λ (l : List (List ℕ)). IsErased installed l old.kept) (sym same_replaced) is.erased

    -- a trove that stays has no name that is replaced
    not_replaced : (t : TroveParts) → Contains old.kept t → Contains replaced t.id.name → ⊥
    not_replaced t stays among =
        let left = is.erased.stays t stays in
        let root : IsPlaceOfOne installed (Contains old.replaced.items) left.place =
        record {
          name = t.id.name;
          named = subst (λ (l : List (List ℕ)). Contains l t.id.name) same_replaced among;
          place_of = record { trove = t; there = left.there; named = refl };
        } in
        left.left.is_not (root_goes installed (IsPlaceOfOne installed (Contains old.replaced.items)) left.place root)

    -- what was held is held
    still_held : (name : List ℕ) (t : TroveParts) → held troves old.fresh old.kept name ≡ Some t → held troves fresh old.kept name ≡ Some t
    still_held name t there = at (place_of old.fresh name) refl there
      where
        stays : trove_of name old.kept ≡ Some t → (o : Option ℕ) → place_of fresh name ≡ o → place_of old.fresh name ≡ None → held_by troves o (trove_of name old.kept) ≡ Some t
        stays found None e none = found
        stays found (Some place) e none = ⊎_elim
            (λ before. absurd (none-some place (sym none ∙ before)))
            (λ named. (
            let own : t.id.name ≡ name = is_named old.kept name t found in
            let among : Contains old.kept t = is_there old.kept name t found in
            let left = is.erased.stays t among in
            let has : HasTroveOf installed named.trove.id.name = (t, contains_at installed left.place t left.there, own ∙ sym named.named) in
            absurd (not_replaced t among (subst (Contains replaced) (named.named ∙ sym own) (noted.replaces_all place named.trove named.among named.there has)))))
            (noted.from name place e)

        at : (o : Option ℕ) → place_of old.fresh name ≡ o → held_by troves o (trove_of name old.kept) ≡ Some t → held troves fresh old.kept name ≡ Some t
        at None e found = stays found (place_of fresh name) refl e
        at (Some place) e found = ap (λ (o : Option ℕ). held_by troves o (trove_of name old.kept)) (noted.kept name place e) ∙ found

    still_met : (require : Dependency) → IsMetBy (held troves old.fresh old.kept) require → IsMetBy (held troves fresh old.kept) require
    still_met require m = record { name = m.name; trove = m.trove; there = still_held m.name m.trove m.there; by = m.by }

    -- a trove that was held and had its requirements met has them met
    still_served : (name : List ℕ) → ((t : TroveParts) → held troves fresh old.kept name ≡ Some t → held troves old.fresh old.kept name ≡ Some t) → IsServed (held troves old.fresh old.kept) name
        → IsServed (held troves fresh old.kept) name
    still_served name was served t there =
        All-weaker (IsMetBy (held troves old.fresh old.kept)) (IsMetBy (held troves fresh old.kept)) still_met t.requires_ (served t (was t there))

    either : (name : List ℕ) → ((t : TroveParts) → held troves fresh old.kept name ≡ Some t → held troves old.fresh old.kept name ≡ Some t)
        → IsServed (held troves fresh old.kept) name ⊎ IsTrue (is_doubted doubted name)
    either name was = ⊎_elim (λ served. inl (still_served name was served)) (λ doubts. inr (noted.still name doubts)) (is.served name)

    pub same_served : AreServedBut (held troves fresh old.kept) doubted
    same_served name = at (place_of fresh name) refl
      where
        before : (place : ℕ) → place_of fresh name ≡ Some place → place_of old.fresh name ≡ Some place → (t : TroveParts) → held troves fresh old.kept name ≡ Some t → held troves old.fresh old.kept name ≡ Some t
        before place e under t there =
            ap (λ (o : Option ℕ). held_by troves o (trove_of name old.kept)) under ∙ sym (ap (λ (o : Option ℕ). held_by troves o (trove_of name old.kept)) e) ∙ there

        absent : (o : Option ℕ) → place_of old.fresh name ≡ o → place_of fresh name ≡ None → place_of old.fresh name ≡ None
        absent None under e = under
        absent (Some place) under e = absurd (none-some place (sym e ∙ noted.kept name place under))

        at : (o : Option ℕ) → place_of fresh name ≡ o → IsServed (held troves fresh old.kept) name ⊎ IsTrue (is_doubted doubted name)
        at None e =
            either name (λ t there.
            ap (λ (o : Option ℕ). held_by troves o (trove_of name old.kept)) (absent (place_of old.fresh name) refl e ∙ sym e) ∙ there)
        at (Some place) e = ⊎_elim
            (λ under. either name (before place e under))
            (λ named. inr (subst (λ (n : List ℕ). IsTrue (is_doubted doubted n)) named.named (noted.doubts place named.trove named.among named.there)))
            (noted.from name place e)

-- ---- two of one name

module _ (troves installed : List TroveParts) (front roots : List TroveId) (old : Round) (is : IsRoundOf troves installed front old) (distinct_ids : HasDistinctIds troves) (places : List ℕ)
    (more : HasMore old.places places) (distinct : IsDistinct eqb places) (gathered : AreGathered troves roots places (length places)) where
  reached : ArePlacesReached troves roots places
  reached = gathered_all troves roots places distinct gathered

  two_at : (place other : ℕ) (t u : TroveParts) → Contains places place → Contains places other → slice_get troves place ≡ Some t → slice_get troves other ≡ Some u → u.id.name ≡ t.id.name → (other ≡ place → ⊥)
      → ReachTwo troves roots
  two_at place other t u among among_too at at_too names differs = record {
    trove = t;
    other = u;
    there = contains_at troves place t at;
    there_too = contains_at troves other u at_too;
    reached = reached.reached place t among at;
    reached_too = reached.reached other u among_too at_too;
    one_name = sym names;
    differ = λ same. differs (distinct_ids other place u t at_too at (ap (λ (v : TroveParts). id_eq u.id v.id) same ∙ id_equiv.refl u.id));
  }

  pub reach_two : HasTwo troves more.more old.fresh → ReachTwo troves roots
  reach_two two = ⊎_elim
      (λ stood. (
      let named = is.by_name.from two.trove.id.name two.other stood in
      two_at two.place two.other two.trove named.trove (in_more two.place two.among) (in_old two.other named.among) two.there named.there named.named two.differs))
      (λ named. two_at two.place two.other two.trove named.trove (in_more two.place two.among) (in_more two.other named.among) two.there named.there named.named two.differs)
      two.stood
    where
      in_old : (place : ℕ) → Contains old.places place → Contains places place
      in_old place among = subst (λ (l : List ℕ). Contains l place) (sym more.new_is) (Contains-append_left old.places more.more place among)

      in_more : (place : ℕ) → Contains more.more place → Contains places place
      in_more place among = subst (λ (l : List ℕ). Contains l place) (sym more.new_is) (Contains-append_right old.places more.more place among)
