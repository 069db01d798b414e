-- The names whose trove a job changed, and the deltas that take it back.
use Rattle.std.proofs.Common.{◌≡◌, ℕ, ◌+◌, ◌<◌, get_or, take, length, arith, Bool, true, false, cond, ⊎_elim, List, [], ◌∷◌, ◌++◌, map, Option, Some, None, All, Contains, refl, sym, ap, subst, ◌∙◌, true≢false}
use Rattle.std.specs.Cmp.Lexicographic.{slice_cmp}
use Rattle.std.specs.List.Sorted.{IsStrictlySortedBy}
use Rattle.std.specs.Ordering.{nat_cmp}
use Rattle.std.proofs.lemmas.List.{map_push, take_more}
use Rattle.std.proofs.lemmas.List.Elements.{All-contains, All-push, Contains-get_or}
use Rattle.local_db.specs.trove-stream.Installed.{trove_of}
use Rattle.local_db.specs.declared.record.Delta.{Delta}
use Rattle.local_db.specs.declared.record.Delta.TheVariants.{Came, Was}
use Rattle.local_db.specs.RecordText.{delta_of, name_of}
use Rattle.local_db.specs.Record as state
use Rattle.local_db.specs.Record.{delta_name, delta_at, TakesBackAt, TakesBack}
use Rattle.local_db.specs.trove-parts.declared.id.TroveId.{TroveId}
use Rattle.local_db.specs.trove-stream.declared.parts.TroveParts.{TroveParts}
use Rattle.local_db.specs.tree-disk.Tree.{Name, same_name}
use Rattle.job_record.specs.Changed.{AreChangedNames, IsDeltaOf}
use Rattle.job_record.proofs.Keyed.{same_means, same_from, found_is}
use Rattle.job_record.proofs.ByLists.{rises_unmapped, mapped}
use Rattle.change_rel.proofs.cny-base.Lists.{contains_cases, contains_first, contains_rest}

-- ---- lists that are mapped

-- ---- deltas

delta_found : (us : List state.Delta) (name : Name) (u : state.Delta) → delta_at us name ≡ Some u → Contains us u × (delta_name u ≡ name)
delta_found [] name u is = absurd (cc is)
delta_found (v ∷ us) name u is = at (same_name name (delta_name v)) refl (delta_found us name u) is
  where
    at_first : (v u : state.Delta) (l : List state.Delta) → v ≡ u → Contains (v ∷ l) u
    at_first v u l same = subst (λ (w : state.Delta). Contains (v ∷ l) w) same (contains_first v l)

    at : (b : Bool) → same_name name (delta_name v) ≡ b → (delta_at us name ≡ Some u → Contains us u × (delta_name u ≡ name)) → cond b (Some v) (delta_at us name) ≡ Some u → Contains (v ∷ us) u × (delta_name u ≡ name)
    at true e rest is = let one : v ≡ u = cc is in (at_first v u us one, ap delta_name (sym one) ∙ sym (same_means name (delta_name v) e))
    at false e rest is = let later = rest is in (contains_rest v u us later.0, later.1)

delta_missing : (us : List state.Delta) (name : Name) → delta_at us name ≡ None → Contains (map delta_name us) name → ⊥
delta_missing [] name none h = let within = h.1 in omega (arith, within)
delta_missing (v ∷ us) name none h = at (same_name name (delta_name v)) refl (delta_missing us name) none
  where
    at : (b : Bool) → same_name name (delta_name v) ≡ b → (delta_at us name ≡ None → Contains (map delta_name us) name → ⊥) → cond b (Some v) (delta_at us name) ≡ None → ⊥
    at true e rest none = absurd (cc none)
    at false e rest none = ⊎_elim
        (λ here. true≢false (sym (same_from name (delta_name v) (sym here)) ∙ e))
        (λ there. rest none there)
        (contains_cases (delta_name v) name (map delta_name us) h)

module _ (us : List state.Delta) (after before : List TroveParts) (rises : IsStrictlySortedBy (slice_cmp nat_cmp) (map delta_name us))
    (lead : All (λ (u : state.Delta). TakesBackAt (Some u) (trove_of (delta_name u) after) (trove_of (delta_name u) before)) us)
    (others : (name : Name) → (Contains (map delta_name us) name → ⊥) → trove_of name before ≡ trove_of name after) where
  at_name : (name : Name) (o : Option state.Delta) → delta_at us name ≡ o → TakesBackAt o (trove_of name after) (trove_of name before)
  at_name name None none = others name (delta_missing us name none)
  at_name name (Some u) some =
      let here = delta_found us name u some in
      subst (λ (n : Name). TakesBackAt (Some u) (trove_of n after) (trove_of n before)) here.1
      (All-contains (λ (v : state.Delta). TakesBackAt (Some v) (trove_of (delta_name v) after) (trove_of (delta_name v) before)) us u lead here.0)

  pub takes_back : TakesBack us after before
  takes_back = record { rising = rises_unmapped delta_name (slice_cmp nat_cmp) us rises; each = λ name. at_name name (delta_at us name) refl }

names_mapped : (us : List Delta) → map delta_name (map delta_of us) ≡ map name_of us
names_mapped [] = refl
names_mapped (u ∷ us) = ap (λ (l : List Name). name_of u ∷ l) (names_mapped us)

-- ---- deltas made so far

pub record MadeSoFar (names : List Name) (after before : List TroveParts) (us : List Delta) (i : ℕ) : Type 0 where
  pub named : map name_of us ≡ take i names
  pub lead : All (λ (u : Delta). TakesBackAt (Some (delta_of u)) (trove_of (name_of u) after) (trove_of (name_of u) before)) us

module _ (names : List Name) (after before : List TroveParts) where
  -- the next name is one of them
  pub next_name : (i : ℕ) (name : Name) → i < length names → name ≡ get_or names i name → Contains names name
  next_name i name within at = subst (Contains names) (sym at) (Contains-get_or names i name within)

  pub made_more : (us : List Delta) (i : ℕ) (name : Name) (u : Delta) → i < length names → name ≡ get_or names i name → MadeSoFar names after before us i
      → IsDeltaOf name (trove_of name after) (trove_of name before) u → MadeSoFar names after before (us ++ u ∷ []) (i + 1)
  made_more us i name u within at made is = record {
    named = map_push name_of us u
        ∙ ap (λ (n : Name). map name_of us ++ n ∷ []) (is.named ∙ at)
        ∙ ap (λ (l : List Name). l ++ get_or names i name ∷ []) made.named
        ∙ sym (take_more names i name within);
    lead = All-push (λ (v : Delta). TakesBackAt (Some (delta_of v)) (trove_of (name_of v) after) (trove_of (name_of v) before)) us u made.lead
        (subst (λ (n : Name). TakesBackAt (Some (delta_of u)) (trove_of n after) (trove_of n before)) (sym is.named) is.leads);
  }

  -- all are made
  pub deltas_take_back : AreChangedNames before after names → (us : List Delta) (i : ℕ) → take i names ≡ names → MadeSoFar names after before us i → TakesBack (map delta_of us) after before
  deltas_take_back are us i whole made =
      let all : map delta_name (map delta_of us) ≡ names = names_mapped us ∙ made.named ∙ whole in
      takes_back (map delta_of us) after before
      (subst (IsStrictlySortedBy (slice_cmp nat_cmp)) (sym all) are.rising)
      (mapped (λ (u : state.Delta). TakesBackAt (Some u) (trove_of (delta_name u) after) (trove_of (delta_name u) before)) delta_of us made.lead)
      (λ name none. are.others name (λ h. none (subst (λ (l : List Name). Contains l name) (sym all) h)))

-- ---- the delta of one name

module _ (name : Name) (after before : List TroveParts) where
  abbrev key : TroveParts → List ℕ
  key t = t.id.name

  pub one_name : (t b : TroveParts) → trove_of name after ≡ Some t → trove_of name before ≡ Some b → t.id.name ≡ b.id.name
  one_name t b first second = (found_is key after name t first).1 ∙ sym (found_is key before name b second).1

  pub delta_gone : (t u : TroveParts) → trove_of name after ≡ None → trove_of name before ≡ Some t → u ≡ t → IsDeltaOf name (trove_of name after) (trove_of name before) (Was u)
  delta_gone t u none some is = record {
    named = ap key is ∙ (found_is key before name t some).1;
    leads = subst (λ (o : Option TroveParts). TakesBackAt (Some (state.was u)) o (trove_of name before)) (sym none)
        (subst (λ (o : Option TroveParts). TakesBackAt (Some (state.was u)) None o) (sym some) (sym is));
  }

  pub delta_come : (t : TroveParts) (id : TroveId) → trove_of name after ≡ Some t → trove_of name before ≡ None → id ≡ t.id → IsDeltaOf name (trove_of name after) (trove_of name before) (Came id)
  delta_come t id some none is = record {
    named = ap (λ (i : TroveId). i.name) is ∙ (found_is key after name t some).1;
    leads = subst (λ (o : Option TroveParts). TakesBackAt (Some (state.came id)) o (trove_of name before)) (sym some)
        (subst (λ (o : Option TroveParts). TakesBackAt (Some (state.came id)) (Some t) o) (sym none) (sym is));
  }

  pub delta_other : (t b : TroveParts) (u : Delta) → trove_of name after ≡ Some t → trove_of name before ≡ Some b → IsDeltaOf t.id.name (Some t) (Some b) u → IsDeltaOf name (trove_of name after) (trove_of name before) u
  delta_other t b u first second is = record {
    named = is.named ∙ (found_is key after name t first).1;
    leads = subst (λ (o : Option TroveParts). TakesBackAt (Some (delta_of u)) o (trove_of name before)) (sym first)
        (subst (λ (o : Option TroveParts). TakesBackAt (Some (delta_of u)) (Some t) o) (sym second) is.leads);
  }
