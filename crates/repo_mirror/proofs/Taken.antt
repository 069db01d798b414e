-- What a repository has after it mirrored another one.
use Rattle.std.proofs.Common.{◌≡◌, ◌≢◌, ◌⊎◌, inl, inr, ⊎_elim, ℕ, Bool, true, false, cond, not, List, [], ◌∷◌, ◌++◌, map, filter, All, Contains, Option, Some, None, refl, sym, ap, ◌∙◌, subst, append-nil}
use Rattle.std.specs.Prelude.{IsSome}
use Rattle.std.specs.Cmp.Lexicographic.{nat_list_eq_equiv}
use Rattle.std.specs.List.{find, list_any}
use Rattle.std.specs.Str.{bytes_eq}
use Rattle.std.proofs.lemmas.Bool.{cases_Bool}
use Rattle.std.proofs.lemmas.List.Folds.{list_any_at}
use Rattle.std.proofs.lemmas.List.Elements.{All-contains, Contains-append_left, Contains-append_right}
use Rattle.change_set.specs.declared.change.Carried.{Carried}
use Rattle.change_set.specs.declared.change.ChangeSet.{ChangeSet}
use Rattle.change_set.specs.ChangeSet.{IsSetStream}
use Rattle.change_set.specs.declared.change.Part.{Part}
use Rattle.change_set.specs.declared.change.Part.TheVariants.{Whole}
use Rattle.change_set.specs.trove-parts.declared.id.TroveId.{TroveId}
use Rattle.change_set.specs.trove-parts.Order.{id_eq, id_equiv}
use Rattle.change_set.specs.trove-stream.declared.parts.TroveParts.{TroveParts}
use Rattle.repo_index.specs.Catalogue.{found, has_content, has_id}
use Rattle.repo_load.specs.State.{catalogue_of, troves_of, Commit, IsRepository, RepositoryState}
use Rattle.repo_mirror.specs.Absolute.{name_of, IsAbsoluteSet}
use Rattle.repo_mirror.specs.Missing.{has_one_of, missing_of}
use Rattle.repo_mirror.proofs.Gathering.{troves-append}
use Rattle.repo_mirror.proofs.Weighing.{kept_in}
use Rattle.repository.specs.Parts.{MakeTroves}
use Rattle.repository.specs.Steps.{after_commit, bytes_if_carried, carried, or_carried, IsCommitStep}
use Rattle.repository.specs.Tests.{collides}
use Rattle.repository.proofs.Sources.{found_has, no_collision, same_content}
use Rattle.repository.proofs.Stepping.{after_full, passed_all}
use Rattle.repo_load.proofs.cny-base.Lists.{all_from, contains_cases, contains_first, contains_rest, nothing_in, one_passes}
use Rattle.repo_mirror.specs.Replies.{IsSetReply}
use Rattle.repo_mirror.specs.Asking.{AreIdsOf}
use Rattle.repo_mirror.specs.Mirroring.{Mirrors, SendsMissing}
use Rattle.repo_mirror.proofs.SentSets.{file_names, taken_is_sent}

-- whole parts make their own troves
whole_made : (committed troves made : List TroveParts) → MakeTroves committed (map Whole troves) made → made ≡ troves
whole_made committed [] [] makes = refl
whole_made committed [] (u ∷ made) makes = absurd makes
whole_made committed (t ∷ troves) [] makes = absurd makes
whole_made committed (t ∷ troves) (u ∷ made) makes = let rest = whole_made committed troves made makes.1 in λ i. makes.0 i ∷ rest i

after_troves : (troves : List TroveParts) (contents : List Carried) (r : RepositoryState) → troves_of (after_commit troves contents r).commits ≡ troves_of r.commits ++ troves
after_troves [] contents r = sym (append-nil (troves_of r.commits))
after_troves (t ∷ troves) contents r = troves-append r.commits ((t ∷ troves) ∷ []) ∙ ap (λ (l : List TroveParts). troves_of r.commits ++ l) (append-nil (t ∷ troves))

-- a trove is found by an id that is equal to its own
found_in : (id : TroveId) (troves : List TroveParts) (u : TroveParts) → Contains troves u → id_eq u.id id ≡ true → IsSome (found id troves)
found_in id [] u h is = absurd (nothing_in u h)
found_in id (x ∷ troves) u h is = ⊎_elim
    (λ same. here (has_id id x) (ap (has_id id) same ∙ is))
    (λ g. later (has_id id x) (found_in id troves u g is))
    (contains_cases x u troves h)
  where
    here : (b : Bool) → b ≡ true → IsSome (cond b (Some x) (found id troves))
    here true e = refl
    here false e = absurd (cc e)

    later : (b : Bool) → IsSome (found id troves) → IsSome (cond b (Some x) (found id troves))
    later true e = refl
    later false e = e

module _ (other own new : RepositoryState) (it : Mirrors other own new) where
  made : it.committed.troves ≡ it.troves
  made =
      whole_made (troves_of own.commits) it.troves it.committed.troves
      (subst (λ (l : List Part). MakeTroves (troves_of own.commits) l it.committed.troves) it.sent.parts it.committed.passes.made.make)

  pub own_and_missing : troves_of new.commits ≡ troves_of own.commits ++ it.troves
  own_and_missing =
      ap (λ (r : RepositoryState). troves_of r.commits) it.committed.is ∙ after_troves it.committed.troves it.set.contents own
      ∙ ap (λ (l : List TroveParts). troves_of own.commits ++ l) made

  -- where no commit was cut off, a trove whose id is equal to that of each of the other one's
  pub there : it.troves ≡ missing_of it.ids (troves_of other.commits) → (t : TroveParts) → Contains (troves_of other.commits) t
      → (u : TroveParts) × Contains (troves_of new.commits) u × (id_eq u.id t.id ≡ true)
  there whole t h = ⊎_elim known lacking (cases_Bool (has_one_of it.ids t))
    where
      after : (u : TroveParts) → Contains (troves_of own.commits ++ it.troves) u → Contains (troves_of new.commits) u
      after u g = subst (λ (l : List TroveParts). Contains l u) (sym own_and_missing) g

      known : has_one_of it.ids t ≡ true → (u : TroveParts) × Contains (troves_of new.commits) u × (id_eq u.id t.id ≡ true)
      known is =
          let one = one_passes (λ (id : TroveId). id_eq t.id id) it.ids is in
          let u = it.asked.own one.0 one.1 in
          let same : id_eq u.0.id t.id ≡ true = ap (λ (id : TroveId). id_eq id t.id) u.2 ∙ id_equiv.symm one.0 t.id ∙ one.2 in
          (u.0, after u.0 (Contains-append_left (troves_of own.commits) it.troves u.0 u.1), same)

      lacking : has_one_of it.ids t ≡ false → (u : TroveParts) × Contains (troves_of new.commits) u × (id_eq u.id t.id ≡ true)
      lacking is =
          let sent : Contains it.troves t = subst (λ (l : List TroveParts). Contains l t) (sym whole) (kept_in (λ (u : TroveParts). not (has_one_of it.ids u)) (troves_of other.commits) t h (ap not is)) in
          (t, after t (Contains-append_right (troves_of own.commits) it.troves t sent), id_equiv.refl t.id)

  pub all_there : it.troves ≡ missing_of it.ids (troves_of other.commits) → (t : TroveParts) → Contains (troves_of other.commits) t → IsSome (found t.id (troves_of new.commits))
  all_there whole t h = let u = there whole t h in found_in t.id (troves_of new.commits) u.0 u.1 u.2

-- ---- contents

after_kept : (troves : List TroveParts) (contents : List Carried) (r : RepositoryState) (name bytes : List ℕ) → r.contents name ≡ Some bytes → (after_commit troves contents r).contents name ≡ Some bytes
after_kept [] contents r name bytes held = held
after_kept (t ∷ troves) contents r name bytes held = ap (λ (o : Option (List ℕ)). or_carried o (carried contents name)) held

-- what is listed by its name is carried
carried_some : (contents : List Carried) (name : List ℕ) → Contains (map name_of contents) name → (bytes : List ℕ) × (carried contents name ≡ Some bytes)
carried_some [] name h = absurd (nothing_in name h)
carried_some (c ∷ contents) name h = by (bytes_eq c.name name) refl (contains_cases c.name name (map name_of contents) h) (carried_some contents name)
  where
    by : (b : Bool) → bytes_eq c.name name ≡ b → (c.name ≡ name) ⊎ Contains (map name_of contents) name
        → (Contains (map name_of contents) name → (bytes : List ℕ) × (carried contents name ≡ Some bytes))
        → (bytes : List ℕ) × (bytes_if_carried (cond b (Some c) (find (λ (content : Carried). bytes_eq content.name name) contents)) ≡ Some bytes)
    by true is either rest = (c.bytes, refl)
    by false is (inl same) rest = absurd (cc (sym is ∙ ap (bytes_eq c.name) (sym same) ∙ nat_list_eq_equiv.refl c.name))
    by false is (inr later) rest = rest later

module _ (other own new : RepositoryState) (it : Mirrors other own new) where
  pub own_kept : (name bytes : List ℕ) → own.contents name ≡ Some bytes → new.contents name ≡ Some bytes
  own_kept name bytes held = ap (λ (r : RepositoryState). r.contents name) it.committed.is ∙ after_kept it.committed.troves it.set.contents own name bytes held

  -- held by the other one, and no other content of its name is held already
  abbrev IsFree : Carried → Type 0
  IsFree content = (other.contents content.name ≡ Some content.bytes) × (collides (own.contents content.name) content ≡ None)

  module _ (full : it.committed.troves ≢ []) where
    free : All IsFree it.set.contents
    free =
        let passed = passed_all (catalogue_of own.commits) own.contents it.set.contents it.committed.troves full it.committed.passes.passed in
        let apart = no_collision own.contents it.set.contents passed.no_collisions in
        all_from IsFree it.set.contents (λ content h. (
          All-contains (λ (c : Carried). other.contents c.name ≡ Some c.bytes) it.set.contents content it.held h,
          All-contains (λ (c : Carried). collides (own.contents c.name) c ≡ None) it.set.contents content apart h,
        ))

    carried_there : (name bytes : List ℕ) → carried it.set.contents name ≡ Some bytes → (other.contents name ≡ Some bytes) × (new.contents name ≡ Some bytes)
    carried_there name bytes has =
        let c = found_has IsFree name bytes it.set.contents free has in
        let new_is = it.committed.is ∙ after_full it.committed.troves it.set.contents own full in (
          ap other.contents (sym c.2) ∙ c.1.0 ∙ ap Some c.3,
          ap (λ (r : RepositoryState). r.contents name) new_is ∙ by (own.contents name) refl (λ kept held. same_content (own.contents c.0.name) kept c.0 (ap own.contents c.2 ∙ held) c.1.1 ∙ c.3),
        )
      where
        by : (o : Option (List ℕ)) → own.contents name ≡ o → ((kept : List ℕ) → own.contents name ≡ Some kept → kept ≡ bytes) → or_carried o (carried it.set.contents name) ≡ Some bytes
        by None none same = has
        by (Some kept) held same = ap Some (same kept held)

  pub sent_there : (name : List ℕ) → has_content name it.troves ≡ true → (bytes : List ℕ) × (other.contents name ≡ Some bytes) × (new.contents name ≡ Some bytes)
  sent_there name h =
      let has = carried_some it.set.contents name ((it.sent.each name).1 (file_names name it.troves ∙ h)) in
      let full : it.committed.troves ≢ [] = λ none. cc (subst (λ (l : List TroveParts). has_content name l ≡ true) (sym (made other own new it) ∙ none) h) in
      let there = carried_there full name has.0 has.1 in
      (has.0, there.0, there.1)

-- ---- by a reply

pub mirrors : ((a b : ChangeSet) (bytes : List ℕ) → IsSetStream a bytes → IsSetStream b bytes → a ≡ b) → (other own new : RepositoryState) (ids : List TroveId) (reply : List ℕ) (set : ChangeSet) → IsRepository other
    → AreIdsOf (troves_of own.commits) ids → SendsMissing other ids reply → IsSetReply set reply → IsCommitStep own set new → (it : Mirrors other own new) × (it.ids ≡ ids) × (it.set ≡ set)
mirrors unique other own new ids reply set is asked it taken committed =
    let same = taken_is_sent other ids is reply it unique set taken in (
      record {
        ids = ids;
        troves = it.troves;
        set = it.set;
        asked = asked;
        missing = it.missing;
        sent = it.sent;
        held = it.held;
        committed = subst (λ (s : ChangeSet). IsCommitStep own s new) same committed;
      },
      refl,
      sym same,
    )

-- ---- once more

none_kept : (p : TroveParts → Bool) (xs : List TroveParts) → ((t : TroveParts) → Contains xs t → p t ≡ false) → filter p xs ≡ []
none_kept p [] none = refl
none_kept p (x ∷ xs) none = by (p x) (none x (contains_first x xs)) (none_kept p xs (λ t h. none t (contains_rest x t xs h)))
  where
    by : (b : Bool) → b ≡ false → filter p xs ≡ [] → cond b (x ∷ filter p xs) (filter p xs) ≡ []
    by true is rest = absurd (cc is)
    by false is rest = rest

any_in : (p : TroveId → Bool) (ids : List TroveId) (id : TroveId) → Contains ids id → p id ≡ true → list_any p ids ≡ true
any_in p ids id h is = list_any_at p ids h.0 id h.1 (ap p h.2 ∙ is)

-- no troves have no contents
no_contents : (set : ChangeSet) → IsAbsoluteSet [] set → set.contents ≡ []
no_contents set is = by set.contents (λ name h. cc ((is.each name).0 h))
  where
    by : (contents : List Carried) → ((name : List ℕ) → Contains (map name_of contents) name → ⊥) → contents ≡ []
    by [] none = refl
    by (c ∷ contents) none = absurd (none c.name (contains_first c.name (map name_of contents)))

module _ (other own new last : RepositoryState) (it : Mirrors other own new) (more : Mirrors other new last) (whole : it.troves ≡ missing_of it.ids (troves_of other.commits)) where
  known : (t : TroveParts) → Contains (troves_of other.commits) t → has_one_of more.ids t ≡ true
  known t h =
      let u = there other own new it whole t h in
      let one = one_passes (λ (id : TroveId). id_eq u.0.id id) more.ids (more.asked.each u.0 u.1) in
      any_in (λ (id : TroveId). id_eq t.id id) more.ids one.0 one.1 (id_equiv.congr t.id u.0.id one.0 (id_equiv.symm t.id u.0.id ∙ u.2) ∙ one.2)

  nothing : more.troves ≡ []
  nothing =
      more.missing.are
      ∙ none_kept (λ (t : TroveParts). not (has_one_of more.ids t)) (troves_of more.missing.first)
      (λ t h. ap not (known t (subst (λ (l : List Commit). Contains (troves_of l) t) (sym more.missing.split)
      (subst (λ (l : List TroveParts). Contains l t) (sym (troves-append more.missing.first more.missing.rest)) (Contains-append_left (troves_of more.missing.first) (troves_of more.missing.rest) t h)))))

  pub again : last ≡ new
  again = more.committed.is ∙ ap (λ (l : List TroveParts). after_commit l more.set.contents new) (made other new last more ∙ nothing)

  pub none : more.set ≡ record { parts = []; contents = [] }
  none =
      let sent : IsAbsoluteSet [] more.set = subst (λ (l : List TroveParts). IsAbsoluteSet l more.set) nothing more.sent in
      λ i. record { parts = sent.parts i; contents = no_contents more.set sent i }
