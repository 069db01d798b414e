-- Rounds, one after the other, and why each trove is there.
use Rattle.std.proofs.Common.{◌≡◌, ℕ, zero, suc, ◌⊎◌, ⊎_elim, inl, inr, List, [], ◌∷◌, ◌++◌, length, map, Contains, Ok, Err, refl, sym, ap, ◌∙◌, subst, append_assoc, append-nil}
use Rattle.std.proofs.lemmas.List.Elements.{Contains-append_cases}
use Rattle.repo_index.specs.cny-base.Reach.{IsReachedIn}
use Rattle.repo_index.specs.cny-base.declared.refusal.Fault.{Fault}
use Rattle.repo_index.specs.cny-base.declared.refusal.Fault.TheVariants as fault
use Rattle.repo_index.specs.trove-parts.declared.id.TroveId.{TroveId}
use Rattle.repo_index.specs.trove-stream.declared.parts.TroveParts.{TroveParts}
use Rattle.repo_index.proofs.cny-base.Lists.{contains_cases, contains_first, from_map, map_push, nothing_in}
use Rattle.dep_closure.specs.Closed.{IsClosed}
use Rattle.trove_spec.specs.declared.config.Config.{Config}
use Rattle.trove_spec.specs.AndThen.{EndsAs}
use Rattle.trove_spec.specs.Expansion.{IsExpansion, IsReached, IsUnexpanded, Refers}
use Rattle.trove_spec.proofs.InOrder.{one_expansion_of}
use Rattle.sys_model.specs.Advancing.{HasAdded, IsStopped}
use Rattle.sys_model.specs.Rounds.{Adds, AreAdded, Completes, HasReasons, IsHelpless, IsRound, with_added}

-- ---- what some roots reach

module _ {A : Type 0} (Leads : A → A → Type 0) (xs ys : List A) where
  -- it is reached from the first ones, or from one of the others
  pub reached_cases : (n : ℕ) (x : A) → IsReachedIn Leads (Contains (xs ++ ys)) n x → IsReachedIn Leads (Contains xs) n x ⊎ ((y : A) × Contains ys y × IsReachedIn Leads (Contains (y ∷ [])) n x)
  reached_cases zero x is = ⊎_elim inl (λ among. inr (x, among, contains_first x [])) (Contains-append_cases xs ys x is)
  reached_cases (suc n) x is = ⊎_elim
      (λ sooner. ⊎_elim (λ first. inl (inl first)) (λ later. inr (later.0, later.1, inl later.2)) (reached_cases n x sooner))
      (λ step. ⊎_elim (λ first. inl (inr (step.0, first, step.2))) (λ later. inr (later.0, later.1, inr (step.0, later.2, step.2))) (reached_cases n step.0 step.1))
      is

module _ (troves installed : List TroveParts) (config : Config) where
  -- ---- one round more

  pub none_added : (roots : List TroveId) → roots ≡ with_added roots []
  none_added roots = sym (append-nil roots)

  moved : (roots : List TroveId) (t : TroveParts) (added : List TroveParts) → with_added roots (t ∷ added) ≡ with_added (roots ++ t.id ∷ []) added
  moved roots t added = sym (append_assoc roots (t.id ∷ []) (map (λ (u : TroveParts). u.id) added))

  pub added_more : (roots : List TroveId) (added : List TroveParts) (t : TroveParts) → AreAdded troves installed config roots added → Adds troves installed config (with_added roots added) t
      → AreAdded troves installed config roots (added ++ t ∷ [])
  added_more roots [] t are adds = (subst (λ (l : List TroveId). Adds troves installed config l t) (append-nil roots) adds, tt)
  added_more roots (u ∷ added) t are adds = (
    are.0,
    added_more (roots ++ u.id ∷ []) added t are.1 (subst (λ (l : List TroveId). Adds troves installed config l t) (moved roots u added) adds),
  )

  pub roots_more : (roots : List TroveId) (added : List TroveParts) (t : TroveParts) → with_added roots added ++ t.id ∷ [] ≡ with_added roots (added ++ t ∷ [])
  roots_more roots added t =
      append_assoc roots (map (λ (u : TroveParts). u.id) added) (t.id ∷ []) ∙ ap (λ (l : List TroveId). roots ++ l) (sym (map_push (λ (u : TroveParts). u.id) added t))

  -- ---- the rounds so far

  -- these were added, and so the roots are these
  pub record AreRounds (roots now : List TroveId) : Type 0 where
    pub added : List TroveParts
    pub are : AreAdded troves installed config roots added
    pub now_is : now ≡ with_added roots added

  pub rounds_first : (roots : List TroveId) → AreRounds roots roots
  rounds_first roots = record { added = []; are = tt; now_is = none_added roots }

  pub rounds_more : (roots old new : List TroveId) → AreRounds roots old → HasAdded troves installed config old new → AreRounds roots new
  rounds_more roots old new so_far one = record {
    added = so_far.added ++ one.helper ∷ [];
    are = added_more roots so_far.added one.helper so_far.are (subst (λ (l : List TroveId). Adds troves installed config l one.helper) so_far.now_is one.adds);
    now_is = one.new_is ∙ ap (λ (l : List TroveId). l ++ one.helper.id ∷ []) so_far.now_is ∙ roots_more roots so_far.added one.helper;
  }

  -- ---- the last round

  pub first_refused : (roots : List TroveId) (f : Fault) → IsUnexpanded troves roots f → EndsAs (Completes troves installed config roots) (Err f)
  first_refused roots (fault.Refused refused) is = record {
    added = [];
    are = tt;
    ends = inl (subst (λ (l : List TroveId). IsUnexpanded troves l (fault.Refused refused)) (none_added roots) is);
  }
  first_refused roots fault.Memory is = tt

  pub last_refused : (roots now : List TroveId) (f : Fault) → AreRounds roots now → IsStopped troves installed config now f → EndsAs (Completes troves installed config roots) (Err f)
  last_refused roots now (fault.Refused refused) so_far is = ⊎_elim
      (λ helpless. record {
        added = so_far.added;
        are = so_far.are;
        ends = inr (subst (λ (l : List TroveId). IsHelpless troves installed config l refused) so_far.now_is helpless);
      })
      (λ two. (
      let more = rounds_more roots now (now ++ two.0.id ∷ []) so_far (record { helper = two.0; adds = two.1; new_is = refl }) in
      record {
        added = more.added;
        are = more.are;
        ends = inl (subst (λ (l : List TroveId). IsUnexpanded troves l (fault.Refused refused)) more.now_is two.2);
      }))
      is
  last_refused roots now fault.Memory so_far is = tt

  -- the expansion of the roots of a round that is closed
  pub last_found : (roots now : List TroveId) (found other list : List TroveParts) → AreRounds roots now → IsRound troves installed now other list → IsClosed list → IsExpansion troves now found
      → Completes troves installed config roots (Ok found)
  last_found roots now found other list so_far round closed expansion =
      let same : other ≡ found = one_expansion_of troves now other found round.expansion expansion in
      record {
        added = so_far.added;
        are = so_far.are;
        ends = (list, subst (λ (l : List TroveId). IsRound troves installed l found list) so_far.now_is (subst (λ (f : List TroveParts). IsRound troves installed now f list) same round), closed);
      }

  -- the same, where the expansion is refused
  pub last_unexpanded : (roots now : List TroveId) (f : Fault) → AreRounds roots now → IsUnexpanded troves now f → EndsAs (Completes troves installed config roots) (Err f)
  last_unexpanded roots now (fault.Refused refused) so_far is = record {
    added = so_far.added;
    are = so_far.are;
    ends = inl (subst (λ (l : List TroveId). IsUnexpanded troves l (fault.Refused refused)) so_far.now_is is);
  }
  last_unexpanded roots now fault.Memory so_far is = tt

  -- ---- reasons

  adds_at : (roots : List TroveId) (added : List TroveParts) (t : TroveParts) → AreAdded troves installed config roots added → Contains added t → (before : List TroveId) × Adds troves installed config before t
  adds_at roots [] t are among = absurd (nothing_in t among)
  adds_at roots (u ∷ added) t are among = ⊎_elim
      (λ same. (roots, subst (λ (v : TroveParts). Adds troves installed config roots v) same are.0))
      (λ later. adds_at (roots ++ u.id ∷ []) added t are.1 later)
      (contains_cases u t added among)

  pub has_reasons : (roots : List TroveId) (found : List TroveParts) → Completes troves installed config roots (Ok found) → HasReasons troves installed config roots found
  has_reasons roots found is t among =
      let round = is.ends.1 in
      ⊎_elim
      (λ first. inl first)
      (λ later. (
      let helper = from_map (λ (u : TroveParts). u.id) is.added later.0 later.1 in
      let adds = adds_at roots is.added helper.0 is.are helper.1 in
      inr (record { roots = adds.0; helper = helper.0; adds = adds.1; reached = subst (λ (id : TroveId). IsReached troves (id ∷ []) t.id) (sym helper.2) later.2 })))
      (reached_cases (Refers troves) roots (map (λ (u : TroveParts). u.id) is.added) (length troves) t.id (round.expansion.reached t among))
