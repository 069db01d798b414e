-- The names that are doubted, one after the other.
use Rattle.std.proofs.Common.{◌≡◌, ◌<◌, ◌⊎◌, ⊎_elim, inl, inr, Bool, true, false, ◌||◌, List, [], ◌∷◌, ℕ, length, Option, Some, refl, sym, ap, ◌∙◌, subst, true≢false, arith}
use Rattle.std.specs.Prelude.{IsTrue}
use Rattle.std.specs.BTreeMap.{is_at}
use Rattle.std.specs.BTreeSet.{BTreeSet}
use Rattle.std.specs.Cmp.Lexicographic.{slice_cmp, nat_list_cmp_total}
use Rattle.std.specs.List.{list_any}
use Rattle.std.specs.Ordering.{nat_cmp, ordering_reverse, is_gt}
use Rattle.repo_index.specs.trove-stream.declared.parts.TroveParts.{TroveParts}
use Rattle.update_job.proofs.Mapped.{same_means}
use Rattle.dep_closure.specs.Slots.{IsClosedBy, IsServed, IsServedBefore}
use Rattle.sys_model.specs.Growing.{is_doubted}
use Rattle.sys_model.specs.Held.{AreServedBut}

-- a name that was doubted is the first one, or is doubted still
first_or_later : (names : List (List ℕ)) (name other : List ℕ) → list_any (is_at (slice_cmp nat_cmp other)) (name ∷ names) ≡ true → (name ≡ other) ⊎ (list_any (is_at (slice_cmp nat_cmp other)) names ≡ true)
first_or_later names name other is = at (is_at (slice_cmp nat_cmp other) name) refl
  where
    at : (b : Bool) → is_at (slice_cmp nat_cmp other) name ≡ b → (name ≡ other) ⊎ (list_any (is_at (slice_cmp nat_cmp other)) names ≡ true)
    at true same = inl (sym (same_means other name same))
    at false not = inr (sym (ap (λ (b : Bool). b || list_any (is_at (slice_cmp nat_cmp other)) names) not) ∙ is)

module _ (troves : List ℕ → Option TroveParts) where
  -- the first one has its requirements met
  pub next_served : (old new : BTreeSet (List ℕ)) (name : List ℕ) → AreServedBut troves old → old.keys ≡ name ∷ new.keys → IsServed troves name → AreServedBut troves new
  next_served old new name was removal served other = ⊎_elim
      inl
      (λ doubts. ⊎_elim
      (λ same. inl (subst (IsServed troves) same served))
      inr
      (first_or_later new.keys name other (ap (list_any (is_at (slice_cmp nat_cmp other))) (sym removal) ∙ doubts)))
      (was other)

  empty_keys : (names : List (List ℕ)) → (0 < length names → false ≡ true) → names ≡ []
  empty_keys [] never = refl
  empty_keys (name ∷ names) never = absurd (true≢false (sym (never (omega arith))))

  -- none is doubted
  pub none_left : (old : BTreeSet (List ℕ)) → AreServedBut troves old → (0 < length old.keys → false ≡ true) → IsClosedBy troves
  none_left old was never name = ⊎_elim
      (λ served. served)
      (λ doubts. absurd (true≢false (sym doubts ∙ ap (list_any (is_at (slice_cmp nat_cmp name))) (empty_keys old.keys never))))
      (was name)

  -- no name before the least one is doubted
  pub before_least : (old : BTreeSet (List ℕ)) (name : List ℕ) → AreServedBut troves old → ((other : List ℕ) → IsTrue (is_doubted old other) → is_gt (slice_cmp nat_cmp name other) ≡ false) → (other : List ℕ)
      → IsServedBefore troves (Some name) other
  before_least old name was least other less = ⊎_elim
      (λ served. served)
      (λ doubts. absurd (true≢false (sym (ap is_gt (nat_list_cmp_total.antisymm name other ∙ ap ordering_reverse less)) ∙ least other doubts)))
      (was other)
