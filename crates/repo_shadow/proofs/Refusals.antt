-- Why troves aren't moved, one after the other.
use Rattle.std.proofs.Common.{◌≡◌, Bool, true, false, cond, List, [], ◌∷◌, find, Option, Some, None, inl, inr, refl, sym, ap, ◌∙◌}
use Rattle.std.specs.Option.{option_map}
use Rattle.std.proofs.lemmas.Option.{none-some}
use Rattle.repo_index.specs.cny-base.declared.refusal.Fault.{Fault}
use Rattle.repo_index.specs.cny-base.declared.refusal.Fault.TheVariants.{Refused, Memory}
use Rattle.repo_index.specs.cny-base.declared.refusal.Refusal.{Refusal}
use Rattle.cny_version.specs.Label.{LabelParts}
use Rattle.repo_index.specs.trove-parts.declared.id.TroveId.{TroveId}
use Rattle.repo_index.specs.trove-stream.declared.parts.TroveParts.{TroveParts}
use Rattle.trove_spec.specs.Expansion.{IsExpansion, IsUnexpanded, first_of_same_name}
use Rattle.trove_spec.specs.Resolve.{or_else}
use Rattle.repo_shadow.specs.declared.way.Way.{Way}
use Rattle.repo_shadow.specs.Moved.{moved_version, moved_id, moved_ids, same_label, is_too_long, too_large_refusal, too_large, exists_refusal, is_taken, taken, first_refusal, IsUnmoved}
use Rattle.repo_shadow.specs.Steps.{IsTooLongOrMemory, Fits}
use Rattle.cny_version.specs.cny-base.Refusals.{IsRefusalOrMemory}

first_none : {A : Type 0} (o p : Option A) → or_else o p ≡ None → o ≡ None
first_none None p none = refl
first_none (Some x) p some = some

rest_none : {A : Type 0} (o p : Option A) → or_else o p ≡ None → p ≡ None
rest_none None p none = none
rest_none (Some x) p some = absurd (none-some x (sym some))

-- ---- the first of a list

first_fails : {A : Type 0} (p : A → Bool) (refusal : A → Refusal) (x : A) (xs : List A) → p x ≡ false → option_map refusal (find p (x ∷ xs)) ≡ option_map refusal (find p xs)
first_fails {A} p refusal x xs fails = ap (λ (b : Bool). option_map refusal (cond b (Some x) (find p xs))) fails

first_passes : {A : Type 0} (p : A → Bool) (refusal : A → Refusal) (x : A) (xs : List A) → p x ≡ true → option_map refusal (find p (x ∷ xs)) ≡ Some (refusal x)
first_passes {A} p refusal x xs passes = ap (λ (b : Bool). option_map refusal (cond b (Some x) (find p xs))) passes

-- the moved version of the first trove fits
pub next_fits : (way : Way) (label : LabelParts) (t : TroveParts) (troves : List TroveParts) → Fits way label t.id
    → too_large (moved_ids way label (t ∷ troves)) ≡ too_large (moved_ids way label troves)
next_fits way label t troves fits = first_fails is_too_long too_large_refusal (moved_id way label t.id) (moved_ids way label troves) fits

-- the moved version of the first trove is too long, or memory ran out
pub next_fault : (way : Way) (label : LabelParts) (t : TroveParts) (troves : List TroveParts) (fault : Fault) → IsTooLongOrMemory (moved_version way label t.id.version) fault
    → IsRefusalOrMemory (too_large (moved_ids way label (t ∷ troves))) fault
next_fault way label t troves (Refused refused) long =
    first_passes is_too_long too_large_refusal (moved_id way label t.id) (moved_ids way label troves) long.1 ∙ ap (λ (r : Refusal). Some r) (sym long.0)
next_fault way label t troves Memory long = tt

-- the first id isn't taken
pub next_free : (troves : List TroveParts) (id : TroveId) (ids : List TroveId) → is_taken troves id ≡ false → taken troves (id ∷ ids) ≡ taken troves ids
next_free troves id ids free = first_fails (is_taken troves) exists_refusal id ids free

-- the first id is taken
pub next_taken : (troves : List TroveParts) (id : TroveId) (ids : List TroveId) → is_taken troves id ≡ true → taken troves (id ∷ ids) ≡ Some (exists_refusal id)
next_taken troves id ids passes = first_passes (is_taken troves) exists_refusal id ids passes

-- ---- one test after the other

module _ (way : Way) (label : LabelParts) (troves : List TroveParts) (moving : List TroveParts) where
  -- the first test doesn't refuse
  past_label : same_label label moving ≡ None → first_refusal way label troves moving ≡ or_else (too_large (moved_ids way label moving)) (taken troves (moved_ids way label moving))
  past_label same = ap (λ (o : Option Refusal). or_else o (or_else (too_large (moved_ids way label moving)) (taken troves (moved_ids way label moving)))) same

  -- nor does the second
  past_size : same_label label moving ≡ None → too_large (moved_ids way label moving) ≡ None → first_refusal way label troves moving ≡ taken troves (moved_ids way label moving)
  past_size same long = past_label same ∙ ap (λ (o : Option Refusal). or_else o (taken troves (moved_ids way label moving))) long

  pub by_none : same_label label moving ≡ None → too_large (moved_ids way label moving) ≡ None → taken troves (moved_ids way label moving) ≡ None → first_refusal way label troves moving ≡ None
  by_none same long free = past_size same long ∙ free

  pub by_label : (fault : Fault) → IsRefusalOrMemory (same_label label moving) fault → IsRefusalOrMemory (first_refusal way label troves moving) fault
  by_label (Refused refused) is = ap (λ (o : Option Refusal). or_else o (or_else (too_large (moved_ids way label moving)) (taken troves (moved_ids way label moving)))) is
  by_label Memory is = tt

  pub by_size : (fault : Fault) → same_label label moving ≡ None → IsRefusalOrMemory (too_large (moved_ids way label moving)) fault → IsRefusalOrMemory (first_refusal way label troves moving) fault
  by_size (Refused refused) same is = past_label same ∙ ap (λ (o : Option Refusal). or_else o (taken troves (moved_ids way label moving))) is
  by_size Memory same is = tt

  pub by_id : (fault : Fault) → same_label label moving ≡ None → too_large (moved_ids way label moving) ≡ None → IsRefusalOrMemory (taken troves (moved_ids way label moving)) fault
      → IsRefusalOrMemory (first_refusal way label troves moving) fault
  by_id (Refused refused) same long is = past_size same long ∙ is
  by_id Memory same long is = tt

  -- ---- nothing refuses

  pub none_long : first_refusal way label troves moving ≡ None → too_large (moved_ids way label moving) ≡ None
  none_long none = first_none (too_large (moved_ids way label moving)) (taken troves (moved_ids way label moving)) (rest_none (same_label label moving) (or_else (too_large (moved_ids way label moving)) (taken troves (moved_ids way label moving))) none)

  pub none_taken : first_refusal way label troves moving ≡ None → taken troves (moved_ids way label moving) ≡ None
  none_taken none = rest_none (too_large (moved_ids way label moving)) (taken troves (moved_ids way label moving)) (rest_none (same_label label moving) (or_else (too_large (moved_ids way label moving)) (taken troves (moved_ids way label moving))) none)

  -- ---- a refusal of what the root reaches

  pub refused_move : (root : TroveId) → IsExpansion troves (root ∷ []) moving → first_of_same_name moving ≡ None → (fault : Fault) → IsRefusalOrMemory (first_refusal way label troves moving) fault
      → IsUnmoved way label troves root fault
  refused_move root expansion once (Refused refused) is = inr (record { moving = moving; expansion = expansion; once = once; refusal_is = is })
  refused_move root expansion once Memory is = tt

pub ruleset tests_in_turn = (by_none, by_label, by_size, by_id)

pub unexpanded : (way : Way) (label : LabelParts) (troves : List TroveParts) (root : TroveId) (fault : Fault) → IsUnexpanded troves (root ∷ []) fault → IsUnmoved way label troves root fault
unexpanded way label troves root (Refused refused) is = inl is
unexpanded way label troves root Memory is = tt

pub memory_alone : (way : Way) (label : LabelParts) (troves : List TroveParts) (root : TroveId) (fault : Fault) → fault ≡ Memory → IsUnmoved way label troves root fault
memory_alone way label troves root (Refused refused) is = absurd (cc is)
memory_alone way label troves root Memory is = tt
