-- The first reference that is missing.
use Rattle.std.proofs.Common.{◌≡◌, ℕ, ◌+◌, ◌<◌, ◌≤◌, Bool, true, false, cond, ◌||◌, List, [], ◌∷◌, ◌++◌, length, drop, get_or, All, Some, None, is_some, refl, sym, ◌∙◌, ap}
use Rattle.std.specs.Prelude.{IsSome}
use Rattle.std.specs.Option.{option_or}
use Rattle.std.proofs.lemmas.List.Elements.{All-nil, All-cons}
use Rattle.repo_load.specs.cny-base.declared.refusal.Refusal.TheVariants.{MissingRef}
use Rattle.repo_load.specs.trove-parts.declared.id.TroveId.{TroveId}
use Rattle.repo_load.specs.trove-parts.Id.{id_text_of}
use Rattle.repo_load.specs.trove-stream.declared.parts.TroveParts.{TroveParts}
use Rattle.repo_index.specs.Catalogue.{found}
use Rattle.repo_load.specs.State.{HasRefs}
use Rattle.repository.specs.Tests.{missing_ref, refs_of}
use Rattle.repository.proofs.Lists.{some_append, then_none}
use Rattle.change_rel.proofs.trove-stream.Members.{drop_all as drop_none}
use Rattle.change_rel.proofs.trove-stream.Merging.{front_at}

pub missing_append : (all : List TroveParts) (a b : List TroveId) → missing_ref all (a ++ b) ≡ option_or (missing_ref all a) (missing_ref all b)
missing_append all [] b = refl
missing_append all (id ∷ a) b = by (is_some (found id all)) (missing_append all a b)
  where
    by : (p : Bool) → missing_ref all (a ++ b) ≡ option_or (missing_ref all a) (missing_ref all b)
        → cond p (missing_ref all (a ++ b)) (Some (MissingRef (id_text_of id))) ≡ option_or (cond p (missing_ref all a) (Some (MissingRef (id_text_of id)))) (missing_ref all b)
    by true rest = rest
    by false rest = refl

-- where none is missing each is found
pub none_missing : (all : List TroveParts) (ids : List TroveId) → missing_ref all ids ≡ None → All (λ (id : TroveId). IsSome (found id all)) ids
none_missing all [] none = All-nil (λ (id : TroveId). IsSome (found id all))
none_missing all (id ∷ ids) none = by (is_some (found id all)) refl none (none_missing all ids)
  where
    by : (p : Bool) → is_some (found id all) ≡ p → cond p (missing_ref all ids) (Some (MissingRef (id_text_of id))) ≡ None → (missing_ref all ids ≡ None → All (λ (id : TroveId). IsSome (found id all)) ids) → All (λ (id : TroveId). IsSome (found id all)) (id ∷ ids)
    by true is none rest = All-cons (λ (id : TroveId). IsSome (found id all)) id ids is (rest none)
    by false is none rest = absurd (cc none)

pub refs_found : (all troves : List TroveParts) → missing_ref all (refs_of troves) ≡ None → All (HasRefs all) troves
refs_found all [] none = All-nil (HasRefs all)
refs_found all (t ∷ troves) none =
    let parts = then_none (missing_ref all t.refs) (missing_ref all (refs_of troves)) (sym (missing_append all t.refs (refs_of troves)) ∙ none) in
    All-cons (HasRefs all) t troves (none_missing all t.refs parts.0) (refs_found all troves parts.1)

-- ---- one after another

pub ids_on : (all : List TroveParts) (ids : List TroveId) (i : ℕ) (id : TroveId) → i < length ids → id ≡ get_or ids i id → is_some (found id all) ≡ true → missing_ref all (drop (i + 1) ids) ≡ missing_ref all (drop i ids)
ids_on all ids i id lt is here =
    ap (λ (p : Bool). cond p (missing_ref all (drop (i + 1) ids)) (Some (MissingRef (id_text_of id)))) (sym here) ∙ ap (missing_ref all) (sym (front_at i ids id lt is))

pub ids_stop : (all : List TroveParts) (ids : List TroveId) (i : ℕ) (id : TroveId) → i < length ids → id ≡ get_or ids i id → is_some (found id all) ≡ false → missing_ref all (drop i ids) ≡ Some (MissingRef (id_text_of id))
ids_stop all ids i id lt is none =
    ap (missing_ref all) (front_at i ids id lt is) ∙ ap (λ (p : Bool). cond p (missing_ref all (drop (i + 1) ids)) (Some (MissingRef (id_text_of id)))) none

pub ids_end : (all : List TroveParts) (ids : List TroveId) (i : ℕ) → length ids ≤ i → missing_ref all (drop i ids) ≡ None
ids_end all ids i le = ap (missing_ref all) (drop_none i ids le)

pub refs_on : (all troves : List TroveParts) (i : ℕ) (t : TroveParts) → i < length troves → t ≡ get_or troves i t
    → missing_ref all (refs_of (drop i troves)) ≡ option_or (missing_ref all t.refs) (missing_ref all (refs_of (drop (i + 1) troves)))
refs_on all troves i t lt is = ap (λ (l : List TroveParts). missing_ref all (refs_of l)) (front_at i troves t lt is) ∙ missing_append all t.refs (refs_of (drop (i + 1) troves))

pub refs_end : (all troves : List TroveParts) (i : ℕ) → length troves ≤ i → missing_ref all (refs_of (drop i troves)) ≡ None
refs_end all troves i le = ap (λ (l : List TroveParts). missing_ref all (refs_of l)) (drop_none i troves le)

pub there_old : (id : TroveId) (a b : List TroveParts) (o n : Bool) → o ≡ is_some (found id a) → n ≡ is_some (found id b) → o ≡ true → o ≡ is_some (found id (a ++ b))
there_old id a b o n old new is = is ∙ ap (λ (p : Bool). p || is_some (found id b)) (sym is ∙ old) ∙ sym (some_append id a b)

pub there_new : (id : TroveId) (a b : List TroveParts) (o n : Bool) → o ≡ is_some (found id a) → n ≡ is_some (found id b) → o ≡ false → n ≡ is_some (found id (a ++ b))
there_new id a b o n old new is = new ∙ ap (λ (p : Bool). p || is_some (found id b)) (sym is ∙ old) ∙ sym (some_append id a b)
