-- What specifications mean is one trove, or one refusal; `shadow` and `branch` have one outcome.
use Rattle.std.proofs.Common.{◌≡◌, ℕ, Bool, true, false, List, [], ◌∷◌, Option, Some, None, Ok, Err, refl, sym, ap, ◌∙◌}
use Rattle.std.specs.Option.{option_map}
use Rattle.conary_cli.specs.cli-call.cny-base.declared.refusal.Refusal.{Refusal}
use Rattle.conary_cli.specs.cli-call.cny-base.declared.refusal.Refusal.TheVariants as refusal
use Rattle.conary_cli.specs.cli-call.trove-parts.Id.{id_text_of}
use Rattle.conary_cli.specs.cli-call.trove-parts.declared.id.TroveId.{TroveId}
use Rattle.conary_cli.specs.cli-call.trove-stream.declared.parts.TroveParts.{TroveParts}
use Rattle.cny_dep.specs.declared.parts.Parts.{Parts}
use Rattle.cny_version.specs.Label.{LabelParts}
use Rattle.trove_spec.specs.declared.config.Config.{Config}
use Rattle.trove_spec.specs.declared.spec.Place.{Place}
use Rattle.trove_spec.specs.declared.spec.Place.TheVariants.{Any, OnLabel, At}
use Rattle.trove_spec.specs.Expansion.{IsExpansion, IsOfOneName, first_of_same_name}
use Rattle.trove_spec.specs.Resolve.{at_place, lacks_label, lacks_label_at, resolution, system_flavor, IsRefusalOf}
use Rattle.trove_spec.specs.RootConfig.{HasConfig}
use Rattle.trove_spec.proofs.OneConfig.{OneLabel}
use Rattle.repo_load.specs.State.{troves_of}
use Rattle.repo_shadow.specs.declared.way.Way.{Way}
use Rattle.repo_shadow.specs.Moved.{IsMovedExpansion, IsMoveRefusal}
use Rattle.repo_shadow.proofs.OneMove.{OneExpansion}
use Rattle.conary_cli.specs.cli-call.cny-laws.State.{tree_of}
use Rattle.trove_spec.specs.declared.given.GivenSpec.{GivenSpec}
use Rattle.trove_spec.specs.AndThen.{AndThen}
use Rattle.conary_cli.specs.repo-commands.Commit.{Commits}
use Rattle.trove_spec.specs.Meant.{Means, Reaches, Expands, ExpandsFrom}
use Rattle.conary_cli.specs.repo-commands.Moving.{IsMoved, move, set_of_troves}
use Rattle.conary_cli.specs.root-commands.UpdateSpecs.{ReachAll}
use Rattle.outcome_laws.specs.OneOutcome.{AtMostOne, HasOneOutcome}
use Rattle.outcome_laws.proofs.Tests.{with_shared, and_then_once}
use Rattle.outcome_laws.proofs.Commits.{CommitLaws, commits_once}
use Rattle.outcome_laws.proofs.Configurations.{configured_once}

-- ---- one specification

-- where there is no label to search, nothing is meant
nothing_meant : (place : Place) (name : List ℕ) (system : Parts) (labels : List LabelParts) (troves : List TroveParts) → lacks_label_at place labels ≡ true → at_place place name system labels troves ≡ None
nothing_meant Any name system [] troves lacks = refl
nothing_meant Any name system (label ∷ labels) troves lacks = absurd (cc lacks)
nothing_meant (OnLabel label) name system labels troves lacks = absurd (cc lacks)
nothing_meant (At version) name system labels troves lacks = absurd (cc lacks)

refusal_once : (lacks : Bool) (found : Option TroveParts) (text : List ℕ) → AtMostOne (IsRefusalOf lacks found text)
refusal_once true found text a b h g = h ∙ sym g
refusal_once false found text a b h g = h.0 ∙ sym g.0

-- a refusal comes only where nothing is meant
refused_none : (lacks : Bool) (found : Option TroveParts) (text : List ℕ) (r : Refusal) → (lacks ≡ true → found ≡ None) → IsRefusalOf lacks found text r → found ≡ None
refused_none true found text r none h = none refl
refused_none false found text r none h = h.1

some_meant : (found : Option TroveParts) (id : TroveId) → option_map (λ (t : TroveParts). t.id) found ≡ Some id → found ≡ None → ⊥
some_meant None id some none = absurd (cc some)
some_meant (Some t) id some none = absurd (cc none)

module _ (troves : List TroveParts) (config : Config) where
  none_meant : (given : GivenSpec) (r : Refusal) → Means troves config given (Err r) → resolution troves given.spec config ≡ None
  none_meant given r h = refused_none (lacks_label given.spec config) (resolution troves given.spec config) given.text r
      (nothing_meant given.spec.place given.spec.name (system_flavor given.spec config) config.labels troves) h

  pub means_once : (given : GivenSpec) → AtMostOne (Means troves config given)
  means_once given (Ok a) (Ok b) h g = let same : a ≡ b = cc (sym h ∙ g) in λ i. Ok (same i)
  means_once given (Ok a) (Err q) h g = absurd (some_meant (resolution troves given.spec config) a h (none_meant given q g))
  means_once given (Err p) (Ok b) h g = absurd (some_meant (resolution troves given.spec config) b g (none_meant given p h))
  means_once given (Err p) (Err q) h g = let same = refusal_once (lacks_label given.spec config) (resolution troves given.spec config) given.text p q h g in λ i. Err (same i)

-- ---- what is reached

module _ (one : OneExpansion) (troves : List TroveParts) (roots : List TroveId) where
  pub two_of_name : (found : List TroveParts) (r : Refusal) → IsExpansion troves roots found → first_of_same_name found ≡ None → IsOfOneName troves roots r → ⊥
  two_of_name found r is none h =
      let same : found ≡ h.found = one troves roots found h.found is h.expansion in
      absurd (cc (sym none ∙ ap first_of_same_name same ∙ h.first))

  pub one_name : AtMostOne (IsOfOneName troves roots)
  one_name p q h g =
      let same : h.found ≡ g.found = one troves roots h.found g.found h.expansion g.expansion in
      let id : h.id ≡ g.id = cc (sym h.first ∙ ap first_of_same_name same ∙ g.first) in
      h.refusal_is ∙ ap (λ (x : TroveId). refusal.Exists (id_text_of x)) id ∙ sym g.refusal_is

  pub reach_once : AtMostOne (ReachAll troves roots)
  reach_once (Ok a) (Ok b) h g = let same = one troves roots a b h.0 g.0 in λ i. Ok (same i)
  reach_once (Ok a) (Err q) h g = absurd (two_of_name a q h.0 h.1 g)
  reach_once (Err p) (Ok b) h g = absurd (two_of_name b p g.0 g.1 h)
  reach_once (Err p) (Err q) h g = let same = one_name p q h g in λ i. Err (same i)

module _ (one : OneExpansion) (troves : List TroveParts) where
  reaches_once : (root : TroveId) → AtMostOne (Reaches troves root)
  reaches_once root (Ok a) (Ok b) h g = reach_once one troves (root ∷ []) (Ok a) (Ok b) h g
  reaches_once root (Ok a) (Err q) h g = reach_once one troves (root ∷ []) (Ok a) (Err q) h g
  reaches_once root (Err p) (Ok b) h g = reach_once one troves (root ∷ []) (Err p) (Ok b) h g
  reaches_once root (Err p) (Err q) h g = reach_once one troves (root ∷ []) (Err p) (Err q) h g

  pub expands_once : (config : Config) (given : GivenSpec) → AtMostOne (Expands troves config given)
  expands_once config given = and_then_once (Means troves config given) (Reaches troves) (means_once troves config given) reaches_once

  pub expands_from_once : (config : Config) (given : Option GivenSpec) → AtMostOne (ExpandsFrom troves config given)
  expands_from_once config None = λ a b h g. h ∙ sym g
  expands_from_once config (Some given) = expands_once config given

-- ---- `shadow` and `branch`

-- What a root reaches is moved in one way at most, or refused for one reason, and never both.
pub record MoveLaws : Type 0 where
  pub made : (way : Way) (label : LabelParts) (troves : List TroveParts) (root : TroveId) (one other : List TroveParts) → IsMovedExpansion way label troves root one → IsMovedExpansion way label troves root other → one ≡ other
  pub unrefused : (way : Way) (label : LabelParts) (troves : List TroveParts) (root : TroveId) (made : List TroveParts) (refused : Refusal) → IsMovedExpansion way label troves root made → IsMoveRefusal way label troves root refused → ⊥
  pub refusal : (way : Way) (label : LabelParts) (troves : List TroveParts) (root : TroveId) (one other : Refusal) → IsMoveRefusal way label troves root one → IsMoveRefusal way label troves root other → one ≡ other

moved_once : MoveLaws → (way : Way) (label : LabelParts) (troves : List TroveParts) (root : TroveId) → AtMostOne (IsMoved way label troves root)
moved_once laws way label troves root (Ok a) (Ok b) h g = let same = laws.made way label troves root a b h g in λ i. Ok (same i)
moved_once laws way label troves root (Ok a) (Err q) h g = absurd (laws.unrefused way label troves root a q h g)
moved_once laws way label troves root (Err p) (Ok b) h g = absurd (laws.unrefused way label troves root b p g h)
moved_once laws way label troves root (Err p) (Err q) h g = let same = laws.refusal way label troves root p q h g in λ i. Err (same i)

pub move_once : OneLabel → MoveLaws → CommitLaws → (way : Way) (label : LabelParts) (given : GivenSpec) → HasOneOutcome (move way label given)
move_once one_label laws commit_laws way label given = with_shared (move way label given) (λ s input state.
    and_then_once (HasConfig (tree_of s.root))
    (λ (config : Config). AndThen (Means (troves_of s.repository.commits) config given) (λ (root : TroveId). AndThen (IsMoved way label (troves_of s.repository.commits) root) (λ (made : List TroveParts). Commits (set_of_troves made) s.repository)))
    (configured_once one_label (tree_of s.root))
    (λ config. and_then_once (Means (troves_of s.repository.commits) config given)
    (λ (root : TroveId). AndThen (IsMoved way label (troves_of s.repository.commits) root) (λ (made : List TroveParts). Commits (set_of_troves made) s.repository))
    (means_once (troves_of s.repository.commits) config given)
    (λ root. and_then_once (IsMoved way label (troves_of s.repository.commits) root) (λ (made : List TroveParts). Commits (set_of_troves made) s.repository)
    (moved_once laws way label (troves_of s.repository.commits) root)
    (λ made. commits_once commit_laws (set_of_troves made) s.repository))))
