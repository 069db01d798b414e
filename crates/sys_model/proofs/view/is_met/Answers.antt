use Rattle.std.proofs.Common.{◌≡◌, ℕ, List, Bool, true, false, refl, ap, subst, ◌∙◌}
use Rattle.repo_index.specs.trove-stream.declared.parts.TroveParts.{TroveParts}
use Rattle.sys_model.specs.Held.{held_in}
use Rattle.sys_model.specs.Providers.{places_in}
use Rattle.sys_model.proofs.HeldByName.{unmet_by_all, AreNoProviders}
use Rattle.sys_model.proofs.view.is_met.Goals as goal

pub returns : goal.returns
returns c =
    let view = c.args.view.now in
    let require = c.args.require.now in
    let fresh_are : c.places-comers.result.now ≡ places_in view.comers.now.names require.name = c.places-comers.ensures ∙ ap (places_in view.comers.now.names) c.name.ensures in
    let old_are : c.places-stayers.result.now ≡ places_in view.stayers.now.names require.name = c.places-stayers.ensures ∙ ap (places_in view.stayers.now.names) c.name-2.ensures in
    let comers : AreNoProviders (held_in view) view.catalogue.now.troves (places_in view.comers.now.names require.name) require =
    subst (λ (l : List TroveParts). AreNoProviders (held_in view) l (places_in view.comers.now.names require.name) require) c.troves.ensures.value
    (subst (λ (l : List ℕ). AreNoProviders (held_in view) c.troves.result.now l require) fresh_are (c.if-is_met_at_any.ensures.unmet refl)) in
    let stayers : c.is_met_at_any-2.result ≡ false → AreNoProviders (held_in view) view.installed.now (places_in view.stayers.now.names require.name) require =
    λ none.
    subst (λ (l : List TroveParts). AreNoProviders (held_in view) l (places_in view.stayers.now.names require.name) require) c.troves-2.ensures.value
    (subst (λ (l : List ℕ). AreNoProviders (held_in view) c.troves-2.result.now l require) old_are (c.is_met_at_any-2.ensures.unmet none)) in (
      λ h. c.is_met_at_any-2.ensures.met h,
      λ met. found (c.is_met_at_any-2.result) (λ none. unmet_by_all view c.requires require comers (stayers none) met),
    )
  where
    found : (b : Bool) → (b ≡ false → ⊥) → b ≡ true
    found true never = refl
    found false never = absurd (never refl)
