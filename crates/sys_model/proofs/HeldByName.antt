-- The troves of a round by their names.
use Rattle.std.proofs.Common.{◌≡◌, ℕ, List, Contains, Option, Some, None, slice_get, refl, ap, ◌∙◌, subst}
use Rattle.cny_dep.specs.Dep.{Dependency}
use Rattle.repo_index.specs.trove-stream.declared.parts.TroveParts.{TroveParts}
use Rattle.repo_index.specs.trove-stream.Installed.{trove_of}
use Rattle.repo_index.proofs.cny-base.Lists.{place_in}
use Rattle.repo_index.proofs.trove-stream.Names.{is_named, is_there}
use Rattle.dep_closure.specs.Slots.{IsMetBy, IsNoProvider}
use Rattle.sys_model.specs.declared.providers.Providers.{Providers}
use Rattle.sys_model.specs.declared.view.View.{View}
use Rattle.sys_model.specs.Fit.{Fresh, place_of}
use Rattle.sys_model.specs.Held.{held, held_by, held_in, AreNamed, IsView}
use Rattle.sys_model.specs.Providers.{places_in, AreNoted}

-- what is held under a name has it
pub named_held : (troves : List TroveParts) (fresh : Fresh) (kept : List TroveParts) → AreNamed troves fresh → (name : List ℕ) (t : TroveParts) → held troves fresh kept name ≡ Some t → t.id.name ≡ name
named_held troves fresh kept named name t is = at (place_of fresh name) refl is
  where
    at : (o : Option ℕ) → place_of fresh name ≡ o → held_by troves o (trove_of name kept) ≡ Some t → t.id.name ≡ name
    at None e there = is_named kept name t there
    at (Some place) e there = named name place t e there

-- no trove at one of these places provides it
abbrev pub AreNoProviders : (List ℕ → Option TroveParts) → List TroveParts → List ℕ → Dependency → Type 0
AreNoProviders troves list places require = (place : ℕ) (t : TroveParts) → Contains places place → slice_get list place ≡ Some t → IsNoProvider troves require t.id.name

-- A requirement isn't met where none of those beside its name provides it.
pub unmet_by_all : (view : View) → IsView view → (require : Dependency) → AreNoProviders (held_in view) view.catalogue.now.troves (places_in view.comers.now.names require.name) require
    → AreNoProviders (held_in view) view.installed.now (places_in view.stayers.now.names require.name) require → IsMetBy (held_in view) require → ⊥
unmet_by_all view is require comers stayers m = at (place_of view.fresh.now m.name) refl m.there
  where
    own : m.trove.id.name ≡ m.name
    own = named_held view.catalogue.now.troves view.fresh.now view.kept.now is.named m.name m.trove m.there

    goes : IsNoProvider (held_in view) require m.trove.id.name → ⊥
    goes none = none m.trove (ap (held_in view) own ∙ m.there) m.by

    beside : (list : List TroveParts) (providers : Providers) (place : ℕ) → AreNoted list providers → slice_get list place ≡ Some m.trove → Contains (places_in providers.names require.name) place
    beside list providers place noted there =
        subst (λ (name : List ℕ). Contains (places_in providers.names name) place) m.by.satisfies.name (noted place m.trove there m.by.provide m.by.provided)

    at : (o : Option ℕ) → place_of view.fresh.now m.name ≡ o → held_by view.catalogue.now.troves o (trove_of m.name view.kept.now) ≡ Some m.trove → ⊥
    at (Some place) e there = goes (comers place m.trove (beside view.catalogue.now.troves view.comers.now place is.comers there) there)
    at None e there =
        let among = place_in view.installed.now m.trove (is.among m.trove (is_there view.kept.now m.name m.trove there)) in
        goes (stayers among.0 m.trove (beside view.installed.now view.stayers.now among.0 is.stayers among.2) among.2)
