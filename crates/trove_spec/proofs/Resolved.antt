-- What a specification means is one of the troves.
use Rattle.std.proofs.Common.{◌≡◌, ℕ, ◌⊎◌, ⊎_elim, inl, inr, Bool, true, List, [], ◌∷◌, filter, Contains, Option, Some, None}
use Rattle.std.proofs.lemmas.List.Elements.{All-contains, All-filter, All-contains_itself, filter_passes}
use Rattle.std.proofs.lemmas.Option.{none-some}
use Rattle.cny_dep.specs.declared.parts.Parts.{Parts}
use Rattle.cny_version.specs.Label.{LabelParts}
use Rattle.cny_version.specs.Version.{WholeVersion}
use Rattle.repo_index.specs.trove-stream.declared.parts.TroveParts.{TroveParts}
use Rattle.repo_index.specs.Catalogue.{named}
use Rattle.trove_spec.specs.declared.config.Config.{Config}
use Rattle.trove_spec.specs.declared.spec.Place.{Place}
use Rattle.trove_spec.specs.declared.spec.Place.TheVariants.{Any, OnLabel, At}
use Rattle.trove_spec.specs.declared.spec.Spec.{Spec}
use Rattle.trove_spec.specs.Resolve.{is_candidate, candidates_of, chosen, or_else, first_chosen, at_place, system_flavor, resolution}
use Rattle.trove_spec.proofs.Newest.{chosen_among}
use Rattle.repo_index.specs.trove-stream.Installed.{has_name}
use Rattle.cny_version.proofs.cny-base.ByteLists.{bytes_mean as equal_texts}

-- one of the troves, with this name
pub record IsNamed (troves : List TroveParts) (wanted : List ℕ) (t : TroveParts) : Type 0 where
  pub among : Contains troves t
  pub name : t.id.name ≡ wanted

of_filter : (p : TroveParts → Bool) (troves : List TroveParts) (t : TroveParts) → Contains (filter p troves) t → Contains troves t
of_filter p troves t = All-contains (Contains troves) (filter p troves) t (All-filter p (Contains troves) troves (All-contains_itself troves))

chosen_named : (name : List ℕ) (label : Option LabelParts) (version : Option WholeVersion) (system : Parts) (troves : List TroveParts) (t : TroveParts) → chosen name label version system troves ≡ Some t → IsNamed troves name t
chosen_named name label version system troves t is =
    let candidate = chosen_among system (candidates_of label version system (named name troves)) t is in
    let own = of_filter (is_candidate label version system) (named name troves) t candidate in record {
      among = of_filter (has_name name) troves t own;
      name = equal_texts t.id.name name (All-contains (λ u. has_name name u ≡ true) (named name troves) t (filter_passes (has_name name) troves) own);
    }

or_else_some : (o p : Option TroveParts) (t : TroveParts) → or_else o p ≡ Some t → (o ≡ Some t) ⊎ (p ≡ Some t)
or_else_some None p t is = inr is
or_else_some (Some x) p t is = inl is

first_named : (name : List ℕ) (system : Parts) (troves : List TroveParts) (labels : List LabelParts) (t : TroveParts) → first_chosen name system troves labels ≡ Some t → IsNamed troves name t
first_named name system troves [] t is = absurd (none-some t is)
first_named name system troves (label ∷ labels) t is = ⊎_elim
    (λ here. chosen_named name (Some label) None system troves t here)
    (λ later. first_named name system troves labels t later)
    (or_else_some (chosen name (Some label) None system troves) (first_chosen name system troves labels) t is)

at_place_named : (place : Place) (name : List ℕ) (system : Parts) (labels : List LabelParts) (troves : List TroveParts) (t : TroveParts) → at_place place name system labels troves ≡ Some t → IsNamed troves name t
at_place_named Any name system labels troves t is = first_named name system troves labels t is
at_place_named (OnLabel label) name system labels troves t is = chosen_named name (Some label) None system troves t is
at_place_named (At version) name system labels troves t is = chosen_named name None (Some version) system troves t is

pub meant_among : (troves : List TroveParts) (spec : Spec) (config : Config) (t : TroveParts) → resolution troves spec config ≡ Some t → IsNamed troves spec.name t
meant_among troves spec config t is = at_place_named spec.place spec.name (system_flavor spec config) config.labels troves t is
