-- The troves that a specification means.
use Rattle.std.specs.Prelude.{◌≡◌, List, [], ◌∷◌, Option, Some, None, Result, Ok, Err}
use Rattle.std.specs.Option.{option_map}
use Rattle.repo_index.specs.cny-base.declared.refusal.Refusal.{Refusal}
use Rattle.repo_index.specs.trove-parts.declared.id.TroveId.{TroveId}
use Rattle.repo_index.specs.trove-stream.declared.parts.TroveParts.{TroveParts}
use Rattle.trove_spec.specs.declared.config.Config.{Config}
use Rattle.trove_spec.specs.Expansion.{IsExpansion, IsOfOneName, first_of_same_name}
use Rattle.trove_spec.specs.Resolve.{lacks_label, resolution, IsRefusalOf}
use Rattle.trove_spec.specs.declared.given.GivenSpec.{GivenSpec}
use Rattle.trove_spec.specs.AndThen.{AndThen}

-- the trove that the specification means, or that it means none: with no label, or with its text as it was given
abbrev pub Means : List TroveParts → Config → GivenSpec → Result TroveId Refusal → Type 0
Means troves config given (Ok id) = option_map (λ (t : TroveParts). t.id) (resolution troves given.spec config) ≡ Some id
Means troves config given (Err refused) = IsRefusalOf (lacks_label given.spec config) (resolution troves given.spec config) given.text refused

-- the troves that the root reaches, or the refusal of two of one name
abbrev pub Reaches : List TroveParts → TroveId → Result (List TroveParts) Refusal → Type 0
Reaches troves root (Ok found) = IsExpansion troves (root ∷ []) found × (first_of_same_name found ≡ None)
Reaches troves root (Err refused) = IsOfOneName troves (root ∷ []) refused

-- the trove that the specification means, with all that it reaches
abbrev pub Expands : List TroveParts → Config → GivenSpec → Result (List TroveParts) Refusal → Type 0
Expands troves config given = AndThen (Means troves config given) (Reaches troves)

-- the same of a specification that may be left out: then there are none
abbrev pub ExpandsFrom : List TroveParts → Config → Option GivenSpec → Result (List TroveParts) Refusal → Type 0
ExpandsFrom troves config None result = result ≡ Ok []
ExpandsFrom troves config (Some given) result = Expands troves config given result
