-- What one more round does.
use Rattle.std.specs.Prelude.{◌≡◌, ◌⊎◌, List, [], ◌∷◌, ◌++◌}
use Rattle.repo_index.specs.cny-base.declared.refusal.Fault.{Fault}
use Rattle.repo_index.specs.cny-base.declared.refusal.Fault.TheVariants.{Refused, Memory}
use Rattle.repo_index.specs.trove-parts.declared.id.TroveId.{TroveId}
use Rattle.repo_index.specs.trove-stream.declared.parts.TroveParts.{TroveParts}
use Rattle.trove_spec.specs.declared.config.Config.{Config}
use Rattle.trove_spec.specs.Expansion.{IsOfOneName}
use Rattle.sys_model.specs.Rounds.{Adds, IsHelpless}

-- a trove was added to the roots
pub record HasAdded (troves installed : List TroveParts) (config : Config) (old new : List TroveId) : Type 0 where
  pub helper : TroveParts
  pub adds : Adds troves installed config old helper
  pub new_is : new ≡ old ++ helper.id ∷ []

-- The round is the last one: none can be added, or with the one that is added the roots reach two troves of one name. Or memory is wanting.
abbrev pub IsStopped : List TroveParts → List TroveParts → Config → List TroveId → Fault → Type 0
IsStopped troves installed config roots (Refused refused) =
    IsHelpless troves installed config roots refused ⊎ ((helper : TroveParts) × Adds troves installed config roots helper × IsOfOneName troves (roots ++ helper.id ∷ []) refused)
IsStopped troves installed config roots Memory = Unit {0}
