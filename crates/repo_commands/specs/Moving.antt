-- What `shadow` and `branch` mean.
use Rattle.std.specs.Prelude.{false, List, [], map, Result, Ok, Err}
use Rattle.cli_call.specs.cny-base.declared.refusal.Refusal.{Refusal}
use Rattle.cny_version.specs.Label.{LabelParts}
use Rattle.cli_call.specs.trove-parts.declared.id.TroveId.{TroveId}
use Rattle.cli_call.specs.trove-stream.declared.parts.TroveParts.{TroveParts}
use Rattle.trove_spec.specs.declared.config.Config.{Config}
use Rattle.cli_call.specs.change-set.declared.change.ChangeSet.{ChangeSet}
use Rattle.cli_call.specs.change-set.declared.change.Part.TheVariants.{Whole}
use Rattle.repo_load.specs.State.{troves_of}
use Rattle.repo_shadow.specs.declared.way.Way.{Way}
use Rattle.repo_shadow.specs.Moved.{IsMovedExpansion, IsMoveRefusal}
use Rattle.repo_commands.specs.Commit.{Commits}
use Rattle.trove_spec.specs.RootConfig.{HasConfig}
use Rattle.cli_call.specs.cny-laws.State.{tree_of, Effect, Meaning, State}
use Rattle.trove_spec.specs.declared.given.GivenSpec.{GivenSpec}
use Rattle.trove_spec.specs.AndThen.{AndThen}
use Rattle.trove_spec.specs.Meant.{Means}

-- what the root reaches, moved onto the label, or the refusal
abbrev pub IsMoved : Way → LabelParts → List TroveParts → TroveId → Result (List TroveParts) Refusal → Type 0
IsMoved way label troves root (Ok made) = IsMovedExpansion way label troves root made
IsMoved way label troves root (Err refused) = IsMoveRefusal way label troves root refused

-- the change set that makes these troves, and carries no content: each is committed already
abbrev pub set_of_troves : List TroveParts → ChangeSet
set_of_troves troves = record { parts = map Whole troves; contents = [] }

-- What the specification means is moved, and committed: first the configuration is read, then what is meant is looked for.
abbrev pub Moves : State → Way → LabelParts → GivenSpec → Result Effect Refusal → Type 0
Moves s way label given =
    AndThen (HasConfig (tree_of s.root)) (λ (config : Config).
    AndThen (Means (troves_of s.repository.commits) config given) (λ (root : TroveId).
    AndThen (IsMoved way label (troves_of s.repository.commits) root) (λ (made : List TroveParts).
    Commits (set_of_troves made) s.repository)))

-- What a specification means, with all that it reaches, as shadows on a label or as branches onto it.
abbrev pub move : Way → LabelParts → GivenSpec → Meaning
move way label given = record { takes_input = false; IsOutcome = λ s input. Moves s way label given }
