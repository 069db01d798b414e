-- What `update` of specifications means.
use Rattle.std.specs.Prelude.{◌≡◌, Bool, true, false, List, [], ◌∷◌, ◌++◌, None, Result, Ok, Err}
use Rattle.cli_call.specs.cny-base.declared.options.Options.{Options}
use Rattle.cli_call.specs.cny-base.declared.refusal.Refusal.{Refusal}
use Rattle.cli_call.specs.trove-parts.declared.id.TroveId.{TroveId}
use Rattle.cli_call.specs.trove-stream.declared.parts.TroveParts.{TroveParts}
use Rattle.trove_spec.specs.declared.config.Config.{Config}
use Rattle.trove_spec.specs.Expansion.{IsExpansion, IsOfOneName, first_of_same_name}
use Rattle.repo_load.specs.State.{troves_of}
use Rattle.trove_spec.specs.RootConfig.{HasConfig}
use Rattle.cli_call.specs.cny-laws.State.{tree_of, Effect, Meaning, State}
use Rattle.trove_spec.specs.declared.given.GivenSpec.{GivenSpec}
use Rattle.trove_spec.specs.AndThen.{AndThen}
use Rattle.trove_spec.specs.Meant.{Means}
use Rattle.sys_model.specs.Rounds.{Completes}
use Rattle.root_commands.specs.Update.{UpdatesTo}

-- each specification means the trove of the id at its place
abbrev pub AreMeant : List TroveParts → Config → List GivenSpec → List TroveId → Type 0
AreMeant troves config [] [] = Unit {0}
AreMeant troves config [] (id ∷ ids) = ⊥
AreMeant troves config (given ∷ givens) [] = ⊥
AreMeant troves config (given ∷ givens) (id ∷ ids) = Means troves config given (Ok id) × AreMeant troves config givens ids

-- The first specification that means no trove, and why: those before it mean one.
pub record IsFirstUnmeant (troves : List TroveParts) (config : Config) (givens : List GivenSpec) (refused : Refusal) : Type 0 where
  pub front : List GivenSpec
  pub ids : List TroveId
  pub given : GivenSpec
  pub behind : List GivenSpec
  pub is : givens ≡ front ++ given ∷ behind
  pub meant : AreMeant troves config front ids
  pub refuses : Means troves config given (Err refused)

-- the ids of the troves that the specifications mean, in their order; or the refusal of the first one that means none
abbrev pub MeanAll : List TroveParts → Config → List GivenSpec → Result (List TroveId) Refusal → Type 0
MeanAll troves config givens (Ok ids) = AreMeant troves config givens ids
MeanAll troves config givens (Err refused) = IsFirstUnmeant troves config givens refused

-- the troves that all of these ids reach together, or the refusal of two of one name
abbrev pub ReachAll : List TroveParts → List TroveId → Result (List TroveParts) Refusal → Type 0
ReachAll troves ids (Ok found) = IsExpansion troves ids found × (first_of_same_name found ≡ None)
ReachAll troves ids (Err refused) = IsOfOneName troves ids refused

-- the troves that these ids bring: all that they reach or, where the update completes itself, those of the round with which it ends
abbrev pub BringAll : Bool → List TroveParts → List TroveParts → Config → List TroveId → Result (List TroveParts) Refusal → Type 0
BringAll false troves installed config ids result = ReachAll troves ids result
BringAll true troves installed config ids result = Completes troves installed config ids result

-- What the specifications mean, with all that it brings, is put in with the contents of the repository: first the configuration is
-- read, then each specification is resolved, then what they bring is sought together.
abbrev pub UpdatesFrom : Options → Bool → List GivenSpec → State → Result Effect Refusal → Type 0
UpdatesFrom options resolve givens s =
    AndThen (HasConfig (tree_of s.root)) (λ (config : Config).
    AndThen (MeanAll (troves_of s.repository.commits) config givens) (λ (ids : List TroveId).
    AndThen (BringAll resolve (troves_of s.repository.commits) s.root.installed config ids) (λ (troves : List TroveParts).
    UpdatesTo options [] troves s)))

-- the update by specifications, which completes itself or not
abbrev pub update_specs : Options → Bool → List GivenSpec → Meaning
update_specs options resolve givens = record { takes_input = false; IsOutcome = λ s input. UpdatesFrom options resolve givens s }
