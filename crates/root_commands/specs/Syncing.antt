-- What `sync` means.
use Rattle.std.specs.Prelude.{false, List, [], Result}
use Rattle.cli_call.specs.cny-base.declared.options.Options.{Options}
use Rattle.cli_call.specs.cny-base.declared.refusal.Refusal.{Refusal}
use Rattle.cli_call.specs.trove-stream.declared.parts.TroveParts.{TroveParts}
use Rattle.repo_load.specs.State.{troves_of}
use Rattle.trove_spec.specs.declared.config.Config.{Config}
use Rattle.trove_spec.specs.AndThen.{AndThen}
use Rattle.trove_spec.specs.RootConfig.{HasConfig}
use Rattle.sys_model.specs.declared.model.Model.{Model}
use Rattle.sys_model.specs.RootModel.{HasModel}
use Rattle.sys_model.specs.Wanted.{Wants}
use Rattle.cli_call.specs.system-core.Lists.{to_list, ListStep}
use Rattle.cli_call.specs.cny-laws.State.{tree_of, Effect, Meaning, State}
use Rattle.root_commands.specs.Update.{JobFrom, job_from}

-- this list follows, whatever is installed
abbrev pub with_list : List TroveParts → List TroveParts → ListStep
with_list list installed = to_list list

-- the job with this list after it
abbrev pub AdoptsList : Options → List TroveParts → State → Result Effect Refusal → Type 0
AdoptsList options list s = JobFrom options [] (with_list list) s

-- the same, as a meaning that takes no input
abbrev pub adopt_list : Options → List TroveParts → Meaning
adopt_list options list = job_from options [] (with_list list)

-- The list that this model wants of the repository follows, by this configuration; or the model is refused.
abbrev pub AdoptsWanted : Options → Config → Model → State → Result Effect Refusal → Type 0
AdoptsWanted options config model s = AndThen (Wants (troves_of s.repository.commits) config model.lines) (λ (list : List TroveParts). AdoptsList options list s)

-- the same, as a meaning that takes no input
abbrev pub adopt_wanted : Options → Config → Model → Meaning
adopt_wanted options config model = record { takes_input = false; IsOutcome = λ s input. AdoptsWanted options config model s }

-- The same of the model that the root's file says.
abbrev pub SyncsWith : Options → Config → State → Result Effect Refusal → Type 0
SyncsWith options config s = AndThen (HasModel (tree_of s.root)) (λ (model : Model). AdoptsWanted options config model s)

-- the same, as a meaning that takes no input
abbrev pub sync_with : Options → Config → Meaning
sync_with options config = record { takes_input = false; IsOutcome = λ s input. SyncsWith options config s }

-- The root comes to have the installed list that its model wants, as one job: first the configuration is read, then the model, then
-- its lines make the list.
abbrev pub Syncs : Options → State → Result Effect Refusal → Type 0
Syncs options s = AndThen (HasConfig (tree_of s.root)) (λ (config : Config). SyncsWith options config s)

abbrev pub sync : Options → Meaning
sync options = record { takes_input = false; IsOutcome = λ s input. Syncs options s }
