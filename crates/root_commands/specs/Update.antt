-- What `update` means.
use Rattle.std.specs.Prelude.{◌≡◌, true, false, List, Result, Ok, Err}
use Rattle.cli_call.specs.cny-base.declared.options.Options.{Options}
use Rattle.cli_call.specs.cny-base.declared.refusal.Refusal.{Refusal}
use Rattle.cli_call.specs.trove-stream.declared.parts.TroveParts.{TroveParts}
use Rattle.cli_call.specs.change-set.declared.change.Carried.{Carried}
use Rattle.cli_call.specs.change-set.declared.change.ChangeSet.{ChangeSet}
use Rattle.cli_call.specs.change-set.declared.change.Part.{Part}
use Rattle.update_job.specs.Made.{AreMade, IsFirstRefused}
use Rattle.cli_call.specs.content-store.Contents.{Answers, ContentMap}
use Rattle.cli_call.specs.system-core.Job.{sources_of}
use Rattle.cli_call.specs.system-core.Lists.{to_updated, ListStep}
use Rattle.cli_call.specs.cny-laws.State.{Effect, Meaning, State}
use Rattle.cli_call.specs.SetInput.{OfChangeSet}
use Rattle.trove_spec.specs.AndThen.{AndThen}
use Rattle.root_commands.specs.JobOutcome.{JobOutcome}

-- what a search of these contents answers
abbrev pub answers_of : ContentMap → Answers
answers_of contents name found = found ≡ contents name

-- The job of the list that follows so of the installed one, with the contents that come along and those of the repository.
abbrev pub JobFrom : Options → List Carried → (List TroveParts → ListStep) → State → Result Effect Refusal → Type 0
JobFrom options carried step s = JobOutcome (sources_of carried (answers_of s.repository.contents) options) (step s.root.installed) s.root

-- the same, as a meaning that takes no input
abbrev pub job_from : Options → List Carried → (List TroveParts → ListStep) → Meaning
job_from options carried step = record { takes_input = false; IsOutcome = λ s input. JobFrom options carried step s }

-- these troves follow, each in place of what its name reached
abbrev pub with_come : List TroveParts → List TroveParts → ListStep
with_come troves installed = to_updated installed troves

-- the job of these troves
abbrev pub UpdatesTo : Options → List Carried → List TroveParts → State → Result Effect Refusal → Type 0
UpdatesTo options carried troves s = JobFrom options carried (with_come troves) s

-- the same, as a meaning that takes no input
abbrev pub update_to : Options → List Carried → List TroveParts → Meaning
update_to options carried troves = job_from options carried (with_come troves)

-- ---- a change set

-- the troves that the parts make of installed ones; or the refusal of the first part that is refused
abbrev pub Comes : List TroveParts → List Part → Result (List TroveParts) Refusal → Type 0
Comes installed parts (Ok troves) = AreMade installed parts troves
Comes installed parts (Err refused) = IsFirstRefused installed parts refused

-- what a change set makes of the installed troves is put in, with its contents and those of the repository
abbrev pub UpdatesBy : Options → ChangeSet → State → Result Effect Refusal → Type 0
UpdatesBy options set s = AndThen (Comes s.root.installed set.parts) (λ (troves : List TroveParts). UpdatesTo options set.contents troves s)

-- the same, as a meaning that takes no input
abbrev pub update_by : Options → ChangeSet → Meaning
update_by options set = record { takes_input = false; IsOutcome = λ s input. UpdatesBy options set s }

-- the update by the change set that the input is
abbrev pub update_input : Options → Meaning
update_input options = record { takes_input = true; IsOutcome = λ s input. OfChangeSet input (λ (set : ChangeSet). UpdatesBy options set s) }
