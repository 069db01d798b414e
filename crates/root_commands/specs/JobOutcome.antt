-- What a job makes of a system, and what is answered.
use Rattle.std.specs.Prelude.{◌≡◌, ◌⊎◌, List, Result, Ok, Err}
use Rattle.cli_call.specs.cny-base.declared.refusal.Refusal.{Refusal}
use Rattle.cli_call.specs.journal-log.declared.put.Put.{Put}
use Rattle.cli_call.specs.trove-stream.declared.parts.TroveParts.{TroveParts}
use Rattle.update_job.specs.declared.comparing.Change.{Change}
use Rattle.update_job.specs.Changes.{AreChanges}
use Rattle.local_db.specs.Steps.{after_job}
use Rattle.cli_call.specs.system-core.Last.{ChangesNeither, PassesLast}
use Rattle.cli_call.specs.system-core.Job.{PassesTests, Sources, db_of}
use Rattle.cli_call.specs.system-core.Lists.{ListStep}
use Rattle.cli_call.specs.system-core.Steps.{IsRefusal}
use Rattle.cny_report.specs.Jobs.{changes_text}
use Rattle.cli_call.specs.cny-laws.State.{nothing, on_root, Change as Step, Effect, RootState}

-- Neither the tree nor the list changes; or the root has the system after the job.
abbrev pub IsChangeBy : RootState → List TroveParts → List Put → Step → Type 0
IsChangeBy s list puts step = (ChangesNeither (db_of s) list puts × (step ≡ nothing)) ⊎ (PassesLast (db_of s) list puts × (step ≡ on_root (after_job puts list s)))

-- A list follows, the tests of the job pass, the root changes so, and the changes of the list are told.
pub record IsJobEffect (from : Sources) (step : ListStep) (s : RootState) (e : Effect) : Type 0 where
  pub list : List TroveParts
  pub leads : step.leads list
  pub puts : List Put
  pub passes : PassesTests from s list puts
  pub changes : List Change
  pub are : AreChanges s.installed list changes
  pub change : IsChangeBy s list puts e.change
  pub out : e.out ≡ changes_text changes

-- the outcome of a job: its effect, or the first test that fails
abbrev pub JobOutcome : Sources → ListStep → RootState → Result Effect Refusal → Type 0
JobOutcome from step s (Ok e) = IsJobEffect from step s e
JobOutcome from step s (Err refused) = IsRefusal from step s refused
