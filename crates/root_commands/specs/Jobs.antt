-- What `rblist` means.
use Rattle.std.specs.Prelude.{◌≡◌, false, List, [], ◌∷◌, length, Result, Ok, Err}
use Rattle.cli_call.specs.cny-base.declared.refusal.Refusal.{Refusal}
use Rattle.cli_call.specs.trove-stream.declared.parts.TroveParts.{TroveParts}
use Rattle.local_db.specs.SystemState.{StackItem}
use Rattle.update_job.specs.Changes.{AreChanges}
use Rattle.cny_report.specs.declared.note.Note.{Note}
use Rattle.cny_report.specs.Jobs.{undos_text}
use Rattle.cli_call.specs.cny-laws.State.{Effect, Meaning, RootState}
use Rattle.cli_call.specs.Answer.{answer}

-- what is told of a job, by the list after it: its number, how it changed the list, and how many paths it changed
pub record IsNoteOf (after : List TroveParts) (o : StackItem) (note : Note) : Type 0 where
  pub number : note.number ≡ o.number
  pub changes : AreChanges o.list after note.changes
  pub paths : note.paths ≡ length o.paths

-- of all jobs, the newest first: the list after a job is that before the next newer one
abbrev pub AreNotesOf : List TroveParts → List StackItem → List Note → Type 0
AreNotesOf after [] [] = Unit {0}
AreNotesOf after (o ∷ olds) (note ∷ notes) = IsNoteOf after o note × AreNotesOf o.list olds notes
AreNotesOf _ _ _ = ⊥

-- nothing changes, and what is told of the jobs is answered
pub record TellsJobs (s : RootState) (effect : Effect) : Type 0 where
  pub notes : List Note
  pub are : AreNotesOf s.installed s.stack notes
  pub effect_is : effect ≡ answer (undos_text notes)

-- it isn't refused
abbrev pub ListsJobs : RootState → Result Effect Refusal → Type 0
ListsJobs s (Ok effect) = TellsJobs s effect
ListsJobs s (Err refused) = ⊥

abbrev pub list_jobs : Meaning
list_jobs = record { takes_input = false; IsOutcome = λ s input. ListsJobs s.root }
