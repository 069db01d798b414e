-- What is told of a job, by the ids of the troves that it changed.
use Rattle.std.specs.Prelude.{◌≡◌, ℕ, Bool, true, false, if◌then◌else◌, List, [], ◌∷◌, Option, Some, None}
use Rattle.std.specs.List.{find}
use Rattle.std.specs.Option.{option_or}
use Rattle.std.specs.Str.{bytes_eq}
use Rattle.cli_call.specs.trove-parts.declared.id.TroveId.{TroveId}
use Rattle.cli_call.specs.trove-stream.declared.parts.TroveParts.{TroveParts}
use Rattle.cli_call.specs.tree-disk.Tree.{same_name}
use Rattle.cli_call.specs.trove-stream.Installed.{IsRising}
use Rattle.update_job.specs.declared.comparing.Change.{Change}
use Rattle.update_job.specs.declared.comparing.Change.TheVariants.{Installed, Updated, Erased}
use Rattle.update_job.specs.Changes.{AreChanges, Noted, noted}
use Rattle.cli_call.specs.past-jobs.Past.{AreChangedIds}
use Rattle.rollback_stack.specs.declared.undo.NotedJob.{NotedJob}
use Rattle.cny_report.specs.declared.note.Note.{Note}
use Rattle.cny_report.specs.Jobs.{undos_text}

-- the id of the name
abbrev pub id_by_name : List ℕ → List TroveId → Option TroveId
id_by_name name ids = find (λ (id : TroveId). bytes_eq id.name name) ids

-- An id of a trove before a job, or of one that came, makes this change of what was noted of its name, if it makes one.
abbrev pub change_by_id : Bool → TroveId → Option Change → Option Change
change_by_id true id None = Some (Installed id)
change_by_id false id None = Some (Erased id)
change_by_id true id (Some (Erased was)) = Some (Updated id)
change_by_id false id (Some (Erased was)) = None
change_by_id came id (Some (Installed other)) = None
change_by_id came id (Some (Updated other)) = None

-- what is noted then
abbrev pub turned : Bool → Option TroveId → Option Change → Option Change
turned came None old = old
turned came (Some id) old = option_or (change_by_id came id old) old

-- the id, if it has the name
abbrev pub id_if : TroveId → List ℕ → Option TroveId
id_if id name = if same_name id.name name then Some id else None

-- the same with the first id of each name of the list
abbrev pub HasTurned : Bool → List TroveId → Noted → Noted → Type 0
HasTurned came ids old new = (name : List ℕ) → noted new name ≡ turned came (id_by_name name ids) (noted old name)

-- The changes are those between any two lists of which these are the ids of the troves that differ.
abbrev pub LeadsThere : List TroveId → List TroveId → List Change → Type 0
LeadsThere was now changes = (before after : List TroveParts) → IsRising before → IsRising after → AreChangedIds before after was → AreChangedIds after before now → AreChanges before after changes

-- what is told of a job
pub record IsJobNoted (job : NotedJob) (note : Note) : Type 0 where
  pub number : note.number ≡ job.number
  pub changes : LeadsThere job.before job.after note.changes
  pub paths : note.paths ≡ job.paths

-- job by job
abbrev pub AreJobsNoted : List NotedJob → List Note → Type 0
AreJobsNoted [] [] = Unit {0}
AreJobsNoted (job ∷ jobs) (note ∷ notes) = IsJobNoted job note × AreJobsNoted jobs notes
AreJobsNoted _ _ = ⊥

-- these bytes are what is told of the jobs
pub record AreToldBy (jobs : List NotedJob) (text : List ℕ) : Type 0 where
  pub notes : List Note
  pub noted : AreJobsNoted jobs notes
  pub text_is : text ≡ undos_text notes
