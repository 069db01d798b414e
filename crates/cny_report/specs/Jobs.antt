-- Jobs as texts: what they change in the installed list, the jobs on the stack, and those that were rolled back.
use Rattle.std.specs.Prelude.{ℕ, zero, suc, ◌-◌, List, [], ◌∷◌, ◌++◌, codes}
use Rattle.std.specs.Fmt.{decimal}
use Rattle.std.specs.List.{flat_map}
use Rattle.update_job.specs.declared.comparing.Change.{Change}
use Rattle.update_job.specs.declared.comparing.Change.TheVariants.{Installed, Updated, Erased}
use Rattle.cny_report.specs.declared.note.Note.{Note}
use Rattle.cny_report.specs.Troves.{nothing_changes, told_id}

-- the kind of change, and the id: the new one of a trove that was updated, the old one of a trove that was erased
abbrev pub change_line : Change → List ℕ
change_line (Installed id) = told_id (codes "installed ") id
change_line (Updated id) = told_id (codes "updated ") id
change_line (Erased id) = told_id (codes "erased ") id

-- a line for each change, or that nothing changes
abbrev pub changes_text : List Change → List ℕ
changes_text [] = nothing_changes
changes_text (change ∷ changes) = flat_map change_line (change ∷ changes)

-- the number of a job, and how many paths it changed
abbrev pub job_line : ℕ → ℕ → List ℕ
job_line number paths = codes "r." ++ decimal number ++ codes " paths " ++ decimal paths ++ 10 ∷ []

-- two spaces, and the line of a change
abbrev pub indented_line : Change → List ℕ
indented_line change = codes "  " ++ change_line change

-- the line of a job, and one for each change of the installed list
abbrev pub note_text : Note → List ℕ
note_text note = job_line note.number note.paths ++ flat_map indented_line note.changes

-- the jobs in the order given
abbrev pub undos_text : List Note → List ℕ
undos_text notes = flat_map note_text notes

abbrev pub rolled_back_line : ℕ → List ℕ
rolled_back_line number = codes "rolled back r." ++ decimal number ++ 10 ∷ []

-- so many numbers from this one down
abbrev pub downward : ℕ → ℕ → List ℕ
downward newest zero = []
downward newest (suc count) = newest ∷ downward (newest - 1) count

-- a line for each job that was rolled back, the newest first
abbrev pub rolled_back_text : ℕ → ℕ → List ℕ
rolled_back_text newest count = flat_map rolled_back_line (downward newest count)
