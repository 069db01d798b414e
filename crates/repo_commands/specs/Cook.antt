-- What `cook` means.
use Rattle.std.specs.Prelude.{◌≡◌, Bool, true, false, List, map, Result, Ok, Err}
use Rattle.cli_call.specs.cny-base.declared.refusal.Refusal.{Refusal}
use Rattle.cli_call.specs.trove-stream.declared.parts.TroveParts.{TroveParts}
use Rattle.cli_call.specs.change-set.declared.change.Carried.{Carried}
use Rattle.cli_call.specs.change-set.declared.change.ChangeSet.{ChangeSet}
use Rattle.cli_call.specs.change-set.declared.change.Part.TheVariants.{Whole}
use Rattle.cny_manifest.specs.declared.made.Made.{Made}
use Rattle.repo_load.specs.State.{troves_of, RepositoryState}
use Rattle.repo_index.specs.Next.{next_troves}
use Rattle.cli_call.specs.cny-laws.State.{Effect, Meaning}
use Rattle.repo_commands.specs.Commit.{Commits}
use Rattle.cli_call.specs.ManifestInput.{OfManifest}

-- the troves as they are, or with the version that comes next on their branch
abbrev pub cooked_troves : Bool → List TroveParts → List TroveParts → Result (List TroveParts) Refusal
cooked_troves false committed troves = Ok troves
cooked_troves true committed troves = next_troves committed troves

-- a change set of whole troves, with these contents
abbrev pub set_carrying : List Carried → List TroveParts → ChangeSet
set_carrying contents troves = record { parts = map Whole troves; contents = contents }

abbrev pub set_of_result : List Carried → Result (List TroveParts) Refusal → Result ChangeSet Refusal
set_of_result contents (Ok troves) = Ok (set_carrying contents troves)
set_of_result contents (Err refusal) = Err refusal

-- the change set that is committed, or why there is none
abbrev pub cooked_set : Bool → List TroveParts → Made → Result ChangeSet Refusal
cooked_set next committed made = set_of_result made.contents (cooked_troves next committed made.troves)

-- the outcome of the commit of that change set, or the refusal
abbrev pub CommitsSet : RepositoryState → Result ChangeSet Refusal → Result Effect Refusal → Type 0
CommitsSet r (Ok set) outcome = Commits set r outcome
CommitsSet r (Err refusal) outcome = outcome ≡ Err refusal

-- What a manifest makes is committed, with the next version or as it is.
abbrev pub Cooks : Bool → RepositoryState → Made → Result Effect Refusal → Type 0
Cooks next r made = CommitsSet r (cooked_set next (troves_of r.commits) made)

abbrev pub cook : Bool → Meaning
cook next = record { takes_input = true; IsOutcome = λ s input. OfManifest input (Cooks next s.repository) }
