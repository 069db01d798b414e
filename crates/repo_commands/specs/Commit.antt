-- What `commit` means.
use Rattle.std.specs.Prelude.{◌≡◌, true, List, Result, Ok, Err}
use Rattle.cli_call.specs.cny-base.declared.refusal.Refusal.{Refusal}
use Rattle.cli_call.specs.trove-stream.declared.parts.TroveParts.{TroveParts}
use Rattle.cli_call.specs.change-set.declared.change.ChangeSet.{ChangeSet}
use Rattle.repo_load.specs.State.{catalogue_of, RepositoryState}
use Rattle.repository.specs.Steps.{after_commit, ids_of}
use Rattle.repository.specs.Tests.{IsRefused, Passes}
use Rattle.cny_report.specs.Troves.{committed_text}
use Rattle.cli_call.specs.cny-laws.State.{on_repository, Effect, Meaning}
use Rattle.cli_call.specs.SetInput.{OfChangeSet}

-- these troves are committed with the contents of a change set, and told
abbrev pub committed : RepositoryState → ChangeSet → List TroveParts → Effect
committed r set troves = record { change = on_repository (after_commit troves set.contents r); out = committed_text (ids_of troves) }

-- the change set makes troves of the repository, no test fails, and they are committed
pub record IsCommitEffect (r : RepositoryState) (set : ChangeSet) (effect : Effect) : Type 0 where
  pub troves : List TroveParts
  pub passes : Passes (catalogue_of r.commits) r.contents set troves
  pub is : effect ≡ committed r set troves

-- the outcome of a commit of a change set: its effect, or the first test that fails
abbrev pub Commits : ChangeSet → RepositoryState → Result Effect Refusal → Type 0
Commits set r (Ok effect) = IsCommitEffect r set effect
Commits set r (Err refusal) = IsRefused (catalogue_of r.commits) r.contents set refusal

-- the commit of one change set, whatever the input
abbrev pub commit_of : ChangeSet → Meaning
commit_of set = record { takes_input = true; IsOutcome = λ s input. Commits set s.repository }

-- the commit of the change set that the input is
abbrev pub commit : Meaning
commit = record { takes_input = true; IsOutcome = λ s input. OfChangeSet input (λ set. Commits set s.repository) }
