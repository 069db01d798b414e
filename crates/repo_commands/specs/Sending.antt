-- What `changeset` means.
use Rattle.std.specs.Prelude.{◌≡◌, ℕ, ◌≤◌, Bool, false, IsTrue, List, All, Option, Some, None, Result, Ok, Err}
use Rattle.cli_call.specs.cny-base.Count.{Rose}
use Rattle.cli_call.specs.cny-base.declared.refusal.Refusal.{Refusal}
use Rattle.cli_call.specs.cny-base.declared.stop.Stop.{Stop}
use Rattle.cli_call.specs.cny-base.declared.stop.Stop.TheVariants as stop
use Rattle.cli_call.specs.tree-disk.Tree.{Tree}
use Rattle.cli_call.specs.tree-disk.Disk.{DiskModel, HasRead}
use Rattle.cli_call.specs.trove-stream.declared.parts.TroveParts.{TroveParts}
use Rattle.trove_spec.specs.declared.config.Config.{Config}
use Rattle.cli_call.specs.change-set.ChangeSet.{IsSetStream}
use Rattle.cli_call.specs.change-set.TooLarge.{too_large}
use Rattle.cli_call.specs.change-set.declared.change.Carried.{Carried}
use Rattle.cli_call.specs.change-set.declared.change.ChangeSet.{ChangeSet}
use Rattle.repo_load.specs.State.{troves_of, RepositoryState}
use Rattle.repository.specs.Between.{HasStored, LeadsBetween}
use Rattle.repository.specs.Damage.{IsDamagedBetween}
use Rattle.trove_spec.specs.RootConfig.{HasConfig}
use Rattle.cli_call.specs.cny-laws.State.{nothing, tree_of, Effect, Meaning, State}
use Rattle.trove_spec.specs.declared.given.GivenSpec.{GivenSpec}
use Rattle.trove_spec.specs.AndThen.{AndThen}
use Rattle.trove_spec.specs.Meant.{Expands, ExpandsFrom}

-- ---- the set

-- the stream of a change set, or that it is too large to have one
abbrev pub IsSetWritten : ChangeSet → Result (List ℕ) Refusal → Type 0
IsSetWritten set (Ok bytes) = IsSetStream set bytes × (too_large set ≡ None)
IsSetWritten set (Err refused) = too_large set ≡ Some refused

-- nothing changes, and such a stream is answered
abbrev pub IsSetAnswered : ChangeSet → Result Effect Refusal → Type 0
IsSetAnswered set (Ok effect) = (effect.change ≡ nothing) × IsSetWritten set (Ok effect.out)
IsSetAnswered set (Err refused) = IsSetWritten set (Err refused)

-- The set that leads from the old troves to the new ones, with the contents of the repository, is answered, or too large.
pub record IsSent (r : RepositoryState) (old fresh : List TroveParts) (outcome : Result Effect Refusal) : Type 0 where
  pub set : ChangeSet
  pub between : LeadsBetween old fresh set
  pub held : All (λ (content : Carried). r.contents content.name ≡ Some content.bytes) set.contents
  pub answered : IsSetAnswered set outcome

-- ---- the command

-- what two specifications mean is sent: first the configuration is read, then the first one is expanded, then the second one
abbrev pub Sends : State → Option GivenSpec → GivenSpec → Result Effect Refusal → Type 0
Sends s from to =
    AndThen (HasConfig (tree_of s.root)) (λ (config : Config).
    AndThen (ExpandsFrom (troves_of s.repository.commits) config from) (λ (old : List TroveParts).
    AndThen (Expands (troves_of s.repository.commits) config to) (λ (fresh : List TroveParts).
    IsSent s.repository old fresh)))

-- The set that leads to what a specification means: from what another one means, or, where there is none, from no troves.
abbrev pub changeset : Option GivenSpec → GivenSpec → Meaning
changeset from to = record { takes_input = false; IsOutcome = λ s input. Sends s from to }

-- ---- on a disk

-- the same set with what stands in a tree
pub record IsSentFrom (tree : Tree) (old fresh : List TroveParts) (result : Result (List ℕ) Refusal) : Type 0 where
  pub set : ChangeSet
  pub between : LeadsBetween old fresh set
  pub stored : HasStored tree set
  pub written : IsSetWritten set result

-- How the sending ends: as the tree has it, where the disk tells it, or at a content of it that is damaged; else with a fault or want
-- of memory.
abbrev pub SendingEnds : Bool → List TroveParts → List TroveParts → Tree → Result (List ℕ) Stop → ℕ → ℕ → Type 0
SendingEnds told old fresh tree (Ok bytes) before now = IsTrue told → IsSentFrom tree old fresh (Ok bytes)
SendingEnds told old fresh tree (Err (stop.Refused refused)) before now = IsTrue told → IsSentFrom tree old fresh (Err refused)
SendingEnds told old fresh tree (Err (stop.Damaged path)) before now = IsTrue told → IsDamagedBetween old fresh tree path
SendingEnds told old fresh tree (Err stop.Failed) before now = Rose before now
SendingEnds told old fresh tree (Err stop.Memory) before now = Unit {0}
SendingEnds told old fresh tree (Err stop.FarFailed) before now = ⊥
SendingEnds told old fresh tree (Err (stop.FarDamaged path)) before now = ⊥

-- A set was sent, and nothing was changed.
pub record SendsFrom {D : Type 0} (disk : DiskModel D) (old fresh : List TroveParts) (before now : D) (result : Result (List ℕ) Stop) : Type 0 where
  pub later : disk.faults before ≤ disk.faults now
  pub same : IsTrue disk.tells → HasRead disk before now (Unit {0})
  pub ends : SendingEnds disk.tells old fresh (disk.reads before) result (disk.faults before) (disk.faults now)
