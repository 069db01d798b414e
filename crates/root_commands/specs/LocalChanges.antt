-- What `localcs` means.
use Rattle.std.specs.Prelude.{◌≡◌, ◌⊎◌, ℕ, false, List, None, Some, Result, Ok, Err}
use Rattle.cli_call.specs.cny-base.declared.refusal.Refusal.{Refusal}
use Rattle.cli_call.specs.change-set.ChangeSet.{IsSetStream}
use Rattle.cli_call.specs.change-set.TooLarge.{too_large}
use Rattle.cli_call.specs.change-set.declared.change.ChangeSet.{ChangeSet}
use Rattle.root_edits.specs.Local.{IsLocal, IsLocalRefusal}
use Rattle.cli_call.specs.cny-laws.State.{nothing, tree_of, Effect, Meaning, RootState}

-- nothing changes, and the stream of the change set is answered; or the set is too large to have one
abbrev pub IsSetAnswered : ChangeSet → Result Effect Refusal → Type 0
IsSetAnswered set (Ok effect) = (effect.change ≡ nothing) × IsSetStream set effect.out × (too_large set ≡ None)
IsSetAnswered set (Err refused) = too_large set ≡ Some refused

-- the set of the local changes of what the trove of this name reaches is answered, or too large
pub record IsSetOf (name : List ℕ) (s : RootState) (outcome : Result Effect Refusal) : Type 0 where
  pub set : ChangeSet
  pub local : IsLocal s.installed name (tree_of s) set
  pub answered : IsSetAnswered set outcome

-- that, or there is no such set
abbrev pub ChangesLocally : List ℕ → RootState → Result Effect Refusal → Type 0
ChangesLocally name s (Ok effect) = IsSetOf name s (Ok effect)
ChangesLocally name s (Err refused) = IsLocalRefusal s.installed name (tree_of s) refused ⊎ IsSetOf name s (Err refused)

abbrev pub change_locally : List ℕ → Meaning
change_locally name = record { takes_input = false; IsOutcome = λ s input. ChangesLocally name s.root }
