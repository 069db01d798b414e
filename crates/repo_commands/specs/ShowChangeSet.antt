-- What `showcs` means.
use Rattle.std.specs.Prelude.{◌≡◌, ℕ, true, List, Result, Ok, Err}
use Rattle.cli_call.specs.cny-base.declared.refusal.Refusal.{Refusal}
use Rattle.cli_call.specs.change-set.declared.change.ChangeSet.{ChangeSet}
use Rattle.cli_call.specs.change-set.ChangeSet.{IsSetStream}
use Rattle.cli_call.specs.change-set.FirstFault.{IsFirstFault}
use Rattle.cny_report.specs.Changes.{change_text}
use Rattle.cli_call.specs.cny-laws.State.{nothing, Effect, Meaning}
use Rattle.cli_call.specs.SetInput.{IsNoSetStream}

-- the text of the change set; nothing changes
abbrev pub described : ChangeSet → Effect
described set = record { change = nothing; out = change_text set }

-- the description of the change set whose stream the bytes are, which is one at most; or their first fault, where they are
-- none's
abbrev pub IsDescribed : List ℕ → Result Effect Refusal → Type 0
IsDescribed bytes (Ok effect) = (set : ChangeSet) × IsSetStream set bytes × (effect ≡ described set)
IsDescribed bytes (Err refusal) = IsFirstFault bytes refusal × IsNoSetStream bytes

abbrev pub show_change_set : Meaning
show_change_set = record { takes_input = true; IsOutcome = λ s. IsDescribed }
