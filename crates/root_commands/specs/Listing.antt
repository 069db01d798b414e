-- What `q` means.
use Rattle.std.specs.Prelude.{◌≡◌, ℕ, false, List, Option, Some, None, Result, Ok, Err}
use Rattle.cli_call.specs.cny-base.declared.refusal.Refusal.{Refusal}
use Rattle.cli_call.specs.cny-base.declared.refusal.Refusal.TheVariants as refusal
use Rattle.cli_call.specs.trove-stream.declared.parts.TroveParts.{TroveParts}
use Rattle.cli_call.specs.trove-stream.Installed.{trove_of}
use Rattle.cny_report.specs.Records.{trove_text}
use Rattle.cny_report.specs.Troves.{troves_text}
use Rattle.cli_call.specs.cny-laws.State.{Effect, Meaning}
use Rattle.cli_call.specs.Answer.{answer}

-- what the trove records, if there is one
abbrev pub described_of : List ℕ → Option TroveParts → Result Effect Refusal
described_of name None = Err (refusal.NotInstalled name)
described_of name (Some trove) = Ok (answer (trove_text trove))

abbrev pub described : List ℕ → List TroveParts → Result Effect Refusal
described name installed = described_of name (trove_of name installed)

-- a line for each trove, or what the one of a name records
abbrev pub listed : Option (List ℕ) → List TroveParts → Result Effect Refusal
listed None installed = Ok (answer (troves_text installed))
listed (Some name) installed = described name installed

abbrev pub list_installed : Option (List ℕ) → Meaning
list_installed name = record { takes_input = false; IsOutcome = λ s input outcome. outcome ≡ listed name s.root.installed }
