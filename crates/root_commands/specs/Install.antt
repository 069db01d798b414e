-- What `install` means.
use Rattle.std.specs.Prelude.{◌≡◌, ℕ, true, false, List, [], ◌∷◌, Option, Some, None, Result, Err}
use Rattle.std.specs.Option.{option_or}
use Rattle.cli_call.specs.cny-base.declared.options.Options.{Options}
use Rattle.cli_call.specs.cny-base.declared.refusal.Refusal.{Refusal}
use Rattle.cli_call.specs.cny-base.declared.refusal.Refusal.TheVariants as refusal
use Rattle.cli_call.specs.trove-stream.declared.parts.TroveParts.{TroveParts}
use Rattle.cli_call.specs.trove-stream.Forbidden.{first_forbidden}
use Rattle.cny_manifest.specs.declared.made.Made.{Made}
use Rattle.cli_call.specs.system-core.Job.{no_answers, sources_of}
use Rattle.cli_call.specs.system-core.Lists.{to_updated}
use Rattle.cli_call.specs.cny-laws.State.{Effect, Meaning, RootState}
use Rattle.cli_call.specs.ManifestInput.{OfManifest}
use Rattle.root_commands.specs.JobOutcome.{JobOutcome}

-- the first path that no trove may record, trove by trove
abbrev pub first_reserved : List TroveParts → Option (List ℕ)
first_reserved [] = None
first_reserved (t ∷ troves) = option_or (first_forbidden t.files) (first_reserved troves)

-- it is refused; where there is none, what comes then decides
abbrev pub UnlessReserved : Option (List ℕ) → (Result Effect Refusal → Type 0) → Result Effect Refusal → Type 0
UnlessReserved None IsOutcome outcome = IsOutcome outcome
UnlessReserved (Some path) IsOutcome outcome = outcome ≡ Err (refusal.Reserved path)

-- the job of the troves of a manifest, each in place of what its name reached, with the contents of the manifest
abbrev pub InstallsMade : Options → Made → RootState → Result Effect Refusal → Type 0
InstallsMade options made s = JobOutcome (sources_of made.contents no_answers options) (to_updated s.installed made.troves) s

-- the same, as a meaning that takes no input
abbrev pub install_made : Options → Made → Meaning
install_made options made = record { takes_input = false; IsOutcome = λ s input. InstallsMade options made s.root }

abbrev pub install : Options → Meaning
install options = record { takes_input = true; IsOutcome = λ s input. OfManifest input (λ made. UnlessReserved (first_reserved made.troves) (InstallsMade options made s.root)) }
