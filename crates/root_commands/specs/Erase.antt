-- What `erase` means.
use Rattle.std.specs.Prelude.{ℕ, false, List, []}
use Rattle.cli_call.specs.cny-base.declared.options.Options.{Options}
use Rattle.cli_call.specs.system-core.Job.{no_answers, sources_of}
use Rattle.cli_call.specs.system-core.Lists.{to_erased}
use Rattle.cli_call.specs.cny-laws.State.{Meaning}
use Rattle.root_commands.specs.JobOutcome.{JobOutcome}

-- the troves of these names are taken away, with what they reach and no other installed trove keeps
abbrev pub erase : List (List ℕ) → Options → Meaning
erase names options = record { takes_input = false; IsOutcome = λ s input. JobOutcome (sources_of [] no_answers options) (to_erased s.root.installed names) s.root }
