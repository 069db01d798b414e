use Rattle.std.proofs.Common.{◌≡◌, string_bytes}
use Rattle.cny_report.specs.Jobs.{rolled_back_text}
use Rattle.cny_report.proofs.jobs.rolled_back_text.Given as goal

abbrev pub invariant-loop-step : goal.invariant-loop-step
invariant-loop-step l = string_bytes l.text ≡ rolled_back_text l.newest l.step
