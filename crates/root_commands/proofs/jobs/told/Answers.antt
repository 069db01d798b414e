use Rattle.std.proofs.Common.{ap, ◌∙◌}
use Rattle.cny_report.specs.Jobs.{undos_text}
use Rattle.root_commands.proofs.jobs.told.Goals as goal

pub returns : goal.returns
returns c = record { notes = c.in_ok-notes.notes.items; noted = c.in_ok-notes.ensures; text_is = c.in_ok-text.ensures.value ∙ ap undos_text c.as_slice.ensures.value }
