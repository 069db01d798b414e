use Rattle.std.proofs.Common.{◌≡◌, ◌++◌, string_bytes, length}
use Rattle.cny_report.specs.Troves.{troves_text}
use Rattle.repo_index.specs.Places.{troves_at}
use Rattle.repo_commands.proofs.listing.text_at.Given as goal

abbrev pub invariant-loop-rest : goal.invariant-loop-rest
invariant-loop-rest l = string_bytes l.text ++ troves_text (troves_at l.catalogue.troves l.rest) ≡ troves_text (troves_at l.catalogue.troves l.places)

abbrev pub decreases-loop-rest : goal.decreases-loop-rest
decreases-loop-rest l = length l.rest
