use Rattle.repo_index.specs.Catalogue.{AreCommitted}
use Rattle.command_lines.proofs.between.troves_of.Given as goal

abbrev pub invariant-loop-id : goal.invariant-loop-id
invariant-loop-id l = AreCommitted l.catalogue.troves l.troves.items
