use Rattle.std.proofs.Common.{take}
use Rattle.root_commands.specs.UpdateSpecs.{AreMeant}
use Rattle.root_commands.proofs.specified.all_meant.Given as goal

abbrev pub invariant-loop-given : goal.invariant-loop-given
invariant-loop-given l = AreMeant l.catalogue.troves l.config (take l.given-index l.givens) l.ids.items
