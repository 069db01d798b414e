use Rattle.std.proofs.Common.{◌-◌, length}
use Rattle.sys_model.specs.Growing.{IsKnown, IsRoundOf}
use Rattle.sys_model.proofs.Completed.{AreRounds}
use Rattle.sys_model.proofs.completing.complete.Given as goal

abbrev pub invariant-loop-round : goal.invariant-loop-round
invariant-loop-round l = record {
  known : IsKnown l.known;
  is : IsRoundOf l.known.catalogue.now.troves l.known.installed.now l.all.items l.round;
  rounds : AreRounds l.known.catalogue.now.troves l.known.installed.now l.config l.roots l.all.items;
}

abbrev pub decreases-loop-round : goal.decreases-loop-round
decreases-loop-round l = length l.known.catalogue.now.troves - length l.round.places
