use Rattle.std.proofs.Common.{◌≡◌, take}
use Rattle.root_edits.specs.Steps.{chosen}
use Rattle.root_edits.proofs.reaching.chosen.Given as goal

abbrev pub invariant-loop-place : goal.invariant-loop-place
invariant-loop-place l = l.troves.items ≡ chosen l.places 0 (take l.place l.trove-items)
