use Rattle.std.proofs.Common.{length}
use Rattle.cny_batch.proofs.Commands.{HasRead}
use Rattle.cny_batch.proofs.words.command_of.Given as goal

abbrev pub invariant-parts : goal.invariant-parts
invariant-parts l = HasRead l.line l.words l.rest l.behind

abbrev pub decreases-parts : goal.decreases-parts
decreases-parts l = length l.rest
