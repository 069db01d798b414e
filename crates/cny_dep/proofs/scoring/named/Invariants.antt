use Rattle.std.proofs.Common.{◌≡◌, length}
use Rattle.cny_dep.specs.Score.{named}
use Rattle.cny_dep.proofs.scoring.named.Given as goal

abbrev pub invariant-loop-rest : goal.invariant-loop-rest
invariant-loop-rest g l = named g.T.Worded.word_of l.word l.rest ≡ named g.T.Worded.word_of l.word l.items

abbrev pub decreases-loop-rest : goal.decreases-loop-rest
decreases-loop-rest g l = length l.rest
