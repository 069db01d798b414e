use Rattle.std.proofs.Common.{take}
use Rattle.cny_pack.specs.Head.{AreDeps}
use Rattle.cny_pack.proofs.head.own_deps.Given as goal

abbrev pub invariant-loop-words : goal.invariant-loop-words
invariant-loop-words l = AreDeps l.whole (take l.words-index l.given) l.deps.keys
