use Rattle.std.proofs.Common.{◌≡◌, ◌++◌, List}
use Rattle.cny_pack.specs.Head.{AddsDeps}
use Rattle.cny_pack.proofs.Heading.{Pair}
use Rattle.cny_pack.proofs.head.push_deps.Given as goal

abbrev pub invariant-loop-name : goal.invariant-loop-name
invariant-loop-name l = (done : List Pair) × (done ++ l.name-iterator ≡ l.fn.deps.keys) × AddsDeps l.front done l.fn.text l.text l.lines.items
