use Rattle.std.proofs.Common.{◌≡◌}
use Rattle.tree_nodes.specs.Crash.{without_digits}
use Rattle.tree_nodes.proofs.crash.digit.Given as goal

abbrev pub invariant-loop : goal.invariant-loop
invariant-loop l = l.rest ≡ without_digits l.pick l.counter
