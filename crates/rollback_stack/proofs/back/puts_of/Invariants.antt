use Rattle.std.proofs.Common.{◌≡◌, ◌++◌, map}
use Rattle.rollback_stack.specs.Wanting.{put_of, puts_in}
use Rattle.rollback_stack.proofs.back.puts_of.Given as goal

abbrev pub invariant-loop-path : goal.invariant-loop-path
invariant-loop-path l = l.items.items ++ map put_of l.path-iterator ≡ puts_in l.fn.wants
