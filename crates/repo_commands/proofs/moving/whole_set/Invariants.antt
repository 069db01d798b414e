use Rattle.std.proofs.Common.{◌≡◌, map}
use Rattle.cli_call.specs.change-set.declared.change.Part.TheVariants.{Whole}
use Rattle.repo_commands.proofs.moving.whole_set.Given as goal

abbrev pub invariant-loop-trove : goal.invariant-loop-trove
invariant-loop-trove l = l.parts.items ≡ map Whole l.yielded
