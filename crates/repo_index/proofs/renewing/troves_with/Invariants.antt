use Rattle.std.proofs.Common.{◌≡◌, map}
use Rattle.repo_index.specs.Next.{trove_with}
use Rattle.repo_index.proofs.renewing.troves_with.Given as goal

abbrev pub invariant-loop-trove : goal.invariant-loop-trove
invariant-loop-trove l = l.made.items ≡ map (trove_with l.version) l.yielded
