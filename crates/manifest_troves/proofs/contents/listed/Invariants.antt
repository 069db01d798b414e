use Rattle.std.proofs.Common.{◌≡◌, map}
use Rattle.manifest_troves.specs.Contents.{carried_of}
use Rattle.manifest_troves.proofs.contents.listed.Given as goal

abbrev pub invariant-loop-name : goal.invariant-loop-name
invariant-loop-name l = l.made.items ≡ map carried_of l.yielded
