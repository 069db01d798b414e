use Rattle.std.proofs.Common.{All, take}
use Rattle.trove_stream.specs.Trove.{HasOtherName}
use Rattle.trove_stream.proofs.rules.are_others.Given as goal

abbrev pub invariant-loop-id : goal.invariant-loop-id
invariant-loop-id l = All (HasOtherName l.group) (take l.id-index l.refs)
