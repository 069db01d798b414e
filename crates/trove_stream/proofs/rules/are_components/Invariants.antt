use Rattle.std.proofs.Common.{All, take}
use Rattle.trove_stream.specs.Trove.{IsComponentOf}
use Rattle.trove_stream.proofs.rules.are_components.Given as goal

abbrev pub invariant-loop-id : goal.invariant-loop-id
invariant-loop-id l = All (IsComponentOf l.whole) (take l.id-index l.refs)
