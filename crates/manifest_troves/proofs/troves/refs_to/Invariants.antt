use Rattle.std.proofs.Common.{◌≡◌, ◌++◌, map}
use Rattle.std.specs.BTreeMap.{keys}
use Rattle.manifest_troves.specs.Troves.{with_name}
use Rattle.manifest_troves.proofs.troves.refs_to.Given as goal

abbrev pub invariant-loop-name : goal.invariant-loop-name
invariant-loop-name l = l.refs.items ++ map (with_name l.id) l.name-iterator ≡ map (with_name l.id) (keys l.shares)
