use Rattle.std.proofs.Common.{subst, sym}
use Rattle.std.specs.Str.{IsUtf8}
use Rattle.trove_parts.proofs.ItemFields.{dep_is_utf8}
use Rattle.trove_parts.proofs.deps.DepElement.read.Goals as goal

pub returns-in-Err-clause-bad : goal.returns-in-Err-clause-bad
returns-in-Err-clause-bad c _ x valid same = c.in-Err.ensures.cases.0 (subst IsUtf8 (sym same) (dep_is_utf8 x valid))
