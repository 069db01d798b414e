use Rattle.std.proofs.Common.{◌≡◌, drop}
use Rattle.trove_stream.specs.Forbidden.{first_forbidden}
use Rattle.trove_stream.proofs.forbidden.first_forbidden.Given as goal

abbrev pub invariant-loop-file : goal.invariant-loop-file
invariant-loop-file l = first_forbidden (drop l.file-index l.files) ≡ first_forbidden l.files
