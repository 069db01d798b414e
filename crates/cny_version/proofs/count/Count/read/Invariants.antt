use Rattle.std.proofs.Common.{◌≡◌, length}
use Rattle.std.specs.Str.{IsUtf8}
use Rattle.cny_version.specs.Reading.{pieces, count_found}
use Rattle.cny_version.proofs.CountLoops.{behind}
use Rattle.cny_version.proofs.count.Count.read.Given as goal

abbrev pub invariant-loop-first : goal.invariant-loop-first
invariant-loop-first l = record { utf8 : IsUtf8 l.rest; same : behind l.numbers.items (count_found l.room (pieces 46 l.rest)) ≡ count_found l.depth (pieces 46 l.text) }

abbrev pub decreases-loop-first : goal.decreases-loop-first
decreases-loop-first l = length l.rest
