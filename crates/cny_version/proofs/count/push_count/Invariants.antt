use Rattle.std.proofs.Common.{◌≡◌, ◌++◌, string_bytes, take}
use Rattle.cny_version.proofs.CountLoops.{more_text}
use Rattle.cny_version.proofs.count.push_count.Given as goal

abbrev pub invariant-loop-number : goal.invariant-loop-number
invariant-loop-number l = string_bytes l.text ≡ string_bytes l.initial.text ++ more_text (take l.number-index l.rest)
